use Rattle.std.proofs.Common.{Bool}
use Rattle.cloak_base.specs.declared.names.PageId.{PageId}
use Rattle.cloak_model.specs.Cloaking.{CloakedMemory}
use Rattle.cloak_pager.specs.Relation.{StandsForMemory}
use Rattle.cloak_pager.proofs.Closing.{ClosedBelow}
use Rattle.cloak_pager.proofs.pager.Pager.close.Given as goal

abbrev pub invariant-loop-i : goal.invariant-loop-i
invariant-loop-i l = record {
  closed : ClosedBelow l.initial.self l.self l.i;
  stands : (w : PageId → Bool) (m : CloakedMemory) → StandsForMemory l.initial.self w m → StandsForMemory l.self w m;
}
