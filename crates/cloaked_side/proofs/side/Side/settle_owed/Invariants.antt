use Rattle.std.proofs.Common.{◌≡◌, ◌<◌, ℕ, false}
use Rattle.cloak_model.specs.Asking.{Keeps}
use Rattle.cloak_model.specs.AskPages.{is_marked}
use Rattle.cloak_model.specs.Ending.{all_marked, settled_for}
use Rattle.cloak_pager.specs.State.{owed_at}
use Rattle.cloaked_side.specs.Holding.{frames_of}
use Rattle.cloaked_side.specs.Seeing.{Becomes, StaysWithin}
use Rattle.cloaked_side.proofs.side.Side.settle_owed.Given as goal

abbrev pub invariant-loop-i : goal.invariant-loop-i
invariant-loop-i g l = record {
  sees : Becomes g.E.Emit.gave l.fn.self l.self (settled_for l.domain 0 l.i);
  keeps : Keeps (StaysWithin g.E.Emit.gave) l.fn.self l.self;
  same_count : frames_of l.self.memory.now ≡ l.count;
  cleared : (k : ℕ) → k < l.i → is_marked l.domain all_marked (owed_at l.self.memory.now.pager k) ≡ false;
}
