use Rattle.std.proofs.Common.{◌≡◌, ◌<◌, ℕ, None}
use Rattle.cloak_model.specs.Cloaking.{CloakedMemory}
use Rattle.cloak_model.specs.Hart.{Hart}
use Rattle.cloak_model.specs.Exchange.{EmitsSome}
use Rattle.cloak_model.specs.Joint.{cloak_outside}
use Rattle.cloak_model.specs.Run.{settled_below}
use Rattle.cloak_pager.specs.State.{held_in}
use Rattle.cloaked_side.specs.Holding.{Holds, SameSize}
use Rattle.joint_machine.specs.Closing.{SettlesFrames}
use Rattle.joint_machine.proofs.closing.settle_all.Given as goal

-- the frames below the next one are settled
abbrev pub invariant-loop-i : goal.invariant-loop-i
invariant-loop-i g l = record {
  size : SameSize l.fn.memory l.memory;
  outside : (k : ℕ) → k < l.i → held_in l.memory.pager k ≡ None;
  emits_some : EmitsSome g.E.Emit.gave l.fn.e l.e;
  settles : (m : CloakedMemory) (h : Hart) → Holds l.fn.memory m →
      SettlesFrames g.E.Emit.gave l.fn.e l.e l.memory (settled_below l.i (cloak_outside m h));
}
