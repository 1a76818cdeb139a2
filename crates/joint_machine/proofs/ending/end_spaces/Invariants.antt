use Rattle.std.proofs.Common.{◌≡◌, [], Option}
use Rattle.cloak_base.specs.declared.names.SpaceId.{SpaceId}
use Rattle.cloak_model.specs.Cloaking.{CloakedMemory}
use Rattle.cloaked_side.specs.Holding.{Holds, SameSize}
use Rattle.cloaked_side.specs.Tracking.{GoesBy}
use Rattle.joint_machine.specs.Turning.{spaces_below}
use Rattle.joint_machine.proofs.ending.end_spaces.Given as goal

-- the spaces below the next one ended
abbrev pub invariant-loop-number : goal.invariant-loop-number
invariant-loop-number l = record {
  size : SameSize l.fn.memory l.memory;
  same_pager : l.memory.pager ≡ l.fn.memory.pager;
  counting : l.memory.counting ≡ l.fn.memory.counting;
  holds : (m : CloakedMemory) → Holds l.fn.memory m → Holds l.memory m;
  goes : (space : Option SpaceId) → GoesBy l.fn.memory l.memory
      (record { space = space; events = []; items = []; changed = spaces_below l.domain l.number });
}
