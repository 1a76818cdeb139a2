use Rattle.std.proofs.Common.{ap}
use Rattle.cloaked_side.specs.declared.memory.Memory.{Memory}
use Rattle.joint_machine.proofs.going.leave_context.Goals as goal

pub returns-clause-unmarks : goal.returns-clause-unmarks
returns-clause-unmarks g c = record {
  same = record {
    pager = ap (λ (m : Memory). m.pager) c.unmark.ensures.state;
    shadows = ap (λ (m : Memory). m.shadows) c.unmark.ensures.state;
    counting = ap (λ (m : Memory). m.counting) c.unmark.ensures.state;
  };
  holds = c.unmark.ensures.holds;
}
