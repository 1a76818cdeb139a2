use Rattle.joint_machine.proofs.Opens.{free_unused}
use Rattle.joint_machine.proofs.starting.joint_of.Goals as goal

pub invariant_of-result : goal.invariant_of-result
invariant_of-result c = record {
  few_harts = c.requires.few_harts;
  few = c.requires.few;
  served = c.requires.served;
  numbered = c.requires.numbered;
  unused = free_unused c.args.parts.domains.items c.args.parts.memory.pager c.requires.outside;
}
