use Rattle.std.proofs.Common.{refl}
use Rattle.hypercalls.proofs.Stepping.{copy_steps}
use Rattle.hypercalls.proofs.domain.Domain.copy_on.Goals as goal

pub returns-clause-steps : goal.returns-clause-steps
returns-clause-steps g c =
    copy_steps g.M.PageSide.stands_for c.args.m.now c.copy-copied.new.m c.copy-copied.new.m c.args.self.now (record { control = c.copy-copied.new.self; loads = c.args.self.now.loads }) c.copy_ended.new.self (record { control = c.after_write.new.self; loads = c.copy_ended.new.self.loads }) c.copy_ended.result c.args.slot
    c.requires.runs c.copy-copied.ensures.slot refl c.copy-copied.result.wrote c.after_write.ensures.contexts refl
    c.copy-copied.result.ending c.requires.copying c.copy-copied.ensures.stopped_unchanged c.copy-copied.ensures.copies c.copy_ended.ensures.ends
