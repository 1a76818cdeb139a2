use Rattle.joint_machine.proofs.Continued.{continues_shown, continues_unknown, stays_unknown}
use Rattle.joint_machine.proofs.filing.restore_page.Goals as goal

pub returns-in-Some-clause-continues : goal.returns-in-Some-clause-continues
returns-in-Some-clause-continues c =
    continues_shown c.args.pager.now c.restore.new.self c.args.q c.in-Some.m c.args.known c.in-Some.is c.restore.ensures.model

pub returns-in_default-clause-state : goal.returns-in_default-clause-state
returns-in_default-clause-state c =
    stays_unknown c.args.pager.now c.args.q c.args.known c.in_default.is c.requires.fresh.0

pub returns-in_default-clause-continues : goal.returns-in_default-clause-continues
returns-in_default-clause-continues c = continues_unknown c.args.pager.now c.args.q c.args.known c.in_default.is
