use Rattle.draw_command.proofs.Answered.{makes_since, reading_same, reads_unread}
use Rattle.draw_command.proofs.command.make_picture.Goals as goal

pub returns-then-is_unread-clause-makes : goal.returns-then-is_unread-clause-makes
returns-then-is_unread-clause-makes g c =
    reads_unread _ _ _ _ c.in-Ok.once.ending c.is_unread.result c.is_unread.ensures c.if-is_unread.true c.in-Ok.ensures.reads

pub returns-in-Ok-plan_of-clause-makes : goal.returns-in-Ok-plan_of-clause-makes
returns-in-Ok-plan_of-clause-makes g c =
    makes_since c.args.bundle.now.kernel _ _ _ _ _ c.draw_with.result (c.in-Ok.ensures.files c.args.name.now)
    (reading_same _ _ _ _ c.in-Ok.once.ending c.is_unread.result c.is_unread.ensures c.if-is_unread.false c.in-Ok.ensures.reads)
    c.draw_with.ensures.makes
