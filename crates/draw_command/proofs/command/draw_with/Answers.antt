use Rattle.draw_command.proofs.Answered.{reading_same, reads_same, reads_unread}
use Rattle.draw_command.proofs.command.draw_with.Goals as goal

pub returns-then-is_unread-clause-makes : goal.returns-then-is_unread-clause-makes
returns-then-is_unread-clause-makes g c =
    reads_unread _ _ _ _ c.in-Ok.once.ending c.is_unread.result c.is_unread.ensures c.if-is_unread.true c.in-Ok.ensures.reads

pub returns-in-Ok-drawn-clause-makes : goal.returns-in-Ok-drawn-clause-makes
returns-in-Ok-drawn-clause-makes g c = (
  c.in-Ok-drawn.ensures.text,
  (
    reads_same _ _ _ _ _ _ c.in-Ok-drawn.ensures.ending c.in-Ok.ensures.reads,
    reading_same _ _ _ _ c.in-Ok.once.ending c.is_unread.result c.is_unread.ensures c.if-is_unread.false c.in-Ok.ensures.reads,
  ),
)
