use Rattle.host_calls.proofs.Marks.{none_to_end}
use Rattle.host_calls.proofs.reservations.Reservations.word_written.Goals as goal

pub returns-else-self : goal.returns-else-self
returns-else-self c = none_to_end _ _ _ c.self.view_is (c.self.invariant c.if-self.false)
