use Rattle.host_calls.proofs.Marks.{none_to_unmark}
use Rattle.host_calls.proofs.reservations.Reservations.unmark.Goals as goal

pub returns-then-not-self : goal.returns-then-not-self
returns-then-not-self c = none_to_unmark _ _ c.args.hart c.self.view_is (c.self.invariant c.if-not-self.true)
