use Rattle.std.proofs.Common.{◌∙◌, sym}
use Rattle.hypercalls.proofs.Fitted.{fits_written}
use Rattle.hypercalls.proofs.control.Control.end_reservations.Goals as goal

pub invariant_of-self : goal.invariant_of-self
invariant_of-self c = (
  fits_written (record { number = c.self.inside.number; contexts = c.self.inside.contexts; resources = c.self.inside.resources; ended = c.self.inside.ended }) c.args.word _ c.self.invariant.0 c.word_written.ensures,
  λ none. sym c.have_reservation-self-inside.ensures ∙ none,
)
