use Rattle.std.proofs.Common.{◌∙◌, ap, sym}
use Rattle.std.specs.List.{list_any}
use Rattle.std.specs.Option.{is_some}
use Rattle.host_calls.proofs.Marks.{none_left}
use Rattle.host_calls.proofs.reservations.Reservations.end.Goals as goal

pub invariant_of-self : goal.invariant_of-self
invariant_of-self c =
    λ none. none_left _ (sym (ap (list_any is_some) c.as_slice.ensures.value) ∙ sym c.has_reservation-is_left.ensures ∙ none)
