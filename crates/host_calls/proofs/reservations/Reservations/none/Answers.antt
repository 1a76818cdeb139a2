use Rattle.host_calls.proofs.Marks.{none_at_first, none_in_all}
use Rattle.host_calls.proofs.reservations.Reservations.none.Goals as goal

pub invariant_of-result : goal.invariant_of-result
invariant_of-result c =
    λ none. none_in_all c.args.harts _ (none_at_first _ _ _ c.requires c.from_array_in-words.ensures.items c.truncate.ensures.items)

pub returns : goal.returns
returns c = none_at_first _ _ _ c.requires c.from_array_in-words.ensures.items c.truncate.ensures.items
