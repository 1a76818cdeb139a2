use Rattle.std.proofs.Common.{refl, sym}
use Rattle.record_json.proofs.ObjectsSoFar.{no_place, no_text, shows_so}
use Rattle.record_json.proofs.showing.show_objects.Goals as goal

pub for_each_item-requires-clause-none : goal.for_each_item-requires-clause-none
for_each_item-requires-clause-none g c =
    record { text = no_text _ _; at = no_place _; same_selection = refl; same_out = refl }

pub returns-clause-shows : goal.returns-clause-shows
returns-clause-shows g c =
    rw (c.out-1.given.1 (sym c.for_each_item.ensures.reads.taken.same_out))
    (shows_so c.for_each_item.result c.for_each_item.ensures.reads)
