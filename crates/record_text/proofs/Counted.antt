-- Items that are chosen one after another.
use Rattle.std.proofs.Common.{◌≡◌, ◌≤◌, ◌+◌, Bool, true, false, List, [], ◌∷◌, ◌++◌, length, Option, Some, None, refl, arith, length-append}
use Rattle.std.proofs.lemmas.List.Sums.{fold-append}
use Rattle.cloak_model.specs.Items.{Item}
use Rattle.record_text.specs.declared.place.RecordPlace.{RecordPlace}
use Rattle.record_text.specs.declared.selection.Selection.{Selection}
use Rattle.record_text.specs.Counting.{Chosen, chosen, chosen_more, chosen_more_by, none_chosen}
use Rattle.record_text.specs.Kinds.{has_item, place_marked}

-- one item more of a record
pub chosen-more : (s : Selection) (items : List Item) (i : Item) →
    chosen s (items ++ i ∷ []) ≡ chosen_more s (chosen s items) i
unfolding chosen
chosen-more s items i = fold-append (chosen_more s) none_chosen items (i ∷ [])

chosen_by-few : (s : Selection) (c : Chosen) (i : Item) (p : Option RecordPlace) (b : Bool) → has_item s c.place i ≡ b →
    length (chosen_more_by s c i p).items ≤ length c.items + 1
chosen_by-few s c i (Some p) b is = omega arith
chosen_by-few s c i None true is = rw is (omega (arith, length-append c.items (i ∷ [])))
chosen_by-few s c i None false is = rw is (omega arith)

-- at most one more is chosen
pub chosen-few : (s : Selection) (c : Chosen) (i : Item) → length (chosen_more s c i).items ≤ length c.items + 1
chosen-few s c i = chosen_by-few s c i (place_marked i) (has_item s c.place i) refl
