-- Items that are shown as objects as they are read.
use Rattle.std.proofs.Common.{◌≡◌, ℕ, List, [], ◌∷◌, ◌++◌, Option, None, Result, Ok, Err, refl, sym, ap, ◌∙◌}
use Rattle.std.proofs.lemmas.List.Sums.{fold-append}
use Rattle.cloak_base.specs.declared.causes.Failed.{Failed}
use Rattle.cloak_model.specs.Items.{Item}
use Rattle.io_traits.specs.declared.sink.Sink as sinks
use Rattle.read_back.specs.Items.{ReadsItems}
use Rattle.read_back.specs.declared.ending.Ending.{Ending}
use Rattle.kernel_report.specs.Putting.{Putting, PutsMore, putting}
use Rattle.kernel_report.proofs.PutFacts.{PutsMore-none, then, text_is}
use Rattle.record_text.specs.declared.place.RecordPlace.{RecordPlace}
use Rattle.record_text.specs.declared.place.RecordPlace.TheVariants as place
use Rattle.record_text.specs.declared.selection.Selection.{Selection}
use Rattle.record_json.specs.JsonText.{Objects, no_objects, object_more, objects, with_object}
use Rattle.record_json.specs.Showing.{ShowsObjects}
use Rattle.record_json.specs.Taking.{TookAsObjects}
use Rattle.record_json.specs.declared.showing.ObjectsOutput.{ObjectsOutput}

-- one item more
objects-more : (s : Selection) (items : List Item) (i : Item) →
    objects s (items ++ i ∷ []) ≡ with_object s (objects s items) i
unfolding objects
objects-more s items i = fold-append (with_object s) no_objects items (i ∷ [])

pub text_more : (s : Selection) (items : List Item) (i : Item) (p : RecordPlace) {old mid new : Putting} →
    p ≡ (objects s items).place → PutsMore old mid (objects s items).text → PutsMore mid new (object_more s p i).text →
    PutsMore old new (objects s (items ++ i ∷ [])).text
text_more s items i p {old} {mid} {new} at before text = text_is (then before text)
    (ap (λ (q : RecordPlace). (objects s items).text ++ (object_more s q i).text) at
    ∙ ap (λ (x : Objects). x.text) (sym (objects-more s items i)))

pub place_more : (s : Selection) (items : List Item) (i : Item) (p : RecordPlace) → p ≡ (objects s items).place →
    (object_more s p i).place ≡ (objects s (items ++ i ∷ [])).place
place_more s items i p at =
    ap (λ (q : RecordPlace). (object_more s q i).place) at ∙ ap (λ (x : Objects). x.place) (sym (objects-more s items i))

-- nothing yet
pub no_text : (s : Selection) (at : Putting) → PutsMore at at (objects s []).text
unfolding objects
no_text s at = PutsMore-none at

pub no_place : (s : Selection) → place.Opening ≡ (objects s []).place
unfolding objects
no_place s = refl

-- what was shown as reading ended
pub shows_so : {O : Type 0} {sink : sinks.Ghosts O} {first now : ObjectsOutput O} {told : Option (List ℕ)} {m n : ℕ}
    (result : Result Ending Failed) → ReadsItems (TookAsObjects sink first now) told m n result →
    ShowsObjects first.selection.now told m n (putting sink first.out.now (Ok tt)) (putting sink now.out.now) result
shows_so {O} {sink} {first} {now} {told} {m} {n} (Ok ended) read =
    record { items = read.items; read = read.read; text = read.taken.text }
shows_so {O} {sink} {first} {now} {told} {m} {n} (Err failed) read =
    (None, record { items = read.items; read = read.read; text = read.taken.text })
