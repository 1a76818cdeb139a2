-- Items that are counted as they are read.
use Rattle.std.proofs.Common.{◌≡◌, ◌<◌, ◌≤◌, ◌+◌, ◌-◌, ◌^◌, ℕ, List, [], ◌∷◌, ◌++◌, length, Option, refl, sym, ap, subst, ◌∙◌, arith}
use Rattle.cloak_model.specs.Items.{Item}
use Rattle.record_reader.specs.Reading.{reader_offset}
use Rattle.record_reader.specs.declared.reader.Reader.{Reader}
use Rattle.read_back.specs.Items.{StandsAt}
use Rattle.record_text.specs.declared.counts.KindCounts.{KindCounts}
use Rattle.record_text.specs.declared.place.RecordPlace.{RecordPlace}
use Rattle.record_text.specs.declared.place.RecordPlace.TheVariants as place
use Rattle.record_text.specs.declared.selection.Selection.{Selection}
use Rattle.record_text.specs.Counting.{AreCounts, Chosen, chosen, chosen_more}
use Rattle.record_text.proofs.Counted.{chosen-few, chosen-more}

-- the items before a reader that are chosen were counted, and this is the place of what comes next
pub record CountedSoFar (s : Selection) (told : Option (List ℕ)) (reader : Reader) (counts : KindCounts) (p : RecordPlace) :
    Type 0 where
  pub items : List Item
  pub stands : StandsAt told reader items
  pub counted : AreCounts counts (chosen s items).items
  pub at : (chosen s items).place ≡ p
  pub few : length (chosen s items).items ≤ reader_offset reader

pub counts_open : (s : Selection) (told : Option (List ℕ)) (reader : Reader) (counts : KindCounts) →
    StandsAt told reader [] → AreCounts counts [] → CountedSoFar s told reader counts place.Opening
unfolding chosen
counts_open s told reader counts stands counted =
    record { items = []; stands = stands; counted = counted; at = refl; few = omega arith }

-- one item more
pub counts_on : (s : Selection) (told : Option (List ℕ)) (was now : Reader) (old new : KindCounts) (p q : RecordPlace) (i : Item) →
    (so_far : CountedSoFar s told was old p) → StandsAt told now (so_far.items ++ i ∷ []) →
    reader_offset was < reader_offset now → reader_offset now < 2 ^ 64 →
    ((c : Chosen) → c.place ≡ p → length c.items < 2 ^ 64 - 1 → AreCounts old c.items →
    AreCounts new (chosen_more s c i).items) →
    ((c : Chosen) → c.place ≡ p → q ≡ (chosen_more s c i).place) → CountedSoFar s told now new q
counts_on s told was now old new p q i so_far stands moved low counts places =
    let c : Chosen = chosen s so_far.items in
    let few : length c.items ≤ reader_offset was = so_far.few in
    let one : length (chosen_more s c i).items ≤ length c.items + 1 = chosen-few s c i in
    let more : chosen s (so_far.items ++ i ∷ []) ≡ chosen_more s c i = chosen-more s so_far.items i in
    record {
      items = so_far.items ++ i ∷ [];
      stands = stands;
      counted = subst (λ (x : Chosen). AreCounts new x.items) (sym more)
          (counts c so_far.at (omega (arith, few, moved, low)) so_far.counted);
      at = ap (λ (x : Chosen). x.place) more ∙ sym (places c so_far.at);
      few = subst (λ (x : Chosen). length x.items ≤ reader_offset now) (sym more) (omega (arith, few, one, moved));
    }
