-- Two fronts of a file, of which one is shorter.
use Rattle.std.proofs.Common.{◌≡◌, ◌∙◌, ◌<◌, ℕ, List, [], ◌∷◌, ◌++◌, length, Some, None, inl, inr, refl, sym, ap, subst, arith}
use Rattle.std.specs.List.{AllByRecursion, flat_map}
use Rattle.std.proofs.lemmas.List.{append-nil}
use Rattle.cloak_model.specs.Exchange.{item_bytes}
use Rattle.cloak_model.specs.Record.{IsItem, IsRecord}
use Rattle.cloak_model.specs.RecordFault.{Begins, stage_after, stage_behind}
use Rattle.cloak_model.specs.declared.fault.RecordFault.{RecordFault}
use Rattle.cloak_model.specs.Items.{Item}
use Rattle.cloak_model.specs.declared.record.Stage.{Stage}
use Rattle.cloak_model.specs.declared.record.Stage.TheVariants.{Opening}
use Rattle.record_law.proofs.Following.{Succeeds}
use Rattle.record_law.proofs.Judged.{Begins-front, end_stops, front_bytes, magic_right, magic_same, same_item, wrong_stops}
use Rattle.record_law.proofs.Orders.{Stands}
use Rattle.record_reader.specs.Reading.{HasFaultAt}
use Rattle.read_back.specs.Reading.{BeginsWith}

-- The longer front goes on with an item, and it stands in the bytes after the shorter one.
record GoesOn (s : Stage) (front longer : List Item) (rest end : List ℕ) : Type 0 where
  item : Item
  more : List Item
  order : longer ≡ front ++ item ∷ more
  bytes : rest ≡ item_bytes item ++ (flat_map item_bytes more ++ end)
  fits : IsItem item
  follows : Succeeds (stage_behind s front) item

goes_on : (s : Stage) (front longer : List Item) (rest end : List ℕ) → Stands s longer → AllByRecursion IsItem front →
    AllByRecursion IsItem longer → length front < length longer →
    flat_map item_bytes front ++ rest ≡ flat_map item_bytes longer ++ end → GoesOn s front longer rest end
unfolding stage_behind
goes_on s [] [] rest end stands ff fl short same = absurd (omega (arith, short))
goes_on s [] (j ∷ longer) rest end stands ff fl short same = record {
  item = j;
  more = longer;
  order = refl;
  bytes = same ∙ front_bytes j longer end;
  fits = fl.0;
  follows = stands.0;
}
goes_on s (i ∷ front) [] rest end stands ff fl short same = absurd (omega (arith, short))
goes_on s (i ∷ front) (j ∷ longer) rest end stands ff fl short same =
    let first = same_item i j (flat_map item_bytes front ++ rest) (flat_map item_bytes longer ++ end) ff.0 fl.0
    (sym (front_bytes i front rest) ∙ same ∙ front_bytes j longer end) in
    let stand : Stands (stage_after s i) longer =
    subst (λ (k : Item). Stands (stage_after s k) longer) (sym first.0) stands.1 in
    let others = goes_on (stage_after s i) front longer rest end stand ff.1 fl.1 (omega (arith, short)) first.1 in
    record {
      item = others.item;
      more = others.more;
      order = ap (λ (k : Item). k ∷ longer) (sym first.0) ∙ ap (λ (l : List Item). i ∷ l) others.order;
      bytes = others.bytes;
      fits = others.fits;
      follows = others.follows;
    }

-- a file begins with a longer front, which has an item
begins_longer : (file : List ℕ) (n : ℕ) (longer : List Item) → BeginsWith file longer → n < length longer →
    (end : List ℕ) × Begins file longer end
begins_longer file n longer (inl none) more =
    let empty : length longer ≡ 0 = ap (λ (l : List Item). length l) none in absurd (omega (arith, empty, more))
begins_longer file n longer (inr begins) more = begins

-- two fronts of a file
two_fronts : (file rest end : List ℕ) (front longer : List Item) → Begins file front rest → Begins file longer end →
    length front < length longer → GoesOn Opening front longer rest end
two_fronts file rest end front longer short long less =
    let a = Begins-front file front rest short in
    let b = Begins-front file longer end long in
    goes_on Opening front longer rest end b.stands a.fields b.fields less (magic_same _ _ (a.spells ∙ sym b.spells))

-- the shorter front is one of the longer
pub longer_goes_on : (file : List ℕ) (front longer : List Item) → BeginsWith file front → BeginsWith file longer →
    length front < length longer → (more : List Item) × (longer ≡ front ++ more)
longer_goes_on file front longer (inl none) long less = (longer, ap (λ (f : List Item). f ++ longer) (sym none))
longer_goes_on file front longer (inr short) long less =
    let there = begins_longer file (length front) longer long less in
    let next = two_fronts file short.0 there.0 front longer short.1 there.1 less in
    (next.item ∷ next.more, next.order)

-- the file is not at its end there
pub no_end : (file : List ℕ) (front longer : List Item) → IsRecord file front → BeginsWith file longer →
    length front < length longer → ⊥
no_end file front longer is long less =
    let there = begins_longer file (length front) longer long less in
    let b = Begins-front file longer there.0 there.1 in
    let next = goes_on Opening front longer [] there.0 b.stands is.fields b.fields less
    (append-nil _ ∙ magic_same _ _ (is.spells ∙ sym b.spells)) in
    end_stops _ next.item _ next.fits next.follows next.bytes

-- nothing is wrong there
pub no_fault : (file : List ℕ) (front longer : List Item) (fault : RecordFault) → HasFaultAt file front fault →
    BeginsWith file longer → length front < length longer → ⊥
no_fault file front longer fault (inl (none, magic)) long less =
    let there = begins_longer file (length front) longer long less in
    let b = Begins-front file longer there.0 there.1 in
    let clash : None ≡ Some fault = sym (magic_right file _ b.spells) ∙ magic in absurd cc
no_fault file front longer fault (inr (wrong, same)) long less =
    let shorter : length wrong.front < length longer =
    subst (λ (f : List Item). length f < length longer) (sym same) less in
    let there = begins_longer file (length wrong.front) longer long shorter in
    let next = two_fronts file wrong.rest there.0 wrong.front longer wrong.begins there.1 shorter in
    wrong_stops _ wrong.rest wrong.wrong wrong.is_wrong next.item _ next.fits next.follows next.bytes
