-- Where a reader stands in a file that is a record, or has a fault.
use Rattle.std.proofs.Common.{◌≡◌, ℕ, ◌⊎◌, inl, inr, List, [], ◌∷◌, ◌++◌, length, length-append, drop, false, ltb, arith, Option, Some, None, Result, Ok, Err, refl, sym, ap, subst, ◌∙◌}
use Rattle.std.specs.List.{flat_map, AllByRecursion}
use Rattle.std.proofs.lemmas.Bool.{le-ltb}
use Rattle.std.proofs.lemmas.List.{append-nil}
use Rattle.cloak_model.specs.Items.{Item}
use Rattle.cloak_model.specs.declared.record.Stage.{Stage}
use Rattle.cloak_model.specs.declared.record.Stage.TheVariants.{Opening}
use Rattle.cloak_model.specs.declared.fault.RecordFault.{RecordFault}
use Rattle.cloak_model.specs.Exchange.{item_bytes, record_magic, record_of}
use Rattle.cloak_model.specs.Record.{IsItem, IsRecord}
use Rattle.cloak_model.specs.RecordFault.{HasFault, Begins, stage_after, stage_behind, magic_fault}
use Rattle.record_law.proofs.Judged.{Front, Begins-front, Stops, end_stops, wrong_stops, same_item, same_front, one_record, one_fault, not_both, front_bytes, magic_same}
use Rattle.record_law.proofs.Orders.{Stands, exchange_ends}
use Rattle.record_reader.specs.declared.fault.NextFault.{NextFault}
use Rattle.record_reader.specs.declared.fault.NextFault.TheVariants.{Read, Record}
use Rattle.record_reader.specs.declared.reader.Reader.{Reader}
use Rattle.record_reader.specs.Reading.{IsBehind, ReadsNext, HasFaultAt}
use Rattle.record_reader.specs.InOrder.{AreFirst, GivesItems, GivesFault, items_before}

-- what stands at the front of bytes is the first of what stands there as far as anything may
are_first : (s : Stage) (f g : List Item) (r q : List ℕ) → Stands s f → Stands s g → AllByRecursion IsItem f → AllByRecursion IsItem g → Stops (stage_behind s g) q
    → flat_map item_bytes f ++ r ≡ flat_map item_bytes g ++ q → AreFirst f g
unfolding stage_behind
are_first s [] g r q sf sg ff fg ag e = (g, refl)
are_first s (i ∷ f) [] r q sf sg ff fg ag e = absurd (ag i (flat_map item_bytes f ++ r) ff.0 sf.0 (sym e ∙ front_bytes i f r))
are_first s (i ∷ f) (j ∷ g) r q sf sg ff fg ag e =
    let first = same_item i j (flat_map item_bytes f ++ r) (flat_map item_bytes g ++ q) ff.0 fg.0 (sym (front_bytes i f r) ∙ e ∙ front_bytes j g q) in
    let stand : Stands (stage_after s i) g = subst (λ k. Stands (stage_after s k) g) (sym first.0) sg.1 in
    let stop : Stops (stage_behind (stage_after s i) g) q = subst (λ k. Stops (stage_behind (stage_after s k) g) q) (sym first.0) ag in
    let others = are_first (stage_after s i) f g r q sf.1 stand ff.1 fg.1 stop first.1 in
    (others.0, ap (λ (l : List Item). i ∷ l) others.1 ∙ ap (λ k. k ∷ g) first.0)

place_first : (file : List ℕ) (front items : List Item) (at : ℕ) (q : List ℕ) → ((at ≡ 0) × (front ≡ [])) ⊎ ((at ≡ length (record_of front)) × Begins file front (drop at file))
    → Front file items q → Stops (stage_behind Opening items) q → AreFirst front items
place_first file front items at q (inl start) f stops = (items, ap (λ (l : List Item). l ++ items) start.1)
place_first file front items at q (inr behind) f stops =
    let b = Begins-front file front (drop at file) behind.1 in
    are_first Opening front items (drop at file) q b.stands f.stands b.fields f.fields stops (magic_same _ _ (b.spells ∙ sym f.spells))

record_front : (file : List ℕ) (items : List Item) → IsRecord file items → Front file items []
record_front file items r =
    record { spells = ap (λ (l : List ℕ). record_magic ++ l) (append-nil (flat_map item_bytes items)) ∙ r.spells; fields = r.fields; stands = (exchange_ends items r.exchange).0 }

stands_first : (file : List ℕ) (items front : List Item) (reader : Reader) → IsRecord file items → IsBehind reader file front → AreFirst front items
stands_first file items front reader r behind = place_first file front items reader.at [] behind.0.place (record_front file items r) (end_stops _)

fault_there : (file : List ℕ) (front : List Item) (fault : RecordFault) → HasFaultAt file front fault → HasFault file fault
fault_there file front fault (inl start) = inl start.1
fault_there file front fault (inr wrong) = inr wrong.0

gives_items : (file : List ℕ) (items front : List Item) (reader : Reader) (result : Result (Option Item) NextFault) → IsRecord file items → ReadsNext file front reader result → GivesItems items front result
gives_items file items front reader (Ok (Some i)) r next = stands_first file items (front ++ i ∷ []) reader r next.behind
gives_items file items front reader (Ok None) r next = one_record file front items next.answer r
gives_items file items front reader (Err Read) r next = tt
gives_items file items front reader (Err (Record fault)) r next = not_both file items fault r (fault_there file front fault next.answer)

pub record_is_read : (file : List ℕ) (items front : List Item) (old new : Reader) (result : Result (Option Item) NextFault) →
    IsRecord file items → IsBehind old file front → ReadsNext file front new result → AreFirst front items × GivesItems items front result
record_is_read file items front old new result r behind next = (stands_first file items front old r behind, gives_items file items front new result r next)

-- a file that begins with the magic has no fault there
magic_right : (rest : List ℕ) → magic_fault (record_magic ++ rest) ≡ None
unfolding magic_fault
magic_right rest =
    let long : ltb (length (record_magic ++ rest)) 8 ≡ false = le-ltb _ _ (omega (arith, length-append record_magic rest)) in
    rw long refl

no_magic : (file rest : List ℕ) (front : List Item) (fault : RecordFault) → magic_fault file ≡ Some fault → Front file front rest → ⊥
no_magic file rest front fault magic f = (let right = magic_right (flat_map item_bytes front ++ rest) in let none : magic_fault file ≡ None = ap magic_fault (sym f.spells) ∙ right in cc)

-- nothing stands in a file without the magic
place_nothing : (file : List ℕ) (fault : RecordFault) (front : List Item) (at : ℕ) → magic_fault file ≡ Some fault → ((at ≡ 0) × (front ≡ [])) ⊎ ((at ≡ length (record_of front)) × Begins file front (drop at file)) → front ≡ []
place_nothing file fault front at magic (inl start) = start.1
place_nothing file fault front at magic (inr behind) = absurd (no_magic file (drop at file) front fault magic (Begins-front file front (drop at file) behind.1))

first_before : (file : List ℕ) (fault : RecordFault) (front : List Item) (reader : Reader) (has : HasFault file fault) → IsBehind reader file front → AreFirst front (items_before has)
first_before file fault front reader (inl magic) behind = ([], append-nil front ∙ place_nothing file fault front reader.at magic behind.0.place)
first_before file fault front reader (inr x) behind =
    place_first file front x.front reader.at x.rest behind.0.place (Begins-front file x.front x.rest x.begins) (wrong_stops _ x.rest x.wrong x.is_wrong)

-- the items before a fault are all that stand before any
before_same : (file : List ℕ) (a b : RecordFault) (front : List Item) → HasFaultAt file front a → (has : HasFault file b) → front ≡ items_before has
before_same file a b front (inl start) (inl magic) = start.0
before_same file a b front (inl start) (inr y) = absurd (no_magic file y.rest y.front a start.1 (Begins-front file y.front y.rest y.begins))
before_same file a b front (inr at) (inl magic) = absurd (no_magic file at.0.rest at.0.front b magic (Begins-front file at.0.front at.0.rest at.0.begins))
before_same file a b front (inr at) (inr y) =
    let x = at.0 in
    let f = Begins-front file x.front x.rest x.begins in
    let g = Begins-front file y.front y.rest y.begins in
    sym at.1 ∙ (same_front Opening x.front y.front x.rest y.rest f.stands g.stands f.fields g.fields (wrong_stops _ x.rest x.wrong x.is_wrong) (wrong_stops _ y.rest y.wrong y.is_wrong)
    (magic_same _ _ (f.spells ∙ sym g.spells))).0

gives_fault : (file : List ℕ) (fault : RecordFault) (front : List Item) (reader : Reader) (result : Result (Option Item) NextFault) (has : HasFault file fault) → ReadsNext file front reader result → GivesFault (items_before has) fault front result
gives_fault file fault front reader (Ok (Some i)) has next = first_before file fault (front ++ i ∷ []) reader has next.behind
gives_fault file fault front reader (Ok None) has next = not_both file front fault next.answer has
gives_fault file fault front reader (Err Read) has next = tt
gives_fault file fault front reader (Err (Record first)) has next = (one_fault file first fault (fault_there file front first next.answer) has, before_same file first fault front next.answer has)

pub fault_is_read : (file : List ℕ) (fault : RecordFault) (front : List Item) (old new : Reader) (result : Result (Option Item) NextFault) →
    (has : HasFault file fault) → IsBehind old file front → ReadsNext file front new result → AreFirst front (items_before has) × GivesFault (items_before has) fault front result
fault_is_read file fault front old new result has behind next = (first_before file fault front old has behind, gives_fault file fault front new result has next)
