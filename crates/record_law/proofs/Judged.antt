-- A file is one record or has one first fault.
use Rattle.std.proofs.Common.{◌≡◌, ℕ, zero, suc, ◌+◌, ◌<◌, true, false, ◌⊎◌, inl, inr, ltb, List, [], ◌∷◌, ◌++◌, length, get_or, take, drop, Option, Some, None, refl, sym, ap, subst, ◌∙◌, append_assoc, length-append, arith}
use Rattle.std.specs.List.{flat_map, AllByRecursion}
use Rattle.std.specs.Str.{bytes_eq}
use Rattle.std.proofs.lemmas.Slice.Eq.{bytes_eq-Decides}
use Rattle.std.proofs.lemmas.Bool.{le-ltb, eq-eqb}
use Rattle.std.proofs.lemmas.List.{append-nil, take-append-drop, drop_at}
use Rattle.std.proofs.lemmas.List.Concat.{flat_map-cons}
use Rattle.std.proofs.lemmas.Grind.{flat_map-append}
use Rattle.cloak_model.specs.Items.{Item}
use Rattle.cloak_model.specs.Items as item
use Rattle.cloak_model.specs.Exchange.{item_bytes, record_magic, record_of, byte_of}
use Rattle.cloak_model.specs.Record.{IsItem, IsRecord}
use Rattle.cloak_model.specs.declared.record.Stage.{Stage}
use Rattle.cloak_model.specs.declared.record.Stage.TheVariants.{Opening, Steps, Closing, Over}
use Rattle.cloak_model.specs.declared.record.Tag.{Tag}
use Rattle.cloak_model.specs.declared.fault.RecordFault.{RecordFault}
use Rattle.cloak_model.specs.declared.fault.RecordFault.TheVariants.{Short, BadMagic}
use Rattle.cloak_model.specs.declared.record.Wrong.{Wrong}
use Rattle.cloak_model.specs.RecordFault.{tag_of, stage_after, stage_behind, wrong_behind, Begins, IsWrong, fault_of, magic_fault, HasFault}
use Rattle.record_law.specs.Items.{size_of}
use Rattle.record_law.specs.Items.{item_in}
use Rattle.record_law.proofs.Spelling.{tag_at, fields_of, item_bytes-parts, fields_read}
use Rattle.record_law.proofs.Following.{Succeeds, tag_again, item_right, next_item, chosen}
use Rattle.record_law.proofs.Orders.{Stands, Ends, Stands-front, Stands-append, stage_behind-append, exchange_ends, ends_exchange}
use Rattle.cloak_base.proofs.Lists.{IsBytes-drop, IsBytes}

-- ---- bytes determine the items

abbrev some : Tag → Option Tag
some t = Some t

tag_same : (a b : Tag) → byte_of a ≡ byte_of b → a ≡ b
tag_same a b e =
    let same : some a ≡ some b = sym (tag_again a) ∙ ap tag_of e ∙ tag_again b in
    cc

pub same_item : (i j : Item) (r q : List ℕ) → IsItem i → IsItem j → item_bytes i ++ r ≡ item_bytes j ++ q → (i ≡ j) × (r ≡ q)
same_item i j r q fi fj e =
    let x : byte_of (tag_at i) ∷ (fields_of i ++ r) ≡ byte_of (tag_at j) ∷ (fields_of j ++ q) =
    sym (ap (λ (l : List ℕ). l ++ r) (item_bytes-parts i)) ∙ e ∙ ap (λ (l : List ℕ). l ++ q) (item_bytes-parts j) in
    let heads : byte_of (tag_at i) ≡ byte_of (tag_at j) = cc in
    let tails : fields_of i ++ r ≡ fields_of j ++ q = cc in
    let tags : tag_at i ≡ tag_at j = tag_same (tag_at i) (tag_at j) heads in
    let a = fields_read i r fi in
    let b = fields_read j q fj in (
      sym a.item ∙ ap (λ t. item_in t (fields_of i ++ r)) tags ∙ ap (item_in (tag_at j)) tails ∙ b.item,
      sym a.behind ∙ ap (λ t. drop (size_of t) (fields_of i ++ r)) tags ∙ ap (drop (size_of (tag_at j))) tails ∙ b.behind,
    )

-- nothing that may stand there follows
abbrev pub Stops : Stage → List ℕ → Type 0
Stops s rest = (i : Item) (r : List ℕ) → IsItem i → Succeeds s i → rest ≡ item_bytes i ++ r → ⊥

pub wrong_stops : (s : Stage) (rest : List ℕ) (w : Wrong) → wrong_behind s rest ≡ Some w → Stops s rest
wrong_stops s rest w e i r fits f is =
    let right : wrong_behind s rest ≡ None = ap (wrong_behind s) is ∙ item_right s i r fits f in
    cc

pub end_stops : (s : Stage) → Stops s []
end_stops s i r fits f is =
    let e : [] ≡ byte_of (tag_at i) ∷ (fields_of i ++ r) = is ∙ ap (λ (l : List ℕ). l ++ r) (item_bytes-parts i) in
    cc

-- the bytes of an item and of others after it
pub front_bytes : (i : Item) (items : List Item) (rest : List ℕ) → flat_map item_bytes (i ∷ items) ++ rest ≡ item_bytes i ++ (flat_map item_bytes items ++ rest)
front_bytes i items rest = ap (λ (l : List ℕ). l ++ rest) (flat_map-cons item_bytes i items) ∙ append_assoc (item_bytes i) (flat_map item_bytes items) rest

-- two fronts after which nothing follows are one
pub same_front : (s : Stage) (f g : List Item) (r q : List ℕ) → Stands s f → Stands s g → AllByRecursion IsItem f → AllByRecursion IsItem g → Stops (stage_behind s f) r → Stops (stage_behind s g) q
    → flat_map item_bytes f ++ r ≡ flat_map item_bytes g ++ q → (f ≡ g) × (r ≡ q)
unfolding stage_behind
same_front s [] [] r q sf sg ff fg af ag e = (refl, e)
same_front s [] (j ∷ g) r q sf sg ff fg af ag e = absurd (af j (flat_map item_bytes g ++ q) fg.0 sg.0 (e ∙ front_bytes j g q))
same_front s (i ∷ f) [] r q sf sg ff fg af ag e = absurd (ag i (flat_map item_bytes f ++ r) ff.0 sf.0 (sym e ∙ front_bytes i f r))
same_front s (i ∷ f) (j ∷ g) r q sf sg ff fg af ag e =
    let first = same_item i j (flat_map item_bytes f ++ r) (flat_map item_bytes g ++ q) ff.0 fg.0 (sym (front_bytes i f r) ∙ e ∙ front_bytes j g q) in
    let stand : Stands (stage_after s i) g = subst (λ k. Stands (stage_after s k) g) (sym first.0) sg.1 in
    let stop : Stops (stage_behind (stage_after s i) g) q = subst (λ k. Stops (stage_behind (stage_after s k) g) q) (sym first.0) ag in
    let others = same_front (stage_after s i) f g r q sf.1 stand ff.1 fg.1 af stop first.1 in
    (ap (λ k. k ∷ f) first.0 ∙ ap (λ (l : List Item). j ∷ l) others.0, others.1)

-- ---- one record

pub magic_same : (a b : List ℕ) → record_magic ++ a ≡ record_magic ++ b → a ≡ b
magic_same a b e = ap (drop 8) e

pub one_record : (file : List ℕ) (a b : List Item) → IsRecord file a → IsRecord file b → a ≡ b
one_record file a b x y =
    let ea = exchange_ends a x.exchange in
    let eb = exchange_ends b y.exchange in
    let bytes : flat_map item_bytes a ++ [] ≡ flat_map item_bytes b ++ [] =
    append-nil _ ∙ magic_same (flat_map item_bytes a) (flat_map item_bytes b) (x.spells ∙ sym y.spells) ∙ sym (append-nil _) in
    (same_front Opening a b [] [] ea.0 eb.0 x.fields y.fields (end_stops _) (end_stops _) bytes).0

-- ---- one fault, and none of a record

begins_stands : (file rest : List ℕ) (front : List Item) → Begins file front rest → Stands Opening front
begins_stands file rest front b = Stands-front Opening front b.more (exchange_ends (front ++ b.more) b.exchange).0

begins_bytes : (file rest : List ℕ) (front : List Item) → Begins file front rest → record_magic ++ (flat_map item_bytes front ++ rest) ≡ file
begins_bytes file rest front b = sym (append_assoc record_magic (flat_map item_bytes front) rest) ∙ b.spells

wrong_same : (v w : Wrong) (a b : Option Wrong) → a ≡ Some v → b ≡ Some w → a ≡ b → v ≡ w
wrong_same v w a b p q e = (let x : Some v ≡ Some w = sym p ∙ e ∙ q in cc)

pub one_wrong : (file : List ℕ) (a b : RecordFault) → IsWrong file a → IsWrong file b → a ≡ b
one_wrong file a b x y =
    let same = same_front Opening x.front y.front x.rest y.rest (begins_stands file x.rest x.front x.begins) (begins_stands file y.rest y.front y.begins) x.begins.fields y.begins.fields
    (wrong_stops _ x.rest x.wrong x.is_wrong) (wrong_stops _ y.rest y.wrong y.is_wrong)
    (magic_same _ _ (begins_bytes file x.rest x.front x.begins ∙ sym (begins_bytes file y.rest y.front y.begins))) in
    let wrong : x.wrong ≡ y.wrong = wrong_same x.wrong y.wrong _ _ x.is_wrong y.is_wrong (ap (λ f. wrong_behind (stage_behind Opening f) x.rest) same.0 ∙ ap (wrong_behind (stage_behind Opening y.front)) same.1) in
    x.fault_is ∙ ap (λ f. fault_of (length file) (length (record_of f)) x.wrong) same.0 ∙ ap (fault_of (length file) (length (record_of y.front))) wrong ∙ sym y.fault_is

-- a file that begins with the magic has no fault there
pub magic_right : (file rest : List ℕ) → record_magic ++ rest ≡ file → magic_fault file ≡ None
unfolding magic_fault
magic_right file rest e =
    let long : length file ≡ 8 + length rest = sym (ap (λ (l : List ℕ). length l) e) ∙ length-append record_magic rest in
    let test : ltb (length file) 8 ≡ false = le-ltb _ _ (omega arith) in
    let front : take 8 file ≡ record_magic = sym (ap (take 8) e) in
    let same : bytes_eq (take 8 file) record_magic ≡ true = (bytes_eq-Decides (take 8 file) record_magic).1 front in
    rw (test, same) refl

abbrev fault_some : RecordFault → Option RecordFault
fault_some f = Some f

pub one_fault : (file : List ℕ) (a b : RecordFault) → HasFault file a → HasFault file b → a ≡ b
one_fault file a b (inl p) (inl q) = (let e : fault_some a ≡ fault_some b = sym p ∙ q in cc)
one_fault file a b (inl p) (inr y) = absurd (let none = magic_right file (flat_map item_bytes y.front ++ y.rest) (begins_bytes file y.rest y.front y.begins) in cc)
one_fault file a b (inr x) (inl q) = absurd (let none = magic_right file (flat_map item_bytes x.front ++ x.rest) (begins_bytes file x.rest x.front x.begins) in cc)
one_fault file a b (inr x) (inr y) = one_wrong file a b x y

over_right : wrong_behind Over [] ≡ None
unfolding wrong_behind
over_right = refl

pub not_both : (file : List ℕ) (items : List Item) (fault : RecordFault) → IsRecord file items → HasFault file fault → ⊥
not_both file items fault r (inl p) = (let none = magic_right file (flat_map item_bytes items) r.spells in cc)
not_both file items fault r (inr x) =
    let e = exchange_ends items r.exchange in
    let bytes : flat_map item_bytes x.front ++ x.rest ≡ flat_map item_bytes items ++ [] =
    magic_same _ _ (begins_bytes file x.rest x.front x.begins ∙ sym r.spells) ∙ sym (append-nil _) in
    let same = same_front Opening x.front items x.rest [] (begins_stands file x.rest x.front x.begins) e.0 x.begins.fields r.fields (wrong_stops _ x.rest x.wrong x.is_wrong) (end_stops _) bytes in
    let right : wrong_behind (stage_behind Opening x.front) x.rest ≡ None =
    ap (λ f. wrong_behind (stage_behind Opening f) x.rest) same.0 ∙ ap (wrong_behind (stage_behind Opening items)) same.1 ∙ ap (λ s. wrong_behind s []) e.1 ∙ over_right in
    (let is = x.is_wrong in cc)

-- ---- a record or a fault

-- what may complete a front
pub completed : (s : Stage) → (items : List Item) × Ends s items
unfolding stage_behind
completed Opening = (item.Close 0 ∷ item.End ∷ [], ((record { may = refl; numbered = refl }, (record { may = refl; numbered = refl }, tt)), refl))
completed (Steps n) = (item.Close n ∷ item.End ∷ [], ((record { may = refl; numbered = eq-eqb n n refl }, (record { may = refl; numbered = refl }, tt)), refl))
completed Closing = (item.End ∷ [], ((record { may = refl; numbered = refl }, tt), refl))
completed Over = ([], (tt, refl))

-- a front so far: its items stand in their order, and the file begins with them
pub record Front (file : List ℕ) (front : List Item) (rest : List ℕ) : Type 0 where
  pub spells : record_magic ++ (flat_map item_bytes front ++ rest) ≡ file
  pub fields : AllByRecursion IsItem front
  pub stands : Stands Opening front

pub Front-begins : (file : List ℕ) (front : List Item) (rest : List ℕ) → Front file front rest → Begins file front rest
Front-begins file front rest f =
    let c = completed (stage_behind Opening front) in
    record {
      spells = append_assoc record_magic (flat_map item_bytes front) rest ∙ f.spells;
      fields = f.fields;
      more = c.0;
      exchange = ends_exchange (front ++ c.0) (Stands-append Opening front c.0 f.stands c.1.0, stage_behind-append Opening front c.0 ∙ c.1.1);
    }

pub Begins-front : (file : List ℕ) (front : List Item) (rest : List ℕ) → Begins file front rest → Front file front rest
Begins-front file front rest b = record { spells = begins_bytes file rest front b; fields = b.fields; stands = begins_stands file rest front b }

fields_append : (front items : List Item) → AllByRecursion IsItem front → AllByRecursion IsItem items → AllByRecursion IsItem (front ++ items)
fields_append [] items f e = e
fields_append (i ∷ front) items f e = (f.0, fields_append front items f.1 e)

pub Front-more : (file : List ℕ) (front : List Item) (rest : List ℕ) (i : Item) (r : List ℕ) → Front file front rest → rest ≡ item_bytes i ++ r → IsItem i → Succeeds (stage_behind Opening front) i → Front file (front ++ i ∷ []) r
Front-more file front rest i r f is fits follows =
    let one : flat_map item_bytes (i ∷ []) ≡ item_bytes i = flat_map-cons item_bytes i [] ∙ append-nil (item_bytes i) in
    let all : flat_map item_bytes (front ++ i ∷ []) ≡ flat_map item_bytes front ++ item_bytes i = flat_map-append item_bytes front (i ∷ []) ∙ ap (λ (l : List ℕ). flat_map item_bytes front ++ l) one in
    record {
      spells = ap (λ (l : List ℕ). record_magic ++ (l ++ r)) all ∙ ap (λ (l : List ℕ). record_magic ++ l) (append_assoc (flat_map item_bytes front) (item_bytes i) r)
          ∙ ap (λ (l : List ℕ). record_magic ++ (flat_map item_bytes front ++ l)) (sym is) ∙ f.spells;
      fields = fields_append front (i ∷ []) f.fields (fits, tt);
      stands = Stands-append Opening front (i ∷ []) f.stands (follows, tt);
    }

pub Front-record : (file : List ℕ) (front : List Item) (rest : List ℕ) → Front file front rest → rest ≡ [] → stage_behind Opening front ≡ Over → IsRecord file front
Front-record file front rest f none over = record {
  spells = ap (λ (l : List ℕ). record_magic ++ l) (sym (append-nil (flat_map item_bytes front)) ∙ ap (λ (l : List ℕ). flat_map item_bytes front ++ l) (sym none)) ∙ f.spells;
  fields = f.fields;
  exchange = ends_exchange front (f.stands, over);
}

pub IsBytes-behind : (a b : List ℕ) → IsBytes (a ++ b) → IsBytes b
IsBytes-behind a b are i = subst (λ (l : List ℕ). get_or l i 0 < 256) (drop_at a b (length a) refl) (IsBytes-drop (length a) (a ++ b) are i)

pub record Judged (file : List ℕ) : Type 0 where
  pub judged : ((items : List Item) × IsRecord file items) ⊎ ((fault : RecordFault) × HasFault file fault)

wrong_cases : (o : Option Wrong) → (o ≡ None) ⊎ ((w : Wrong) × (o ≡ Some w))
wrong_cases None = inl refl
wrong_cases (Some w) = inr (w, refl)

shorter : (n : ℕ) (i : Item) (rest r : List ℕ) → rest ≡ item_bytes i ++ r → length rest < suc n → length r < n
shorter n i rest r is lt =
    let a : length rest ≡ length (item_bytes i) + length r = ap (λ (l : List ℕ). length l) is ∙ length-append (item_bytes i) r in
    let b : length (item_bytes i) ≡ suc (length (fields_of i)) = ap (λ (l : List ℕ). length l) (item_bytes-parts i) in
    omega (arith, a, b)

judged_from : (n : ℕ) (file : List ℕ) (front : List Item) (rest : List ℕ) → length rest < n → IsBytes rest → Front file front rest → Judged file
judged_from zero file front rest lt are f = absurd (omega arith)
judged_from (suc n) file front rest lt are f =
    elim (wrong_cases (wrong_behind (stage_behind Opening front) rest)) [
      | inr w ↦ record { judged = inr (fault_of (length file) (length (record_of front)) w.0, inr (record { front = front; rest = rest; begins = Front-begins file front rest f; wrong = w.0; is_wrong = w.1; fault_is = refl })) }
      | inl right ↦ elim (next_item (stage_behind Opening front) rest are right) [
        | inl end ↦ record { judged = inl (front, Front-record file front rest f end.none end.over) }
        | inr i ↦ judged_from n file (front ++ i.item ∷ []) i.rest (shorter n i.item rest i.rest i.spelled lt)
            (IsBytes-behind (item_bytes i.item) i.rest (subst (λ (l : List ℕ). IsBytes l) i.spelled are)) (Front-more file front rest i.item i.rest f i.spelled i.fits i.follows)
      ]
    ]

pub magic_stands : (file : List ℕ) → magic_fault file ≡ None → record_magic ++ drop 8 file ≡ file
unfolding magic_fault
magic_stands file e =
    elim (chosen (ltb (length file) 8) (fault_some (Short (length file))) _ None e) [
      | inl short ↦ absurd (let x = short.1 in cc)
      | inr long ↦ elim (chosen (bytes_eq (take 8 file) record_magic) None (fault_some BadMagic) None long.1) [
        | inl same ↦ ap (λ (l : List ℕ). l ++ drop 8 file) (sym ((bytes_eq-Decides (take 8 file) record_magic).0 same.0)) ∙ take-append-drop 8 file
        | inr other ↦ absurd (let x = other.1 in cc)
      ]
    ]

fault_cases : (o : Option RecordFault) → (o ≡ None) ⊎ ((f : RecordFault) × (o ≡ Some f))
fault_cases None = inl refl
fault_cases (Some f) = inr (f, refl)

-- a file is a record, or has a first fault
pub judged : (file : List ℕ) → IsBytes file → Judged file
judged file are =
    elim (fault_cases (magic_fault file)) [
      | inr f ↦ record { judged = inr (f.0, inl f.1) }
      | inl right ↦ judged_from (suc (length (drop 8 file))) file [] (drop 8 file) (omega arith) (IsBytes-drop 8 file are) (record { spells = magic_stands file right; fields = tt; stands = tt })
    ]
