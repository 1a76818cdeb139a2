-- An item and its bytes.
use Rattle.std.proofs.Common.{◌≡◌, ℕ, ◌+◌, ◌^◌, ◌<◌, ◌≤◌, Bool, true, false, ◌&&◌, ◌||◌, not, inl, inr, ltb, eqb, List, [], ◌∷◌, ◌++◌, length, get_or, take, drop, refl, sym, ap, ◌∙◌, length-drop, length-append, add-one, drop-cons, arith}
use Rattle.std.specs.Int.{w32, from_le_bytes, to_le_bytes}
use Rattle.std.specs.List.{flat_map, AllByRecursion}
use Rattle.std.proofs.lemmas.Bool.{lt-ltb, eqb-true, or_cases, and_right, not_from_true}
use Rattle.std.proofs.lemmas.List.{take-append-drop, drop-drop, length-take, take_at, drop_at}
use Rattle.std.proofs.lemmas.Nat.{le_bytes_4, from_le_bytes-to_le_bytes_4}
use Rattle.cloak_model.specs.Bits.{word}
use Rattle.cloak_model.specs.Items.{Item}
use Rattle.cloak_model.specs.Items as item
use Rattle.cloak_model.specs.Exchange.{item_bytes, shown_words, byte_of}
use Rattle.cloak_model.specs.Record.{IsItem, IsWord}
use Rattle.cloak_model.specs.declared.record.Tag.{Tag}
use Rattle.cloak_model.specs.declared.record.Tag.TheVariants as tag
use Rattle.cloak_model.specs.Fields.{number}
use Rattle.cloak_model.specs.Effect.{is_width, IsWidth}
use Rattle.record_law.specs.Items.{size_of, has_bad_width}
use Rattle.record_law.specs.Items.{item_in}
use Rattle.cloak_base.proofs.Lists.{IsBytes-drop, IsBytes-take, IsBytes}

-- the tag of an item, and the bytes after it
abbrev pub tag_at : Item → Tag
tag_at (item.Cipher frame bytes) = tag.Cipher
tag_at (item.Put address width value) = tag.Put
tag_at (item.Leave s) = tag.Leave
tag_at (item.Step number) = tag.Step
tag_at (item.Close steps) = tag.Close
tag_at item.End = tag.End
tag_at (item.Ok domain) = tag.Ok
tag_at (item.Absent domain cause) = tag.Absent
tag_at (item.Word domain value) = tag.Word
tag_at (item.Timer domain) = tag.Timer
tag_at (item.Resume domain ctx answer) = tag.Resume
tag_at (item.Stopped domain) = tag.Stopped
tag_at (item.Ended domain) = tag.Ended

-- the number of a Step or a Close
abbrev pub IsNumbered : Item → ℕ → Type 0
IsNumbered (item.Step number) n = n ≡ number
IsNumbered (item.Close steps) n = n ≡ steps
IsNumbered _ n = Unit {0}

-- a number that is spelled at an offset is read there
number_again : (n at : ℕ) (fields rest : List ℕ) → n < 2 ^ 32 → drop at fields ≡ word n ++ rest → number fields at ≡ n
number_again n at fields rest lt e =
    let four : take 4 (drop at fields) ≡ word n = ap (take 4) e ∙ take_at (word n) rest 4 refl in
    rw four (from_le_bytes-to_le_bytes_4 n lt)

-- a number that is read at an offset is spelled there
pub number_takes : (at : ℕ) (fields : List ℕ) → IsBytes fields → at + 4 ≤ length fields → (word (number fields at) ≡ take 4 (drop at fields)) × (number fields at < 2 ^ 32)
number_takes at fields fits le =
    let four : List ℕ = take 4 (drop at fields) in
    let len : length four ≡ 4 = omega (arith, length-take 4 (drop at fields), length-drop at fields) in
    let are : IsBytes four = λ i. IsBytes-take 4 (drop at fields) (IsBytes-drop at fields fits) i in
    (le_bytes_4 four (number fields at) len are refl, omega (arith, are 0, are 1, are 2, are 3))

-- ---- what is spelled is read

-- what reading says of an item's bytes with more after them
pub record Reads (i : Item) (fields rest : List ℕ) : Type 0 where
  pub width : has_bad_width (tag_at i) fields ≡ false
  pub whole : size_of (tag_at i) ≤ length fields
  pub number : IsNumbered i (number fields 0)
  pub item : item_in (tag_at i) fields ≡ i
  pub behind : drop (size_of (tag_at i)) fields ≡ rest

-- the bytes after the tag
pub fields_of : Item → List ℕ
fields_of (item.Cipher frame bytes) = word frame ++ bytes
fields_of (item.Put address width value) = word address ++ (width ∷ word value)
fields_of (item.Leave s) = flat_map word (shown_words s)
fields_of (item.Step number) = word number
fields_of (item.Close steps) = word steps
fields_of item.End = []
fields_of (item.Ok domain) = domain ∷ []
fields_of (item.Absent domain cause) = domain ∷ word cause
fields_of (item.Word domain value) = domain ∷ word value
fields_of (item.Timer domain) = domain ∷ []
fields_of (item.Resume domain ctx answer) = domain ∷ (word ctx ++ word answer)
fields_of (item.Stopped domain) = domain ∷ []
fields_of (item.Ended domain) = domain ∷ []

pub item_bytes-parts : (i : Item) → item_bytes i ≡ byte_of (tag_at i) ∷ fields_of i
unfolding item_bytes fields_of
item_bytes-parts (item.Cipher frame bytes) = refl
item_bytes-parts _ = refl

abbrev again : (n : ℕ) → n < 2 ^ 32 → from_le_bytes w32 (to_le_bytes w32 n) ≡ n
again n lt = from_le_bytes-to_le_bytes_4 n lt

width_known : (w : ℕ) → IsWidth w → is_width w ≡ true
width_known w (inl one) = rw one refl
width_known w (inr (inl two)) = rw two refl
width_known w (inr (inr four)) = rw four refl

pub cipher_is : (f f' : ℕ) (b b' : List ℕ) → f ≡ f' → b ≡ b' → item.Cipher f b ≡ item.Cipher f' b'
cipher_is f f' b b' p q = cc

pub put_is : (a a' w v v' : ℕ) → a ≡ a' → v ≡ v' → item.Put a w v ≡ item.Put a' w v'
put_is a a' w v v' p q = cc

pub resume_is : (d c c' a a' : ℕ) → c ≡ c' → a ≡ a' → item.Resume d c a ≡ item.Resume d c' a'
resume_is d c c' a a' p q = cc

abbrev pub leave_of : ℕ → ℕ → ℕ → ℕ → List ℕ → Item
leave_of cause stval ctx number args = item.Leave (record { cause = cause; stval = stval; ctx = ctx; number = number; args = args })

pub leave_is : (c c' v v' x x' n n' a a' b b' d d' e e' f f' g g' : ℕ) → c ≡ c' → v ≡ v' → x ≡ x' → n ≡ n' → a ≡ a' → b ≡ b' → d ≡ d' → e ≡ e' → f ≡ f' → g ≡ g'
    → leave_of c v x n (a ∷ b ∷ d ∷ e ∷ f ∷ g ∷ []) ≡ leave_of c' v' x' n' (a' ∷ b' ∷ d' ∷ e' ∷ f' ∷ g' ∷ [])
leave_is c c' v v' x x' n n' a a' b b' d d' e e' f f' g g' p1 p2 p3 p4 p5 p6 p7 p8 p9 p10 = rw (p1, p2, p3, p4, p5, p6, p7, p8, p9, p10) refl

leave_read : (c v x n : ℕ) (args rest : List ℕ) → length args ≡ 6 → AllByRecursion IsWord (c ∷ v ∷ x ∷ n ∷ args) → Reads (leave_of c v x n args) (fields_of (leave_of c v x n args) ++ rest) rest
unfolding fields_of item_in
leave_read c v x n (a ∷ []) rest len fits = absurd (omega arith)
leave_read c v x n (a ∷ b ∷ d ∷ e ∷ f ∷ g ∷ []) rest len fits = record {
  width = refl;
  whole = omega arith;
  number = tt;
  item = leave_is _ c _ v _ x _ n _ a _ b _ d _ e _ f _ g (again c fits.0) (again v fits.1.0) (again x fits.1.1.0) (again n fits.1.1.1.0) (again a fits.1.1.1.1.0) (again b fits.1.1.1.1.1.0)
      (again d fits.1.1.1.1.1.1.0) (again e fits.1.1.1.1.1.1.1.0) (again f fits.1.1.1.1.1.1.1.1.0) (again g fits.1.1.1.1.1.1.1.1.1.0);
  behind = refl;
}
leave_read c v x n _ rest len fits = absurd (omega arith)

pub fields_read : (i : Item) (rest : List ℕ) → IsItem i → Reads i (fields_of i ++ rest) rest
unfolding fields_of item_in
fields_read (item.Cipher frame bytes) rest fits = record {
  width = refl;
  whole = omega (arith, fits.1, length-append bytes rest);
  number = tt;
  item = cipher_is _ frame _ bytes (again frame fits.0) (take_at bytes rest 4096 fits.1);
  behind = drop_at bytes rest 4096 fits.1;
}
fields_read (item.Put address width value) rest fits = record {
  width = and_right _ _ (not_from_true _ (width_known width fits.1));
  whole = omega arith;
  number = tt;
  item = put_is _ address width _ value (again address fits.0) (again value fits.2);
  behind = refl;
}
fields_read (item.Leave s) rest fits = leave_read s.cause s.stval s.ctx s.number s.args rest fits.0 fits.1
fields_read (item.Step number) rest fits = record { width = refl; whole = omega arith; number = again number fits; item = ap (λ n. item.Step n) (again number fits); behind = refl }
fields_read (item.Close steps) rest fits = record { width = refl; whole = omega arith; number = again steps fits; item = ap (λ n. item.Close n) (again steps fits); behind = refl }
fields_read (item.Absent domain cause) rest fits = record { width = refl; whole = omega arith; number = tt; item = ap (λ n. item.Absent domain n) (again cause fits); behind = refl }
fields_read (item.Word domain value) rest fits = record { width = refl; whole = omega arith; number = tt; item = ap (λ n. item.Word domain n) (again value fits); behind = refl }
fields_read (item.Resume domain ctx answer) rest fits = record { width = refl; whole = omega arith; number = tt; item = resume_is domain _ ctx _ answer (again ctx fits.0) (again answer fits.1); behind = refl }
fields_read _ rest fits = record { width = refl; whole = omega arith; number = tt; item = refl; behind = refl }

-- ---- what is read is spelled

segment : (k n : ℕ) (fields : List ℕ) → take n (drop k fields) ++ drop (k + n) fields ≡ drop k fields
segment k n fields = ap (λ t. take n (drop k fields) ++ t) (sym (drop-drop n k fields)) ∙ take-append-drop n (drop k fields)

piece : (k : ℕ) (fields : List ℕ) → IsBytes fields → k + 4 ≤ length fields → word (number fields k) ++ drop (k + 4) fields ≡ drop k fields
piece k fields fits le = ap (λ t. t ++ drop (k + 4) fields) (number_takes k fields fits le).0 ∙ segment k 4 fields

cell : (k : ℕ) (fields : List ℕ) → k < length fields → get_or fields k 0 ∷ drop (k + 1) fields ≡ drop k fields
cell k fields lt = sym (rw add-one (drop-cons fields k 0 lt))

width_known_by : (w : ℕ) → is_width w ≡ true → IsWidth w
width_known_by w e =
    elim (or_cases (eqb w 1) (eqb w 2 || eqb w 4) e) [
      | inl one ↦ inl (eqb-true _ _ one)
      | inr more ↦ elim (or_cases (eqb w 2) (eqb w 4) more) [
        | inl two ↦ inr (inl (eqb-true _ _ two))
        | inr four ↦ inr (inr (eqb-true _ _ four))
      ]
    ]

not_and : (a c : Bool) → a ≡ true → (a && not c) ≡ false → c ≡ true
not_and true true e f = refl
not_and true false e f = absurd cc
not_and false c e f = absurd cc

-- one number, and what is spelled after it
front : (k : ℕ) (fields rest : List ℕ) → IsBytes fields → k + 4 ≤ length fields → rest ≡ drop (k + 4) fields → word (number fields k) ++ rest ≡ drop k fields
front k fields rest bytes le e = ap (λ t. word (number fields k) ++ t) e ∙ piece k fields bytes le

-- the item of these fields is spelled by them
pub record Spells (t : Tag) (i : Item) (fields : List ℕ) : Type 0 where
  pub spelled : fields_of i ++ drop (size_of t) fields ≡ fields
  pub fits : IsItem i
  pub tag : tag_at i ≡ t
  pub number : IsNumbered i (number fields 0)

pub fields_spelled : (t : Tag) (fields : List ℕ) → IsBytes fields → size_of t ≤ length fields → has_bad_width t fields ≡ false → Spells t (item_in t fields) fields
unfolding fields_of item_in
fields_spelled tag.Cipher fields bytes le width = record {
  spelled = ap (λ t. word (number fields 0) ++ t) (segment 4 4096 fields) ∙ piece 0 fields bytes (omega arith);
  fits = ((number_takes 0 fields bytes (omega arith)).1, omega (arith, length-take 4096 (drop 4 fields), length-drop 4 fields));
  tag = refl;
  number = tt;
}
fields_spelled tag.Put fields bytes le width = record {
  spelled = ap (λ t. word (number fields 0) ++ (get_or fields 4 0 ∷ t)) (piece 5 fields bytes le) ∙ ap (λ t. word (number fields 0) ++ t) (cell 4 fields (omega arith)) ∙ piece 0 fields bytes (omega arith);
  fits = ((number_takes 0 fields bytes (omega arith)).1, width_known_by (get_or fields 4 0) (not_and (ltb 4 (length fields)) (is_width (get_or fields 4 0)) (lt-ltb 4 (length fields) (omega arith)) width), (number_takes 5 fields bytes le).1);
  tag = refl;
  number = tt;
}
fields_spelled tag.Leave fields bytes le width =
    let at = λ (k : ℕ) (fits : k + 4 ≤ length fields). (number_takes k fields bytes fits).1 in
    record {
      spelled = front 0 fields _ bytes (omega arith) (front 4 fields _ bytes (omega arith) (front 8 fields _ bytes (omega arith) (front 12 fields _ bytes (omega arith) (front 16 fields _ bytes (omega arith)
          (front 20 fields _ bytes (omega arith) (front 24 fields _ bytes (omega arith) (front 28 fields _ bytes (omega arith) (front 32 fields _ bytes (omega arith) (piece 36 fields bytes le)))))))));
      fits = (refl, (at 0 (omega arith), (at 4 (omega arith), (at 8 (omega arith), (at 12 (omega arith), (at 16 (omega arith), (at 20 (omega arith), (at 24 (omega arith), (at 28 (omega arith), (at 32 (omega arith), (at 36 le, tt)))))))))));
      tag = refl;
      number = tt;
    }
fields_spelled tag.Step fields bytes le width = record { spelled = piece 0 fields bytes le; fits = (number_takes 0 fields bytes le).1; tag = refl; number = refl }
fields_spelled tag.Close fields bytes le width = record { spelled = piece 0 fields bytes le; fits = (number_takes 0 fields bytes le).1; tag = refl; number = refl }
fields_spelled tag.End fields bytes le width = record { spelled = refl; fits = tt; tag = refl; number = tt }
fields_spelled tag.Ok fields bytes le width = record { spelled = cell 0 fields le; fits = tt; tag = refl; number = tt }
fields_spelled tag.Timer fields bytes le width = record { spelled = cell 0 fields le; fits = tt; tag = refl; number = tt }
fields_spelled tag.Resume fields bytes le width = record {
  spelled = ap (λ t. get_or fields 0 0 ∷ (word (number fields 1) ++ t)) (piece 5 fields bytes le) ∙ ap (λ t. get_or fields 0 0 ∷ t) (piece 1 fields bytes (omega arith)) ∙ cell 0 fields (omega arith);
  fits = ((number_takes 1 fields bytes (omega arith)).1, (number_takes 5 fields bytes le).1);
  tag = refl;
  number = tt;
}
fields_spelled tag.Stopped fields bytes le width = record { spelled = cell 0 fields le; fits = tt; tag = refl; number = tt }
fields_spelled tag.Ended fields bytes le width = record { spelled = cell 0 fields le; fits = tt; tag = refl; number = tt }
fields_spelled _ fields bytes le width = record {
  spelled = ap (λ t. get_or fields 0 0 ∷ t) (piece 1 fields bytes le) ∙ cell 0 fields (omega arith);
  fits = (number_takes 1 fields bytes le).1;
  tag = refl;
  number = tt;
}
