-- A window that has the whole item, or all that there is, is enough.
use Rattle.std.proofs.Common.{◌≡◌, ℕ, zero, suc, ◌+◌, ◌-◌, ◌<◌, ◌≤◌, ◌⊎◌, Bool, true, false, not, ◌||◌, cond, ltb, List, [], ◌∷◌, length, get_or, take, drop, Option, Some, None, Ok, Err, refl, sym, ap, ◌∙◌, inl, inr, length-drop, arith}
use Rattle.std.specs.Int.{w32, from_le_bytes}
use Rattle.std.proofs.lemmas.Bool.{cases_lt, lt-ltb, le-ltb, ltb-true}
use Rattle.std.proofs.lemmas.List.{drop-take, length-take, get_or-take, take_all}
use Rattle.cloak_model.specs.declared.record.Stage.{Stage}
use Rattle.cloak_model.specs.declared.record.Stage.TheVariants.{Opening, Steps, Closing, Over}
use Rattle.cloak_model.specs.declared.record.Tag.{Tag}
use Rattle.cloak_model.specs.declared.record.Tag.TheVariants as tag
use Rattle.cloak_model.specs.declared.record.Wrong.{Wrong}
use Rattle.cloak_model.specs.declared.record.Wrong.TheVariants.{Cut, NoTag, NoNumber, More}
use Rattle.cloak_model.specs.Fields.{number}
use Rattle.cloak_model.specs.RecordFault.{tag_of, is_over, may_stand, wrong_item, wrong_behind}
use Rattle.record_law.specs.Items.{size_of, has_bad_width, is_numbered}
use Rattle.record_law.proofs.Chain.{wrong_item-tests}
use Rattle.record_law.proofs.Following.{chosen, wrong_some}
use Rattle.record_reader.specs.Ahead.{HasWhole, IsWindow, front_tag}
use Rattle.record_reader.specs.Reading.{judged, judged_by}
use Rattle.record_reader.proofs.Filled.{take_take}

-- n bytes from an offset on, of a front that has them
piece_front : (k at n : ℕ) (fields : List ℕ) → at + n ≤ k → take n (drop at (take k fields)) ≡ take n (drop at fields)
piece_front k at n fields le =
    let m : ℕ = k - at - n in
    let whole : k ≡ at + (n + m) = omega arith in
    ap (λ j. take n (drop at (take j fields))) whole ∙ ap (take n) (drop-take at (n + m) fields) ∙ take_take n m (drop at fields)

number_front : (k at : ℕ) (fields : List ℕ) → at + 4 ≤ k → number (take k fields) at ≡ number fields at
number_front k at fields le = ap (from_le_bytes w32) (piece_front k at 4 fields le)

-- the front is as long as a size exactly if the whole is
long_front : (k size : ℕ) (fields : List ℕ) → size ≤ k → ltb (length (take k fields)) size ≡ ltb (length fields) size
long_front k size fields le =
    let len = length-take k fields in
    elim (cases_lt (length fields) size) [
      | inl short ↦ lt-ltb _ _ (omega arith) ∙ sym (lt-ltb _ _ short)
      | inr long ↦ le-ltb _ _ (omega arith) ∙ sym (le-ltb _ _ long)
    ]

width_front : (t : Tag) (k : ℕ) (fields : List ℕ) → 5 ≤ k → has_bad_width t (take k fields) ≡ has_bad_width t fields
width_front tag.Put k fields le =
    let long : ltb 4 (length (take k fields)) ≡ ltb 4 (length fields) = (let len = length-take k fields in elim (cases_lt 4 (length fields)) [
      | inl longer ↦ lt-ltb 4 _ (omega arith) ∙ sym (lt-ltb 4 _ longer)
      | inr shorter ↦ le-ltb 4 _ (omega arith) ∙ sym (le-ltb 4 _ shorter)
    ]) in
    let four : get_or (take k fields) 4 0 ≡ get_or fields 4 0 = get_or-take k fields 4 0 (omega arith) in
    rw (long, four) refl
width_front _ k fields le = refl

abbrev some : Tag → Option Tag
some t = Some t

-- bytes that have the whole item have its fields
fields_fit : (n : ℕ) (o : Option Tag) → 41 ≤ n → (o ≡ Some tag.Cipher → 4101 ≤ n) → (t : Tag) → o ≡ Some t → size_of t < n
fields_fit n o long cipher tag.Cipher e = (let c = cipher e in omega arith)
fields_fit n o long cipher _ e = omega arith

item_front : (s : Stage) (o : Option Tag) (k : ℕ) (fields : List ℕ) → 40 ≤ k → ((t : Tag) → o ≡ Some t → size_of t < suc k) → wrong_item s o (take k fields) ≡ wrong_item s o fields
unfolding wrong_item
item_front s None k fields le fit = refl
item_front s (Some t) k fields le fit =
    let size = fit t refl in
    let width = width_front t k fields (omega arith) in
    let long = long_front k (size_of t) fields (omega arith) in
    let same = number_front k 0 fields (omega arith) in
    wrong_item-tests s t (take k fields) ∙ rw (width, long, same) refl ∙ sym (wrong_item-tests s t fields)

no_bytes : (n : ℕ) → take {A = ℕ} n [] ≡ []
no_bytes n = take_all {A = ℕ} n [] (omega arith)

whole_front : (s : Stage) (k b : ℕ) (fields : List ℕ) → HasWhole (suc k) (b ∷ fields) → wrong_behind s (b ∷ take k fields) ≡ wrong_behind s (b ∷ fields)
unfolding wrong_behind
whole_front Opening k b fields h = item_front Opening (tag_of b) k fields (let long = h.0 in omega arith) (fields_fit (suc k) (tag_of b) h.0 h.1)
whole_front (Steps n) k b fields h = item_front (Steps n) (tag_of b) k fields (let long = h.0 in omega arith) (fields_fit (suc k) (tag_of b) h.0 h.1)
whole_front Closing k b fields h = item_front Closing (tag_of b) k fields (let long = h.0 in omega arith) (fields_fit (suc k) (tag_of b) h.0 h.1)
whole_front Over k b fields h = refl

wrong_front : (s : Stage) (n : ℕ) (rest : List ℕ) → (n ≡ length rest) ⊎ HasWhole n rest → wrong_behind s (take n rest) ≡ wrong_behind s rest
wrong_front s n rest (inl all) = ap (wrong_behind s) (take_all n rest (omega arith))
wrong_front s n [] (inr h) = ap (wrong_behind s) (no_bytes n)
wrong_front s zero (b ∷ fields) (inr h) = absurd (let long = h.0 in omega arith)
wrong_front s (suc k) (b ∷ fields) (inr h) = whole_front s k b fields h

tag_front : (n : ℕ) (rest : List ℕ) → (n ≡ length rest) ⊎ HasWhole n rest → front_tag (take n rest) ≡ front_tag rest
tag_front n rest (inl all) = ap front_tag (take_all n rest (omega arith))
tag_front n [] (inr h) = ap front_tag (no_bytes n)
tag_front zero (b ∷ fields) (inr h) = absurd (let long = h.0 in omega arith)
tag_front (suc k) (b ∷ fields) (inr h) = refl

-- what is judged by a window is what stands there
pub judged_there : (s : Stage) (file : List ℕ) (at : ℕ) (bytes : List ℕ) → IsWindow file at bytes → judged s bytes ≡ judged s (drop at file)
judged_there s file at bytes w =
    let n : ℕ = length bytes in
    ap (judged s) w.stand ∙ ap (λ o. judged_by o (front_tag (take n (drop at file)))) (wrong_front s n (drop at file) w.enough)
    ∙ ap (judged_by (wrong_behind s (drop at file))) (tag_front n (drop at file) w.enough)

-- ---- an item that is cut

-- its tag, and fewer fields than it has
record CutItem (o : Option Tag) (fields : List ℕ) : Type 0 where
  tag : Tag
  is : o ≡ Some tag
  few : length fields < size_of tag

cut_item : (s : Stage) (o : Option Tag) (fields : List ℕ) → wrong_item s o fields ≡ Some Cut → CutItem o fields
unfolding wrong_item
cut_item s None fields e = absurd cc
cut_item s (Some t) fields e =
    elim (chosen (not (may_stand s t) || has_bad_width t fields) (wrong_some NoTag) _ (wrong_some Cut) (sym (wrong_item-tests s t fields) ∙ e)) [
      | inl bad ↦ absurd (let x = bad.1 in cc)
      | inr a ↦ elim (chosen (ltb (length fields) (size_of t)) (wrong_some Cut) _ (wrong_some Cut) a.1) [
        | inl short ↦ record { tag = t; is = refl; few = ltb-true _ _ short.0 }
        | inr b ↦ elim (chosen (is_numbered s t (number fields 0)) None (wrong_some NoNumber) (wrong_some Cut) b.1) [
          | inl good ↦ absurd (let x = good.1 in cc)
          | inr bad ↦ absurd (let x = bad.1 in cc)
        ]
      ]
    ]

cut_behind : (s : Stage) (b : ℕ) (fields : List ℕ) → wrong_behind s (b ∷ fields) ≡ Some Cut → CutItem (tag_of b) fields
unfolding wrong_behind
cut_behind Opening b fields e = cut_item Opening (tag_of b) fields e
cut_behind (Steps n) b fields e = cut_item (Steps n) (tag_of b) fields e
cut_behind Closing b fields e = cut_item Closing (tag_of b) fields e
cut_behind Over b fields e = absurd cc

-- a window after whose front an item is cut has all that there is
pub cut_all : (s : Stage) (n : ℕ) (rest : List ℕ) → n ≤ length rest → (n ≡ length rest) ⊎ HasWhole n rest → wrong_behind s rest ≡ Some Cut → n ≡ length rest
cut_all s n rest le (inl all) e = all
cut_all s n [] le (inr h) e = omega arith
cut_all s n (b ∷ fields) le (inr h) e =
    let c = cut_behind s b fields e in
    let fit = fields_fit n (tag_of b) h.0 h.1 c.tag c.is in
    let few = c.few in
    absurd (omega arith)

-- ---- an item and what is judged

pub judged_err : (o : Option Wrong) (f : Option Tag) (e : Wrong) → Err e ≡ judged_by o f → o ≡ Some e
unfolding judged_by
judged_err None f e j = absurd cc
judged_err (Some x) f e j = cc

pub judged_ok : (o : Option Wrong) (f x : Option Tag) → Ok x ≡ judged_by o f → (o ≡ None) × (f ≡ x)
unfolding judged_by
judged_ok None f x j = (refl, cc)
judged_ok (Some e) f x j = absurd cc

-- ---- what the code tests

wrong_cons : (s : Stage) (b : ℕ) (fields : List ℕ) → is_over s ≡ false → wrong_behind s (b ∷ fields) ≡ wrong_item s (tag_of b) fields
unfolding wrong_behind
wrong_cons Over b fields e = absurd cc
wrong_cons _ b fields e = refl

-- the tests of an item, one after another

pub no_tag : (s : Stage) (o : Option Tag) (fields : List ℕ) → o ≡ None → Some NoTag ≡ wrong_item s o fields
unfolding wrong_item
no_tag s o fields is = sym (ap (λ o. wrong_item s o fields) is)

pub no_place : (s : Stage) (o : Option Tag) (t : Tag) (fields : List ℕ) → o ≡ Some t → may_stand s t ≡ false → Some NoTag ≡ wrong_item s o fields
no_place s o t fields is may = sym (ap (λ o. wrong_item s o fields) is ∙ wrong_item-tests s t fields ∙ rw may refl)

pub no_width : (s : Stage) (o : Option Tag) (t : Tag) (fields : List ℕ) → o ≡ Some t → may_stand s t ≡ true → has_bad_width t fields ≡ true → Some NoTag ≡ wrong_item s o fields
no_width s o t fields is may width = sym (ap (λ o. wrong_item s o fields) is ∙ wrong_item-tests s t fields ∙ rw (may, width) refl)

pub too_short : (s : Stage) (o : Option Tag) (t : Tag) (fields : List ℕ) → o ≡ Some t → may_stand s t ≡ true → has_bad_width t fields ≡ false → length fields < size_of t → Some Cut ≡ wrong_item s o fields
too_short s o t fields is may width few =
    let short : ltb (length fields) (size_of t) ≡ true = lt-ltb _ _ few in
    sym (ap (λ o. wrong_item s o fields) is ∙ wrong_item-tests s t fields ∙ rw (may, width, short) refl)

pub numbered_by : (s : Stage) (o : Option Tag) (t : Tag) (fields : List ℕ) (numbered : Bool) → o ≡ Some t → may_stand s t ≡ true → has_bad_width t fields ≡ false → size_of t ≤ length fields → is_numbered s t (number fields 0) ≡ numbered
    → cond numbered None (Some NoNumber) ≡ wrong_item s o fields
numbered_by s o t fields numbered is may width whole right =
    let long : ltb (length fields) (size_of t) ≡ false = le-ltb _ _ whole in
    sym (ap (λ o. wrong_item s o fields) is ∙ wrong_item-tests s t fields ∙ rw (may, width, long, right) refl)

tag_first : (bytes : List ℕ) → (length bytes ≡ 0 → ⊥) → front_tag bytes ≡ tag_of (get_or bytes 0 0)
tag_first [] some = absurd (some refl)
tag_first (b ∷ fields) some = refl

wrong_first : (s : Stage) (bytes : List ℕ) → is_over s ≡ false → (length bytes ≡ 0 → ⊥) → wrong_item s (tag_of (get_or bytes 0 0)) (drop 1 bytes) ≡ wrong_behind s bytes
wrong_first s [] over some = absurd (some refl)
wrong_first s (b ∷ fields) over some = sym (wrong_cons s b fields over)

judged_wrong : (s : Stage) (w : List ℕ) (e : Wrong) → wrong_behind s w ≡ Some e → Err e ≡ judged s w
unfolding judged_by
judged_wrong s w e is = sym (ap (λ o. judged_by o (front_tag w)) is)

judged_right : (s : Stage) (w : List ℕ) (f : Option Tag) → wrong_behind s w ≡ None → front_tag w ≡ f → Ok f ≡ judged s w
unfolding judged_by
judged_right s w f is found = sym (ap (λ o. judged_by o (front_tag w)) is ∙ ap (λ o. judged_by None o) found)

-- after the first byte stands the rest
pub rest : (bytes : List ℕ) → take (length bytes - 1) (drop 1 bytes) ≡ drop 1 bytes
rest bytes = take_all (length bytes - 1) (drop 1 bytes) (omega (arith, length-drop 1 bytes))

-- after End
pub over_none : (s : Stage) (bytes : List ℕ) → is_over s ≡ true → length bytes ≡ 0 → Ok None ≡ judged s bytes
unfolding wrong_behind judged_by
over_none Opening bytes over none = absurd cc
over_none (Steps n) bytes over none = absurd cc
over_none Closing bytes over none = absurd cc
over_none Over [] over none = refl
over_none Over (b ∷ fields) over none = absurd (omega (arith, none))

pub over_more : (s : Stage) (bytes : List ℕ) → is_over s ≡ true → (length bytes ≡ 0 → ⊥) → Err More ≡ judged s bytes
unfolding wrong_behind judged_by
over_more Opening bytes over some = absurd cc
over_more (Steps n) bytes over some = absurd cc
over_more Closing bytes over some = absurd cc
over_more Over [] over some = absurd (some refl)
over_more Over (b ∷ fields) over some = refl

-- an item is missing
pub none_cut : (s : Stage) (bytes : List ℕ) → is_over s ≡ false → length bytes ≡ 0 → Err Cut ≡ judged s bytes
unfolding wrong_behind judged_by
none_cut Opening [] over none = refl
none_cut (Steps n) [] over none = refl
none_cut Closing [] over none = refl
none_cut Over [] over none = absurd cc
none_cut s (b ∷ fields) over none = absurd (omega (arith, none))

-- the item at the front
pub item_wrong : (s : Stage) (bytes : List ℕ) (e : Wrong) → is_over s ≡ false → (length bytes ≡ 0 → ⊥) → Some e ≡ wrong_item s (tag_of (get_or bytes 0 0)) (drop 1 bytes) → Err e ≡ judged s bytes
item_wrong s bytes e over some is = judged_wrong s bytes e (sym (is ∙ wrong_first s bytes over some))

pub item_right : (s : Stage) (bytes : List ℕ) → is_over s ≡ false → (length bytes ≡ 0 → ⊥) → None ≡ wrong_item s (tag_of (get_or bytes 0 0)) (drop 1 bytes) → Ok (tag_of (get_or bytes 0 0)) ≡ judged s bytes
item_right s bytes over some is = judged_right s bytes (tag_of (get_or bytes 0 0)) (sym (is ∙ wrong_first s bytes over some)) (tag_first bytes some)
