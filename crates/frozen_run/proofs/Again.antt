-- What the parts of a state spell has no fault, and is read as them again.
use Rattle.std.proofs.Common.{◌≡◌, ◌∙◌, ℕ, zero, suc, ◌+◌, ◌-◌, ◌*◌, ◌^◌, ◌<◌, Bool, true, false, cond, ltb, eqb, List, [], ◌∷◌, ◌++◌, length, get_or, take, drop, Option, Some, None, refl, sym, ap, subst, arith, add-zero}
use Rattle.std.specs.Int.{w32, from_le_bytes}
use Rattle.std.specs.List.{flat_map, AllByRecursion}
use Rattle.std.specs.Option.{IfSome}
use Rattle.std.proofs.lemmas.Bool.{le-ltb, lt-ltb}
use Rattle.std.proofs.lemmas.List.{take_at, get_or-drop, length-drop, length-append, append_assoc}
use Rattle.std.proofs.lemmas.List.Concat.{flat_map-cons}
use Rattle.std.proofs.lemmas.Nat.{from_le_bytes-to_le_bytes_4}
use Rattle.cloak_base.specs.declared.causes.Violation.{Violation}
use Rattle.cloak_base.specs.declared.causes.Violation.TheVariants as violation
use Rattle.cloak_base.specs.declared.names.Meta.{Meta}
use Rattle.cloak_base.specs.declared.names.PageId.{PageId}
use Rattle.cloak_model.specs.Bits.{word}
use Rattle.cloak_model.specs.Fields.{first_of, fault_in, first_in, number, parts, after_parts}
use Rattle.cloak_model.specs.Record.{IsWord}
use Rattle.frozen_state.specs.declared.fault.FrozenFault.{FrozenFault}
use Rattle.frozen_state.specs.declared.fault.FrozenFault.TheVariants.{Form}
use Rattle.frozen_state.specs.FrozenState.{maybe_word, meta_bytes, violation_bytes, page_words}
use Rattle.frozen_state.specs.Ranges.{has_only, is_word_in_ram, IsPage, IsViolationOf}
use Rattle.frozen_state.specs.FrozenFault.{FrozenField, any_in, ruled_in, byte_below, word_below, maybe_fields, after_maybe, mark_fields, violation_fields, after_violation, csr_fields, page_at, page_fields}
use Rattle.field_facts.proofs.Firsts.{first_in-append, holds, whole_is, two}
use Rattle.field_facts.proofs.Stands.{behind}
use Rattle.field_facts.proofs.Again.{after_text, byte_again, is_left, number_again, piece_again}
use Rattle.frozen_run.specs.Reading.{values, after_word, maybe_in, meta_in, violation_in}
use Rattle.frozen_run.specs.Shapes.{HasMetaShape, HasPageShape, HasViolationShape}
use Rattle.frozen_run.proofs.PageFields.{number_fields, meta_fields, page_split}

-- Fields without a fault, whose value is v, and which end after this text.
pub record Again {A : Type 0} (body : List ℕ) (fields : List FrozenField) (at : ℕ) (read v : A) (next : ℕ) (text : List ℕ) : Type 0 where
  pub none : first_in body fields ≡ None
  pub value : read ≡ v
  pub ends : next ≡ at + length text

-- ---- fields that are whole and keep their rules

pub any_again : (body : List ℕ) (at : ℕ) (text rest : List ℕ) (n : ℕ) → drop at body ≡ text ++ rest →
    length text ≡ n → fault_in body (any_in body at n) ≡ None
any_again body at text rest n e size = whole_is _ (Form (length body)) (is_left body at text rest n e size)

pub ruled_again : (body : List ℕ) (at : ℕ) (text rest : List ℕ) (n : ℕ) (rule : Bool) → drop at body ≡ text ++ rest →
    length text ≡ n → rule ≡ true → fault_in body (ruled_in body at n rule) ≡ None
ruled_again body at text rest n rule e size right =
    holds _ rule (Form (length body)) (Form at) (is_left body at text rest n e size) right

pub word_below_again : (body : List ℕ) (at limit n : ℕ) (rest : List ℕ) → n < 2 ^ 32 → n < limit →
    drop at body ≡ word n ++ rest → fault_in body (word_below body at limit) ≡ None
word_below_again body at limit n rest lt below e =
    ruled_again body at (word n) rest 4 (ltb (number body at) limit) e refl
    (ap (λ (k : ℕ). ltb k limit) (number_again body at n rest lt e) ∙ lt-ltb n limit below)

-- ---- nothing, or a word

pub record MaybeAgain (body : List ℕ) (at : ℕ) (o : Option ℕ) : Type 0 where
  pub value : maybe_in body at ≡ o
  pub ends : after_maybe body at ≡ at + length (maybe_word o)

pub maybe_value : (body : List ℕ) (at : ℕ) (o : Option ℕ) (rest : List ℕ) → IfSome o IsWord →
    drop at body ≡ maybe_word o ++ rest → MaybeAgain body at o
maybe_value body at None rest is e =
    let b : get_or body at 0 ≡ 0 = byte_again body at 0 rest e in
    record {
      value = ap (λ (k : ℕ). cond (eqb k 1) (Some (number body (at + 1))) None) b;
      ends = ap (λ (k : ℕ). at + cond (eqb k 1) 5 1) b;
    }
maybe_value body at (Some w) rest is e =
    let b : get_or body at 0 ≡ 1 = byte_again body at 1 (word w ++ rest) e in
    let e1 : drop (at + 1) body ≡ word w ++ rest = behind body at (1 ∷ []) (word w ++ rest) e in
    record {
      value = ap (λ (k : ℕ). cond (eqb k 1) (Some (number body (at + 1))) None) b
          ∙ ap (λ (n : ℕ). Some n) (number_again body (at + 1) w rest is e1);
      ends = ap (λ (k : ℕ). at + cond (eqb k 1) 5 1) b;
    }

-- what holds of a value that is there
if_some : (o : Option ℕ) (P : ℕ → Type 0) (w : ℕ) → o ≡ Some w → IfSome o P → P w
if_some o P w is h = subst (λ x. IfSome x P) is h

first_if : (body : List ℕ) (b : Bool) (field : FrozenField) →
    first_in body (cond b (field ∷ []) []) ≡ cond b (first_of (fault_in body field) None) None
first_if body true field = refl
first_if body false field = refl

maybe_none_by : (body : List ℕ) (at : ℕ) (o : Option ℕ) (rest : List ℕ) (field : FrozenField) →
    drop at body ≡ maybe_word o ++ rest → ((w : ℕ) → o ≡ Some w → fault_in body field ≡ None) →
    first_of (fault_in body (byte_below body at 2)) (first_in body (cond (eqb (get_or body at 0) 1) (field ∷ []) [])) ≡ None
maybe_none_by body at None rest field e there =
    let b : get_or body at 0 ≡ 0 = byte_again body at 0 rest e in
    two _ _ (ruled_again body at (0 ∷ []) rest 1 (ltb (get_or body at 0) 2) e refl (ap (λ (k : ℕ). ltb k 2) b))
    (first_if body (eqb (get_or body at 0) 1) field
    ∙ ap (λ (k : ℕ). cond (eqb k 1) (first_of (fault_in body field) None) None) b)
maybe_none_by body at (Some w) rest field e there =
    let b : get_or body at 0 ≡ 1 = byte_again body at 1 (word w ++ rest) e in
    two _ _ (ruled_again body at (1 ∷ []) (word w ++ rest) 1 (ltb (get_or body at 0) 2) e refl (ap (λ (k : ℕ). ltb k 2) b))
    (first_if body (eqb (get_or body at 0) 1) field
    ∙ ap (λ (k : ℕ). cond (eqb k 1) (first_of (fault_in body field) None) None) b
    ∙ ap (λ o. first_of o None) (there w refl))

after_one : (body : List ℕ) (at : ℕ) (o : Option ℕ) (w : ℕ) (rest : List ℕ) → drop at body ≡ maybe_word o ++ rest →
    o ≡ Some w → drop (at + 1) body ≡ word w ++ rest
after_one body at o w rest e is =
    let e' : drop at body ≡ 1 ∷ (word w ++ rest) = e ∙ ap (λ x. maybe_word x ++ rest) is in
    behind body at (1 ∷ []) (word w ++ rest) e'

pub maybe_again : (body : List ℕ) (at : ℕ) (o : Option ℕ) (rest : List ℕ) → IfSome o IsWord →
    drop at body ≡ maybe_word o ++ rest →
    Again body (maybe_fields body at) at (maybe_in body at) o (after_maybe body at) (maybe_word o)
maybe_again body at o rest is e =
    let v = maybe_value body at o rest is e in
    record {
      none = maybe_none_by body at o rest (any_in body (at + 1) 4) e
          (λ w there. any_again body (at + 1) (word w) rest 4 (after_one body at o w rest e there) refl);
      value = v.value;
      ends = v.ends;
    }

pub mark_again : (body : List ℕ) (frames at : ℕ) (o : Option ℕ) (rest : List ℕ) → IfSome o IsWord →
    IfSome o (λ pa. is_word_in_ram frames pa ≡ true) → drop at body ≡ maybe_word o ++ rest →
    Again body (mark_fields body frames at) at (maybe_in body at) o (after_maybe body at) (maybe_word o)
mark_again body frames at o rest is right e =
    let v = maybe_value body at o rest is e in
    let rule = is_word_in_ram frames (number body (at + 1)) in
    record {
      none = maybe_none_by body at o rest (ruled_in body (at + 1) 4 rule) e
          (λ w there. let e1 = after_one body at o w rest e there in
          let lt : IsWord w = if_some o IsWord w there is in
          ruled_again body (at + 1) (word w) rest 4 rule e1 refl
          (ap (is_word_in_ram frames) (number_again body (at + 1) w rest lt e1)
          ∙ if_some o (λ pa. is_word_in_ram frames pa ≡ true) w there right));
      value = v.value;
      ends = v.ends;
    }

-- ---- rows

pub row_again : {A : Type 0} (body : List ℕ) (fields : ℕ → List FrozenField) (after : ℕ → ℕ) (value : ℕ → A)
    (text : A → List ℕ) (P : A → Type 0) →
    ((at : ℕ) (x : A) (rest : List ℕ) → P x → drop at body ≡ text x ++ rest →
    Again body (fields at) at (value at) x (after at) (text x)) →
    (xs : List A) (n at : ℕ) (rest : List ℕ) → length xs ≡ n → AllByRecursion P xs →
    drop at body ≡ flat_map text xs ++ rest →
    Again body (parts fields after n at) at (values value after n at) xs (after_parts after n at) (flat_map text xs)
unfolding parts after_parts values
row_again body fields after value text P each [] zero at rest size all e =
    record { none = refl; value = refl; ends = sym (add-zero at) }
row_again body fields after value text P each [] (suc n) at rest size all e = absurd (omega (arith, size))
row_again body fields after value text P each (x ∷ xs) zero at rest size all e = absurd (omega (arith, size))
row_again {A} body fields after value text P each (x ∷ xs) (suc n) at rest size all e =
    let later = flat_map text xs in
    let apart : drop at body ≡ text x ++ (later ++ rest) =
    e ∙ ap (λ t. t ++ rest) (flat_map-cons text x xs) ∙ append_assoc (text x) later rest in
    let first = each at x (later ++ rest) all.0 apart in
    let next = after at in
    let there = after_text body at (text x) (later ++ rest) next apart first.ends in
    let others = row_again body fields after value text P each xs n next rest (omega (arith, size)) all.1 there in
    record {
      none = first_in-append body (fields at) (parts fields after n next) ∙ two _ _ first.none others.none;
      value = ap (λ (y : A). y ∷ values value after n next) first.value ∙ ap (λ (ys : List A). x ∷ ys) others.value;
      ends = others.ends ∙ (let long = ap length (flat_map-cons text x xs) in
          omega (arith, first.ends, long, length-append (text x) later));
    }

pub word_again : (body : List ℕ) (at w : ℕ) (rest : List ℕ) → IsWord w → drop at body ≡ word w ++ rest →
    Again body (any_in body at 4 ∷ []) at (number body at) w (after_word at) (word w)
word_again body at w rest is e = record {
  none = two _ _ (any_again body at (word w) rest 4 e refl) refl;
  value = number_again body at w rest is e;
  ends = refl;
}

-- ---- vector and digest

pub meta_again : (body : List ℕ) (at : ℕ) (m : Meta) (rest : List ℕ) → HasMetaShape m →
    drop at body ≡ meta_bytes m ++ rest →
    Again body (meta_fields body at) at (meta_in body at) m (at + 48) (meta_bytes m)
meta_again body at m rest is e =
    let e0 : drop at body ≡ m.iv ++ (m.digest ++ rest) = e ∙ append_assoc m.iv m.digest rest in
    let e16 : drop (at + 16) body ≡ m.digest ++ rest =
    after_text body at m.iv (m.digest ++ rest) (at + 16) e0 (omega (arith, is.iv)) in
    let iv : take 16 (drop at body) ≡ m.iv = piece_again body at m.iv (m.digest ++ rest) 16 e0 is.iv in
    let digest : take 32 (drop (at + 16) body) ≡ m.digest = piece_again body (at + 16) m.digest rest 32 e16 is.digest in
    record {
      none = two _ _ (any_again body at m.iv (m.digest ++ rest) 16 e0 is.iv)
          (two _ _ (any_again body (at + 16) m.digest rest 32 e16 is.digest) refl);
      value = λ i. record { iv = iv i; digest = digest i };
      ends = omega (arith, is.iv, is.digest, length-append m.iv m.digest);
    }

-- ---- pages

pub numbers_again : (body : List ℕ) (programs at : ℕ) (q : PageId) (rest : List ℕ) → HasPageShape q →
    IsPage programs q → drop at body ≡ page_words q ++ rest →
    Again body (number_fields body programs at) at (page_at body at) q (at + 12) (page_words q)
numbers_again body programs at q rest shape is e =
    let w0 = word q.domain in
    let w4 = word q.resource in
    let w8 = word q.page in
    let e0 : drop at body ≡ w0 ++ (w4 ++ (w8 ++ rest)) = e in
    let e4 : drop (at + 4) body ≡ w4 ++ (w8 ++ rest) = behind body at w0 (w4 ++ (w8 ++ rest)) e0 in
    let e8 : drop (at + 8) body ≡ w8 ++ rest = behind body at (w0 ++ w4) (w8 ++ rest) e0 in
    let d = number_again body at q.domain (w4 ++ (w8 ++ rest)) shape.domain e0 in
    let r = number_again body (at + 4) q.resource (w8 ++ rest) shape.resource e4 in
    let p = number_again body (at + 8) q.page rest shape.page e8 in
    record {
      none = two _ _ (word_below_again body at programs q.domain (w4 ++ (w8 ++ rest)) shape.domain is.domain e0)
          (two _ _ (word_below_again body (at + 4) 16 q.resource (w8 ++ rest) shape.resource is.resource e4)
          (two _ _ (word_below_again body (at + 8) 1024 q.page rest shape.page is.page e8) refl));
      value = λ i. record { domain = d i; resource = r i; page = p i };
      ends = refl;
    }

pub record PageAgain (body : List ℕ) (programs : ℕ) (right : Bool) (at : ℕ) (q : PageId) (m : Meta) : Type 0 where
  pub none : first_in body (page_fields body programs right at) ≡ None
  pub page : page_at body at ≡ q
  pub meta : meta_in body (at + 12) ≡ m

pub page_again : (body : List ℕ) (programs : ℕ) (right : Bool) (at : ℕ) (q : PageId) (m : Meta) (rest : List ℕ) →
    HasPageShape q → HasMetaShape m → IsPage programs q → right ≡ true →
    drop at body ≡ (page_words q ++ meta_bytes m) ++ rest → PageAgain body programs right at q m
page_again body programs right at q m rest shape meta_shape is good e =
    let e0 : drop at body ≡ page_words q ++ (meta_bytes m ++ rest) =
    e ∙ append_assoc (page_words q) (meta_bytes m) rest in
    let numbers = numbers_again body programs at q (meta_bytes m ++ rest) shape is e0 in
    let e12 = after_text body at (page_words q) (meta_bytes m ++ rest) (at + 12) e0 numbers.ends in
    let meta = meta_again body (at + 12) m rest meta_shape e12 in
    record {
      none = page_split body programs right at
          ∙ two _ _ numbers.none (two _ _ (ap (λ b. cond b None (Some (Form at))) good) meta.none);
      page = numbers.value;
      meta = meta.value;
    }

-- ---- violations

-- the fields, the value and the end, if the first byte is this
abbrev violation_fields_by : ℕ → List ℕ → ℕ → ℕ → List FrozenField
violation_fields_by b body frames at =
    ruled_in body at 1 (ltb b 4)
    ∷ cond (eqb b 1) (word_below body (at + 1) 16 ∷ word_below body (at + 5) 1024 ∷ word_below body (at + 9) frames ∷ [])
    (cond (eqb b 2) (any_in body (at + 1) 4 ∷ []) (cond (eqb b 3) (any_in body (at + 1) 4 ∷ any_in body (at + 5) 4 ∷ []) []))

abbrev violation_value_by : ℕ → List ℕ → ℕ → ℕ → Option Violation
violation_value_by b body d at =
    cond (eqb b 1) (Some (violation.Page (record { domain = d; resource = number body (at + 1); page = number body (at + 5) }) (record { 0 = number body (at + 9) })))
    (cond (eqb b 2) (Some (violation.Context (number body (at + 1))))
    (cond (eqb b 3) (Some (violation.Mapping (number body (at + 1)) (number body (at + 5)))) None))

abbrev violation_end_by : ℕ → ℕ → ℕ
violation_end_by b at = at + cond (eqb b 1) 13 (cond (eqb b 2) 5 (cond (eqb b 3) 9 1))

pub violation_again : (body : List ℕ) (frames d at : ℕ) (v : Option Violation) (rest : List ℕ) →
    IfSome v HasViolationShape → IfSome v (IsViolationOf frames d) → drop at body ≡ violation_bytes v ++ rest →
    Again body (violation_fields body frames at) at (violation_in body d at) v (after_violation body at) (violation_bytes v)
unfolding violation_fields violation_in
violation_again body frames d at None rest shape is e =
    let b : get_or body at 0 ≡ 0 = byte_again body at 0 rest e in
    let left = is_left body at (0 ∷ []) rest 1 e refl in
    let none : first_in body (violation_fields_by 0 body frames at) ≡ None =
    two _ _ (holds _ true (Form (length body)) (Form at) left refl) refl in
    record {
      none = ap (λ (k : ℕ). first_in body (violation_fields_by k body frames at)) b ∙ none;
      value = ap (λ (k : ℕ). violation_value_by k body d at) b;
      ends = ap (λ (k : ℕ). violation_end_by k at) b;
    }
violation_again body frames d at (Some (violation.Page page frame)) rest shape is e =
    let w1 = word page.resource in
    let w5 = word page.page in
    let w9 = word frame.0 in
    let b : get_or body at 0 ≡ 1 = byte_again body at 1 (w1 ++ (w5 ++ (w9 ++ rest))) e in
    let left = is_left body at (1 ∷ []) (w1 ++ (w5 ++ (w9 ++ rest))) 1 e refl in
    let e1 : drop (at + 1) body ≡ w1 ++ (w5 ++ (w9 ++ rest)) = behind body at (1 ∷ []) (w1 ++ (w5 ++ (w9 ++ rest))) e in
    let e5 : drop (at + 5) body ≡ w5 ++ (w9 ++ rest) = behind body at (1 ∷ w1) (w5 ++ (w9 ++ rest)) e in
    let e9 : drop (at + 9) body ≡ w9 ++ rest = behind body at (1 ∷ (w1 ++ w5)) (w9 ++ rest) e in
    let none : first_in body (violation_fields_by 1 body frames at) ≡ None =
    two _ _ (holds _ true (Form (length body)) (Form at) left refl)
    (two _ _ (word_below_again body (at + 1) 16 page.resource (w5 ++ (w9 ++ rest)) shape.0.resource is.1 e1)
    (two _ _ (word_below_again body (at + 5) 1024 page.page (w9 ++ rest) shape.0.page is.2 e5)
    (two _ _ (word_below_again body (at + 9) frames frame.0 rest shape.1 is.3 e9) refl))) in
    let same_d : d ≡ page.domain = sym is.0 in
    let r = number_again body (at + 1) page.resource (w5 ++ (w9 ++ rest)) shape.0.resource e1 in
    let p = number_again body (at + 5) page.page (w9 ++ rest) shape.0.page e5 in
    let f = number_again body (at + 9) frame.0 rest shape.1 e9 in
    record {
      none = ap (λ (k : ℕ). first_in body (violation_fields_by k body frames at)) b ∙ none;
      value = ap (λ (k : ℕ). violation_value_by k body d at) b
          ∙ λ i. Some (violation.Page (record { domain = same_d i; resource = r i; page = p i }) (record { 0 = f i }));
      ends = ap (λ (k : ℕ). violation_end_by k at) b;
    }
violation_again body frames d at (Some (violation.Context ctx)) rest shape is e =
    let b : get_or body at 0 ≡ 2 = byte_again body at 2 (word ctx ++ rest) e in
    let left = is_left body at (2 ∷ []) (word ctx ++ rest) 1 e refl in
    let e1 : drop (at + 1) body ≡ word ctx ++ rest = behind body at (2 ∷ []) (word ctx ++ rest) e in
    let none : first_in body (violation_fields_by 2 body frames at) ≡ None =
    two _ _ (holds _ true (Form (length body)) (Form at) left refl)
    (two _ _ (any_again body (at + 1) (word ctx) rest 4 e1 refl) refl) in
    record {
      none = ap (λ (k : ℕ). first_in body (violation_fields_by k body frames at)) b ∙ none;
      value = ap (λ (k : ℕ). violation_value_by k body d at) b
          ∙ ap (λ (n : ℕ). Some (violation.Context n)) (number_again body (at + 1) ctx rest shape e1);
      ends = ap (λ (k : ℕ). violation_end_by k at) b;
    }
violation_again body frames d at (Some (violation.Mapping ctx root)) rest shape is e =
    let w1 = word ctx in
    let w5 = word root in
    let b : get_or body at 0 ≡ 3 = byte_again body at 3 (w1 ++ (w5 ++ rest)) e in
    let left = is_left body at (3 ∷ []) (w1 ++ (w5 ++ rest)) 1 e refl in
    let e1 : drop (at + 1) body ≡ w1 ++ (w5 ++ rest) = behind body at (3 ∷ []) (w1 ++ (w5 ++ rest)) e in
    let e5 : drop (at + 5) body ≡ w5 ++ rest = behind body at (3 ∷ w1) (w5 ++ rest) e in
    let none : first_in body (violation_fields_by 3 body frames at) ≡ None =
    two _ _ (holds _ true (Form (length body)) (Form at) left refl)
    (two _ _ (any_again body (at + 1) w1 (w5 ++ rest) 4 e1 refl) (two _ _ (any_again body (at + 5) w5 rest 4 e5 refl) refl)) in
    let c = number_again body (at + 1) ctx (w5 ++ rest) shape.0 e1 in
    let r = number_again body (at + 5) root rest shape.1 e5 in
    record {
      none = ap (λ (k : ℕ). first_in body (violation_fields_by k body frames at)) b ∙ none;
      value = ap (λ (k : ℕ). violation_value_by k body d at) b ∙ λ i. Some (violation.Mapping (c i) (r i));
      ends = ap (λ (k : ℕ). violation_end_by k at) b;
    }

-- ---- control and status registers

pub csrs_again : (body bits ws : List ℕ) (at : ℕ) (rest : List ℕ) → length ws ≡ length bits →
    AllByRecursion IsWord ws → ((i : ℕ) → i < length bits → has_only (get_or bits i 0) (get_or ws i 0) ≡ true) →
    drop at body ≡ flat_map word ws ++ rest →
    Again body (csr_fields body bits at) at (values (number body) after_word (length bits) at) ws (at + 4 * length bits)
    (flat_map word ws)
unfolding csr_fields values
csrs_again body [] [] at rest size is kept e = record { none = refl; value = refl; ends = omega arith }
csrs_again body [] (w ∷ ws) at rest size is kept e = absurd (omega (arith, size))
csrs_again body (b ∷ bits) [] at rest size is kept e = absurd (omega (arith, size))
csrs_again body (b ∷ bits) (w ∷ ws) at rest size is kept e =
    let later = flat_map word ws in
    let apart : drop at body ≡ word w ++ (later ++ rest) =
    e ∙ ap (λ t. t ++ rest) (flat_map-cons word w ws) ∙ append_assoc (word w) later rest in
    let there : drop (at + 4) body ≡ later ++ rest = behind body at (word w) (later ++ rest) apart in
    let n_is = number_again body at w (later ++ rest) is.0 apart in
    let others = csrs_again body bits ws (at + 4) rest (omega (arith, size)) is.1 (λ i low. kept (suc i) (omega arith)) there in
    record {
      none = two _ _ (ruled_again body at (word w) (later ++ rest) 4 (has_only b (number body at)) apart refl
          (ap (has_only b) n_is ∙ kept 0 (omega arith))) others.none;
      value = ap (λ (k : ℕ). k ∷ values (number body) after_word (length bits) (at + 4)) n_is
          ∙ ap (λ (l : List ℕ). w ∷ l) others.value;
      ends = let long = ap length (flat_map-cons word w ws) in
          omega (arith, others.ends, long, length-append (word w) later);
    }
