-- The parts of a body without a fault spell what stands in them.
use Rattle.std.proofs.Common.{◌≡◌, ◌∙◌, ℕ, zero, suc, ◌+◌, ◌-◌, ◌*◌, ◌<◌, ◌≤◌, Bool, true, false, cond, ltb, eqb, List, [], ◌∷◌, ◌++◌, length, get_or, take, drop, Option, Some, None, refl, sym, ap, subst, arith}
use Rattle.std.specs.List.{flat_map, AllByRecursion}
use Rattle.std.specs.Option.{IfSome}
use Rattle.std.proofs.lemmas.Bool.{ltb-true, ltb-false, eqb-true, eqb-false}
use Rattle.std.proofs.lemmas.List.{drop_more}
use Rattle.std.proofs.lemmas.List.Concat.{flat_map-cons}
use Rattle.cloak_base.specs.declared.causes.Violation.{Violation}
use Rattle.cloak_base.specs.declared.causes.Violation.TheVariants as violation
use Rattle.cloak_base.specs.declared.names.Frame.{Frame}
use Rattle.cloak_base.specs.declared.names.PageId.{PageId}
use Rattle.cloak_model.specs.Bits.{word}
use Rattle.cloak_model.specs.Fields.{first_of, fault_in, first_in, number, parts, after_parts}
use Rattle.frozen_state.specs.declared.fault.FrozenFault.{FrozenFault}
use Rattle.frozen_state.specs.declared.fault.FrozenFault.TheVariants.{Form}
use Rattle.frozen_state.specs.FrozenState.{maybe_word, meta_bytes, violation_bytes, page_words}
use Rattle.frozen_state.specs.Ranges.{has_only, IsPage, IsViolationOf}
use Rattle.frozen_state.specs.FrozenFault.{FrozenField, any_in, ruled_in, byte_below, word_below, maybe_fields, after_maybe, violation_fields, after_violation, csr_fields, page_at, page_fields}
use Rattle.field_facts.proofs.Firsts.{first_in-append, none_parts, not_so, field_holds}
use Rattle.field_facts.proofs.Stands.{AreBytes, Stands, Stands-then, piece_stands, number_stands, byte_stands}
use Rattle.frozen_run.specs.Reading.{values, after_word, maybe_in, meta_in, violation_in}

-- ---- fields

pub any_whole : (body : List ℕ) (at n : ℕ) → fault_in body (any_in body at n) ≡ None → n ≤ length body - at
any_whole body at n h = ltb-false _ _ (not_so (ltb (length body - at) n) (Form (length body)) None h).0

-- a text that ends at another name of its end
pub ends_at : (body : List ℕ) (at : ℕ) (text : List ℕ) (b c : ℕ) → b ≡ c → Stands body at text b → Stands body at text c
ends_at body at text b c e s = subst (λ (k : ℕ). Stands body at text k) e s

-- a byte and a text after it
pub byte_then : (body : List ℕ) (at b : ℕ) (text : List ℕ) (next : ℕ) → 1 ≤ length body - at → get_or body at 0 ≡ b →
    Stands body (at + 1) text next → Stands body at (b ∷ text) next
byte_then body at b text next le is s =
    Stands-then body at (b ∷ []) (at + 1) text next (byte_stands body at b le is) s

-- ---- nothing, or a word

abbrev pub maybe_by : Bool → List ℕ → ℕ → Option ℕ
maybe_by there body at = cond there (Some (number body (at + 1))) None

pub zero_below_2 : (n : ℕ) → n < 2 → (n ≡ 1 → ⊥) → n ≡ 0
zero_below_2 zero lt other = refl
zero_below_2 (suc zero) lt other = absurd (other refl)
zero_below_2 (suc (suc n)) lt other = absurd (omega arith)

pub maybe_stands_by : (body : List ℕ) (at : ℕ) (there : Bool) → eqb (get_or body at 0) 1 ≡ there → AreBytes body →
    1 ≤ length body - at → get_or body at 0 < 2 → (there ≡ true → 4 ≤ length body - (at + 1)) →
    Stands body at (maybe_word (maybe_by there body at)) (at + cond there 5 1)
maybe_stands_by body at true is are whole below rest =
    byte_then body at 1 (word (number body (at + 1))) (at + 5) whole (eqb-true _ _ is)
    (ends_at body (at + 1) (word (number body (at + 1))) (at + 1 + 4) (at + 5) (omega arith)
    (number_stands body (at + 1) are (rest refl)))
maybe_stands_by body at false is are whole below rest =
    byte_stands body at 0 whole (zero_below_2 _ below (eqb-false _ _ is))

maybe_there_by : (body : List ℕ) (at : ℕ) (there : Bool) →
    first_in body (cond there (any_in body (at + 1) 4 ∷ []) []) ≡ None → there ≡ true → 4 ≤ length body - (at + 1)
maybe_there_by body at true h is = any_whole body (at + 1) 4 (none_parts (fault_in body (any_in body (at + 1) 4)) None h).0
maybe_there_by body at false h is = absurd cc

pub maybe_stands : (body : List ℕ) (at : ℕ) → AreBytes body → first_in body (maybe_fields body at) ≡ None →
    Stands body at (maybe_word (maybe_in body at)) (after_maybe body at)
maybe_stands body at are h =
    let b = eqb (get_or body at 0) 1 in
    let a = none_parts (fault_in body (byte_below body at 2)) (first_in body (cond b (any_in body (at + 1) 4 ∷ []) [])) h in
    let first = field_holds (length body - at) 1 (ltb (get_or body at 0) 2) (Form (length body)) (Form at) a.0 in
    maybe_stands_by body at b refl are first.whole (ltb-true _ _ first.right) (maybe_there_by body at b a.1)

-- ---- rows

pub values_stand : {A : Type 0} (body : List ℕ) (fields : ℕ → List FrozenField) (after : ℕ → ℕ) (value : ℕ → A)
    (text : A → List ℕ) →
    ((at : ℕ) → first_in body (fields at) ≡ None → Stands body at (text (value at)) (after at)) → (n at : ℕ) →
    first_in body (parts fields after n at) ≡ None →
    Stands body at (flat_map text (values value after n at)) (after_parts after n at)
unfolding parts after_parts values
values_stand body fields after value text each zero at h = record { parts = refl }
values_stand body fields after value text each (suc n) at h =
    let a = none_parts (first_in body (fields at)) (first_in body (parts fields after n (after at)))
    (sym (first_in-append body (fields at) (parts fields after n (after at))) ∙ h) in
    rw flat_map-cons (Stands-then body at (text (value at)) (after at)
    (flat_map text (values value after n (after at))) (after_parts after n (after at)) (each at a.0)
    (values_stand body fields after value text each n (after at) a.1))

pub values_all : {A : Type 0} (body : List ℕ) (fields : ℕ → List FrozenField) (after : ℕ → ℕ) (value : ℕ → A)
    (P : A → Type 0) → ((at : ℕ) → first_in body (fields at) ≡ None → P (value at)) → (n at : ℕ) →
    first_in body (parts fields after n at) ≡ None → AllByRecursion P (values value after n at)
unfolding parts values
values_all body fields after value P each zero at h = tt
values_all body fields after value P each (suc n) at h =
    let a = none_parts (first_in body (fields at)) (first_in body (parts fields after n (after at)))
    (sym (first_in-append body (fields at) (parts fields after n (after at))) ∙ h) in
    (each at a.0, values_all body fields after value P each n (after at) a.1)

pub word_stands : (body : List ℕ) (at : ℕ) → AreBytes body → first_in body (any_in body at 4 ∷ []) ≡ None →
    Stands body at (word (number body at)) (at + 4)
word_stands body at are h =
    number_stands body at are (any_whole body at 4 (none_parts (fault_in body (any_in body at 4)) None h).0)

-- ---- numbers with a rule

pub record WordHolds (body : List ℕ) (at : ℕ) (rule : Bool) : Type 0 where
  pub text : Stands body at (word (number body at)) (at + 4)
  pub right : rule ≡ true

pub ruled_holds : (body : List ℕ) (at : ℕ) (rule : Bool) → AreBytes body →
    fault_in body (ruled_in body at 4 rule) ≡ None → WordHolds body at rule
ruled_holds body at rule are h =
    let a = field_holds (length body - at) 4 rule (Form (length body)) (Form at) h in
    record { text = number_stands body at are a.whole; right = a.right }

-- ---- vector and digest

pub meta_stands : (body : List ℕ) (at : ℕ) → fault_in body (any_in body at 16) ≡ None →
    fault_in body (any_in body (at + 16) 32) ≡ None → Stands body at (meta_bytes (meta_in body at)) (at + 48)
meta_stands body at first second =
    Stands-then body at (take 16 (drop at body)) (at + 16) (take 32 (drop (at + 16) body)) (at + 48)
    (piece_stands body at 16)
    (ends_at body (at + 16) (take 32 (drop (at + 16) body)) (at + 16 + 32) (at + 48) (omega arith)
    (piece_stands body (at + 16) 32))

-- ---- pages

pub record PageHolds (body : List ℕ) (programs : ℕ) (right : Bool) (at : ℕ) : Type 0 where
  pub text : Stands body at (page_words (page_at body at) ++ meta_bytes (meta_in body (at + 12))) (at + 60)
  pub is_page : IsPage programs (page_at body at)
  pub rule : right ≡ true

right_field : (cut rule : Bool) (e f : FrozenFault) → cond cut (Some e) (cond rule None (Some f)) ≡ None → rule ≡ true
right_field true rule e f h = absurd cc
right_field false true e f h = refl
right_field false false e f h = absurd cc

pub page_holds : (body : List ℕ) (programs : ℕ) (right : Bool) (at : ℕ) → AreBytes body →
    first_in body (page_fields body programs right at) ≡ None → PageHolds body programs right at
page_holds body programs right at are h =
    let domain = word_below body at programs in
    let resource = word_below body (at + 4) 16 in
    let page = word_below body (at + 8) 1024 in
    let iv = any_in body (at + 12) 16 in
    let digest = any_in body (at + 28) 32 in
    let rule : Option FrozenFault = cond (ltb (length body - (at + 12)) 0) (Some (Form (length body))) (cond right None (Some (Form at))) in
    let a = none_parts (fault_in body domain)
    (first_of (fault_in body resource) (first_of (fault_in body page) (first_of rule
    (first_of (fault_in body iv) (first_of (fault_in body digest) None))))) h in
    let b = none_parts (fault_in body resource)
    (first_of (fault_in body page) (first_of rule (first_of (fault_in body iv) (first_of (fault_in body digest) None)))) a.1 in
    let c = none_parts (fault_in body page)
    (first_of rule (first_of (fault_in body iv) (first_of (fault_in body digest) None))) b.1 in
    let d = none_parts rule (first_of (fault_in body iv) (first_of (fault_in body digest) None)) c.1 in
    let e = none_parts (fault_in body iv) (first_of (fault_in body digest) None) d.1 in
    let f = none_parts (fault_in body digest) None e.1 in
    let x0 = ruled_holds body at (ltb (number body at) programs) are a.0 in
    let x4 = ruled_holds body (at + 4) (ltb (number body (at + 4)) 16) are b.0 in
    let x8 = ruled_holds body (at + 8) (ltb (number body (at + 8)) 1024) are c.0 in
    let from : at + 28 ≡ at + 12 + 16 = omega arith in
    let meta = meta_stands body (at + 12) e.0 (subst (λ (k : ℕ). fault_in body (any_in body k 32) ≡ None) from f.0) in
    let w0 = word (number body at) in
    let w4 = word (number body (at + 4)) in
    let w8 = word (number body (at + 8)) in
    let numbers : Stands body at (page_words (page_at body at)) (at + 12) =
    Stands-then body at w0 (at + 4) (w4 ++ w8) (at + 12) x0.text
    (Stands-then body (at + 4) w4 (at + 8) w8 (at + 12)
    (ends_at body (at + 4) w4 (at + 4 + 4) (at + 8) (omega arith) x4.text)
    (ends_at body (at + 8) w8 (at + 8 + 4) (at + 12) (omega arith) x8.text)) in
    record {
      text = Stands-then body at (page_words (page_at body at)) (at + 12) (meta_bytes (meta_in body (at + 12))) (at + 60)
          numbers (ends_at body (at + 12) (meta_bytes (meta_in body (at + 12))) (at + 12 + 48) (at + 60) (omega arith) meta);
      is_page = record {
        domain = ltb-true _ _ x0.right;
        resource = ltb-true _ _ x4.right;
        page = ltb-true _ _ x8.right;
      };
      rule = right_field _ right (Form (length body)) (Form at) d.0;
    }

-- ---- violations

abbrev violation_by : Bool → Bool → Bool → List ℕ → ℕ → ℕ → Option Violation
violation_by b1 b2 b3 body d at =
    let page : PageId = record { domain = d; resource = number body (at + 1); page = number body (at + 5) } in
    let frame : Frame = record { 0 = number body (at + 9) } in
    cond b1 (Some (violation.Page page frame)) (cond b2 (Some (violation.Context (number body (at + 1))))
    (cond b3 (Some (violation.Mapping (number body (at + 1)) (number body (at + 5)))) None))

abbrev violation_rest : Bool → Bool → Bool → List ℕ → ℕ → ℕ → List FrozenField
violation_rest b1 b2 b3 body frames at =
    cond b1 (word_below body (at + 1) 16 ∷ word_below body (at + 5) 1024 ∷ word_below body (at + 9) frames ∷ [])
    (cond b2 (any_in body (at + 1) 4 ∷ []) (cond b3 (any_in body (at + 1) 4 ∷ any_in body (at + 5) 4 ∷ []) []))

pub record ViolationHolds (body : List ℕ) (frames d at : ℕ) (v : Option Violation) (next : ℕ) : Type 0 where
  pub text : Stands body at (violation_bytes v) next
  pub right : IfSome v (IsViolationOf frames d)

zero_below_4 : (n : ℕ) → n < 4 → (n ≡ 1 → ⊥) → (n ≡ 2 → ⊥) → (n ≡ 3 → ⊥) → n ≡ 0
zero_below_4 zero lt a b c = refl
zero_below_4 (suc zero) lt a b c = absurd (a refl)
zero_below_4 (suc (suc zero)) lt a b c = absurd (b refl)
zero_below_4 (suc (suc (suc zero))) lt a b c = absurd (c refl)
zero_below_4 (suc (suc (suc (suc n)))) lt a b c = absurd (omega arith)

violation_holds_by : (body : List ℕ) (frames d at : ℕ) (b1 b2 b3 : Bool) → eqb (get_or body at 0) 1 ≡ b1 →
    eqb (get_or body at 0) 2 ≡ b2 → eqb (get_or body at 0) 3 ≡ b3 → AreBytes body → 1 ≤ length body - at →
    get_or body at 0 < 4 → first_in body (violation_rest b1 b2 b3 body frames at) ≡ None →
    ViolationHolds body frames d at (violation_by b1 b2 b3 body d at) (at + cond b1 13 (cond b2 5 (cond b3 9 1)))
violation_holds_by body frames d at true b2 b3 is1 is2 is3 are whole below h =
    let resource = word_below body (at + 1) 16 in
    let page = word_below body (at + 5) 1024 in
    let frame = word_below body (at + 9) frames in
    let a = none_parts (fault_in body resource) (first_of (fault_in body page) (first_of (fault_in body frame) None)) h in
    let b = none_parts (fault_in body page) (first_of (fault_in body frame) None) a.1 in
    let c = none_parts (fault_in body frame) None b.1 in
    let x1 = ruled_holds body (at + 1) (ltb (number body (at + 1)) 16) are a.0 in
    let x5 = ruled_holds body (at + 5) (ltb (number body (at + 5)) 1024) are b.0 in
    let x9 = ruled_holds body (at + 9) (ltb (number body (at + 9)) frames) are c.0 in
    let w1 = word (number body (at + 1)) in
    let w5 = word (number body (at + 5)) in
    let w9 = word (number body (at + 9)) in
    record {
      text = byte_then body at 1 (w1 ++ (w5 ++ w9)) (at + 13) whole (eqb-true _ _ is1)
          (Stands-then body (at + 1) w1 (at + 5) (w5 ++ w9) (at + 13)
          (ends_at body (at + 1) w1 (at + 1 + 4) (at + 5) (omega arith) x1.text)
          (Stands-then body (at + 5) w5 (at + 9) w9 (at + 13)
          (ends_at body (at + 5) w5 (at + 5 + 4) (at + 9) (omega arith) x5.text)
          (ends_at body (at + 9) w9 (at + 9 + 4) (at + 13) (omega arith) x9.text)));
      right = (refl, ltb-true _ _ x1.right, ltb-true _ _ x5.right, ltb-true _ _ x9.right);
    }
violation_holds_by body frames d at false true b3 is1 is2 is3 are whole below h =
    let w1 = word (number body (at + 1)) in
    record {
      text = byte_then body at 2 w1 (at + 5) whole (eqb-true _ _ is2)
          (ends_at body (at + 1) w1 (at + 1 + 4) (at + 5) (omega arith) (word_stands body (at + 1) are h));
      right = tt;
    }
violation_holds_by body frames d at false false true is1 is2 is3 are whole below h =
    let a = none_parts (fault_in body (any_in body (at + 1) 4)) (first_of (fault_in body (any_in body (at + 5) 4)) None) h in
    let b = none_parts (fault_in body (any_in body (at + 5) 4)) None a.1 in
    let w1 = word (number body (at + 1)) in
    let w5 = word (number body (at + 5)) in
    record {
      text = byte_then body at 3 (w1 ++ w5) (at + 9) whole (eqb-true _ _ is3)
          (Stands-then body (at + 1) w1 (at + 5) w5 (at + 9)
          (ends_at body (at + 1) w1 (at + 1 + 4) (at + 5) (omega arith)
          (number_stands body (at + 1) are (any_whole body (at + 1) 4 a.0)))
          (ends_at body (at + 5) w5 (at + 5 + 4) (at + 9) (omega arith)
          (number_stands body (at + 5) are (any_whole body (at + 5) 4 b.0))));
      right = tt;
    }
violation_holds_by body frames d at false false false is1 is2 is3 are whole below h = record {
  text = byte_stands body at 0 whole (zero_below_4 _ below (eqb-false _ _ is1) (eqb-false _ _ is2) (eqb-false _ _ is3));
  right = tt;
}

pub violation_holds : (body : List ℕ) (frames d at : ℕ) → AreBytes body →
    first_in body (violation_fields body frames at) ≡ None →
    ViolationHolds body frames d at (violation_in body d at) (after_violation body at)
unfolding violation_fields violation_in
violation_holds body frames d at are h =
    let b = get_or body at 0 in
    let a = none_parts (fault_in body (byte_below body at 4))
    (first_in body (violation_rest (eqb b 1) (eqb b 2) (eqb b 3) body frames at)) h in
    let first = field_holds (length body - at) 1 (ltb b 4) (Form (length body)) (Form at) a.0 in
    violation_holds_by body frames d at (eqb b 1) (eqb b 2) (eqb b 3) refl refl refl are first.whole
    (ltb-true _ _ first.right) a.1

-- ---- control and status registers

pub csrs_stand : (body bits : List ℕ) (at : ℕ) → AreBytes body → first_in body (csr_fields body bits at) ≡ None →
    Stands body at (flat_map word (values (number body) after_word (length bits) at)) (at + 4 * length bits)
unfolding csr_fields values
csrs_stand body [] at are h = ends_at body at [] at (at + 4 * 0) (omega arith) (record { parts = refl })
csrs_stand body (bits ∷ more) at are h =
    let field = ruled_in body at 4 (has_only bits (number body at)) in
    let a = none_parts (fault_in body field) (first_in body (csr_fields body more (at + 4))) h in
    let first = ruled_holds body at (has_only bits (number body at)) are a.0 in
    let rest = flat_map word (values (number body) after_word (length more) (at + 4)) in
    rw flat_map-cons (Stands-then body at (word (number body at)) (at + 4) rest (at + 4 * suc (length more)) first.text
    (ends_at body (at + 4) rest (at + 4 + 4 * length more) (at + 4 * suc (length more)) (omega arith)
    (csrs_stand body more (at + 4) are a.1)))

pub csrs_kept : (body bits : List ℕ) (at : ℕ) → AreBytes body → first_in body (csr_fields body bits at) ≡ None →
    (i : ℕ) → i < length bits →
    has_only (get_or bits i 0) (get_or (values (number body) after_word (length bits) at) i 0) ≡ true
unfolding csr_fields values
csrs_kept body [] at are h i low = absurd (omega arith)
csrs_kept body (bits ∷ more) at are h zero low =
    let field = ruled_in body at 4 (has_only bits (number body at)) in
    let a = none_parts (fault_in body field) (first_in body (csr_fields body more (at + 4))) h in
    (ruled_holds body at (has_only bits (number body at)) are a.0).right
csrs_kept body (bits ∷ more) at are h (suc i) low =
    let field = ruled_in body at 4 (has_only bits (number body at)) in
    let a = none_parts (fault_in body field) (first_in body (csr_fields body more (at + 4))) h in
    csrs_kept body more (at + 4) are a.1 i (omega arith)
