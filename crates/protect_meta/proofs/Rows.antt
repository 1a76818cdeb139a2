-- What stands for each page in a row after a write.
use Rattle.std.proofs.Common.{◌≡◌, ◌≢◌, ℕ, ◌+◌, ◌-◌, ◌*◌, ◌<◌, ◌≤◌, Bool, true, false, List, Option, None, Some, length}
use Rattle.std.proofs.Common.{get_or, slice_set, replicate, refl, ap, sym, ◌∙◌, inl, inr, arith, if◌then◌else◌, subst}
use Rattle.std.proofs.lemmas.List.{get_or-set_same, get_or-set_other, get_or-replicate, length-set}
use Rattle.std.proofs.lemmas.Bool.{cases_lt}
use Rattle.std.specs.List.{CopiedTo, SameBelow, SameFrom}
use Rattle.cloak_base.specs.declared.names.PageId.{PageId}
use Rattle.cloak_base.specs.Pages.{page_in, with_page, with_resource, with_copied}
use Rattle.cloak_base.proofs.Pages.{same_page_tells, is_of_tells, same_numbers}
use Rattle.protect_meta.specs.Pages.{IsIn, page_index, value_in_row}
use Rattle.protect_meta.proofs.Pages.{is_page_tells}

abbrev pub index_of : PageId → ℕ
index_of p = page_index p.domain p.resource p.page

pub chosen_true : {A : Type 0} (b : Bool) (x y : A) → b ≡ true → (if b then x else y) ≡ x
chosen_true b x y e = ap (λ (t : Bool). if t then x else y) e

pub chosen_false : {A : Type 0} (b : Bool) (x y : A) → b ≡ false → (if b then x else y) ≡ y
chosen_false b x y e = ap (λ (t : Bool). if t then x else y) e

pub value_of_page : {A : Type 0} (n : ℕ) (row : List (Option A)) (p : PageId) →
    IsIn n p → value_in_row n row p ≡ get_or row (index_of p) None
unfolding value_in_row
value_of_page n row p h = elim (is_page_tells n p) [ inl t ↦ chosen_true _ _ _ t.0 | inr f ↦ absurd (f.1 h) ]

pub value_of_no_page : {A : Type 0} (n : ℕ) (row : List (Option A)) (p : PageId) →
    ¬ IsIn n p → value_in_row n row p ≡ None
unfolding value_in_row
value_of_no_page n row p h = elim (is_page_tells n p) [ inl t ↦ absurd (h t.1) | inr f ↦ chosen_false _ _ _ f.0 ]

-- two pages in one place are one
one_place : (n : ℕ) (p q : PageId) → IsIn n p → IsIn n q → index_of p ≡ index_of q → p ≡ q
one_place n p q there there' e = same_numbers p q (omega arith) (omega arith) (omega arith)

-- if there can be no value, there is none
pub only_none : {A : Type 0} (P : Option A → Type 0) → ((v : A) → P (Some v) → ⊥) → (o : Option A) → P o → o ≡ None
only_none P never None h = refl
only_none P never (Some v) h = absurd (never v h)

-- nothing is set at first
pub value_at_first : {A : Type 0} (n : ℕ) (row : List (Option A)) →
    row ≡ replicate (n * 16384) None → (p : PageId) → value_in_row n row p ≡ None
value_at_first {A} n row is p =
    elim (is_page_tells n p) [
      | inl t ↦
          let h = t.1 in
          let low : index_of p < n * 16384 = omega arith in
          value_of_page n row p h
          ∙ (ap (λ (s : List (Option A)). get_or s (index_of p) None) is
          ∙ get_or-replicate (n * 16384) (index_of p) None None low)
      | inr f ↦ value_of_no_page n row p f.1
    ]

-- one page's value was set
pub value_after_set : {A : Type 0} (n : ℕ) (row : List (Option A)) (q : PageId) (v : A) →
    length row ≡ n * 16384 → IsIn n q → (p : PageId) →
    value_in_row n (slice_set row (index_of q) (Some v)) p ≡ with_page (value_in_row n row) q (Some v) p
value_after_set {A} n row q v long there p =
    let new : List (Option A) = slice_set row (index_of q) (Some v) in
    elim (same_page_tells p q) [
      | inl t ↦
          let low : index_of q < length row = omega arith in
          let here : value_in_row n new q ≡ Some v =
          value_of_page n new q there ∙ get_or-set_same row (index_of q) (Some v) None low in
          subst (λ (x : PageId). value_in_row n new x ≡ Some v) (sym t.1) here ∙ sym (chosen_true _ _ _ t.0)
      | inr f ↦
          let stays : value_in_row n new p ≡ value_in_row n row p =
          elim (is_page_tells n p) [
            | inl t ↦
                let other : index_of p ≢ index_of q = λ e. f.1 (one_place n p q t.1 there e) in
                value_of_page n new p t.1
                ∙ (get_or-set_other row (index_of q) (index_of p) (Some v) None other ∙ sym (value_of_page n row p t.1))
            | inr o ↦ value_of_no_page n new p o.1 ∙ sym (value_of_no_page n row p o.1)
          ] in
          stays ∙ sym (chosen_false _ _ _ f.0)
    ]

-- where the pages of one resource stand in a row
pub record Span (domain resource : ℕ) : Type 0 where
  pub first : ℕ
  pub count : ℕ
  pub starts : first ≡ page_index domain resource 0
  pub all : count ≡ 1024
  pub resource_is : resource < 16

-- a page of no resource that was written
value_elsewhere : {A : Type 0} (n : ℕ) {domain resource : ℕ} (s : Span domain resource) (old new : List (Option A)) →
    SameBelow old new s.first → SameFrom old new (s.first + s.count) → (p : PageId) →
    ¬ ((p.domain ≡ domain) × (p.resource ≡ resource)) → value_in_row n new p ≡ value_in_row n old p
value_elsewhere {A} n s old new below above p other =
    elim (is_page_tells n p) [
      | inl t ↦
          let h = t.1 in
          let same : get_or new (index_of p) None ≡ get_or old (index_of p) None =
          elim (cases_lt (index_of p) s.first) [
            | inl lt ↦ below (index_of p) None lt
            | inr ge ↦
                elim (cases_lt (index_of p) (s.first + s.count)) [
                  | inl lt ↦ absurd (other (omega arith, omega arith))
                  | inr ge' ↦ above (index_of p) None ge'
                ]
          ] in
          value_of_page n new p h ∙ (same ∙ sym (value_of_page n old p h))
      | inr o ↦ value_of_no_page n new p o.1 ∙ sym (value_of_no_page n old p o.1)
    ]

-- a resource's places were copied to another's
pub value_after_copy : {A : Type 0} (n : ℕ) {domain from to : ℕ} (source : Span domain from) (target : Span domain to) →
    (old new : List (Option A)) → domain < n →
    CopiedTo old new source.first target.first target.count × SameBelow old new target.first
    × SameFrom old new (target.first + target.count) →
    (p : PageId) → value_in_row n new p ≡ with_copied (value_in_row n old) domain from to p
value_after_copy {A} n {domain} {from} {to} source target old new inside written p =
    elim (is_of_tells domain to p) [
      | inl t ↦
          let d = t.1.0 in
          let r = t.1.1 in
          let other : PageId = page_in from p in
          let copied : value_in_row n new p ≡ value_in_row n old other =
          elim (cases_lt p.page 1024) [
            | inl lt ↦
                let there : IsIn n p = record { domain = omega arith; resource = omega arith; page = lt } in
                let beside : IsIn n other = record { domain = omega arith; resource = source.resource_is; page = lt } in
                let place : source.first + (index_of p - target.first) ≡ index_of other = omega arith in
                value_of_page n new p there
                ∙ (written.0 (index_of p) None (omega arith) (omega arith)
                ∙ (ap (λ (k : ℕ). get_or old k None) place ∙ sym (value_of_page n old other beside)))
            | inr ge ↦
                value_of_no_page n new p (λ h. let x = h.page in absurd (omega arith))
                ∙ sym (value_of_no_page n old other (λ h. let x = h.page in absurd (omega arith)))
          ] in
          copied ∙ sym (chosen_true _ _ _ t.0)
      | inr f ↦ value_elsewhere n target old new written.1 written.2 p f.1 ∙ sym (chosen_false _ _ _ f.0)
    ]

-- the first i places from `first` on are empty, and no other place was written
pub record IsClearedTo {A : Type 0} (old : List (Option A)) (first i : ℕ) (now : List (Option A)) : Type 0 where
  pub long : length now ≡ length old
  pub empty : (k : ℕ) → first ≤ k → k < first + i → get_or now k None ≡ None
  pub below : SameBelow old now first
  pub above : SameFrom old now (first + i)

pub cleared_start : {A : Type 0} (old : List (Option A)) (first : ℕ) → IsClearedTo old first 0 old
cleared_start old first = record {
  long = refl;
  empty = λ k low high. absurd (omega arith);
  below = λ k d low. refl;
  above = λ k d high. refl;
}

-- a loop's step
pub cleared_more : {A : Type 0} (old : List (Option A)) (first i : ℕ) (now : List (Option A)) →
    first + i < length now → IsClearedTo old first i now →
    IsClearedTo old first (i + 1) (slice_set now (first + i) None)
cleared_more {A} old first i now inside c =
    let next : List (Option A) = slice_set now (first + i) None in
    record {
      long = length-set now (first + i) None ∙ c.long;
      empty = λ k low high.
          elim (cases_lt k (first + i)) [
            | inl lt ↦ get_or-set_other now (first + i) k None None (omega arith) ∙ c.empty k low lt
            | inr ge ↦
                let e : k ≡ first + i = omega arith in
                subst (λ (x : ℕ). get_or next x None ≡ None) (sym e) (get_or-set_same now (first + i) None None inside)
          ];
      below = λ k d low. get_or-set_other now (first + i) k None d (omega arith) ∙ c.below k d low;
      above = λ k d high. get_or-set_other now (first + i) k None d (omega arith) ∙ c.above k d (omega arith);
    }

-- a resource's places were cleared
pub value_after_clear : {A : Type 0} (n : ℕ) {domain resource : ℕ} (s : Span domain resource) (old new : List (Option A)) →
    IsClearedTo old s.first s.count new → (p : PageId) →
    value_in_row n new p ≡ with_resource (value_in_row n old) domain resource None p
value_after_clear {A} n {domain} {resource} s old new c p =
    elim (is_of_tells domain resource p) [
      | inl t ↦
          let d = t.1.0 in
          let r = t.1.1 in
          let gone : value_in_row n new p ≡ None =
          elim (is_page_tells n p) [
            | inl i ↦ let x = i.1 in value_of_page n new p x ∙ c.empty (index_of p) (omega arith) (omega arith)
            | inr o ↦ value_of_no_page n new p o.1
          ] in
          gone ∙ sym (chosen_true _ _ _ t.0)
      | inr f ↦ value_elsewhere n s old new c.below c.above p f.1 ∙ sym (chosen_false _ _ _ f.0)
    ]
