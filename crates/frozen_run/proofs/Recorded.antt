-- Recorded pages of a body without a fault.
use Rattle.std.proofs.Common.{◌≡◌, ◌∙◌, ℕ, zero, suc, ◌+◌, ◌-◌, ◌<◌, ◌⊎◌, true, ltb, eqb, ◌&&◌, ◌||◌, List, ◌∷◌, All, Option, Some, None, refl, sym, ap, arith, inl, inr}
use Rattle.std.specs.List.{flat_map, AllByRecursion, AllPairs}
use Rattle.std.proofs.lemmas.Bool.{ltb-true, eqb-true, lt-ltb, eq-eqb, and_parts, and_from, or_cases, or_left, or_right}
use Rattle.std.proofs.lemmas.List.Concat.{flat_map-cons}
use Rattle.std.proofs.lemmas.List.Elements.{All-nil, All-cons, All-weaker}
use Rattle.cloak_base.specs.declared.names.PageId.{PageId}
use Rattle.cloak_model.specs.Fields.{first_of, first_in, after_parts}
use Rattle.frozen_state.specs.declared.frozen.FrozenPage.{FrozenPage}
use Rattle.frozen_state.specs.FrozenState.{recorded_bytes}
use Rattle.frozen_state.specs.Ranges.{IsPage, precedes, Rises}
use Rattle.frozen_state.specs.FrozenFault.{page_at, page_fields, rises, recorded_fields}
use Rattle.field_facts.proofs.Firsts.{first_in-append, none_parts}
use Rattle.field_facts.proofs.Stands.{AreBytes, Stands, Stands-then}
use Rattle.frozen_run.specs.Reading.{values, recorded_in, after_recorded}
use Rattle.frozen_run.proofs.Spelled.{page_holds}

-- ---- one more page

pub recorded_step : (body : List ℕ) (programs n : ℕ) (last : Option PageId) (at : ℕ) →
    first_in body (recorded_fields body programs (suc n) last at)
    ≡ first_of (first_in body (page_fields body programs (rises last (page_at body at)) at))
    (first_in body (recorded_fields body programs n (Some (page_at body at)) (at + 60)))
unfolding recorded_fields
recorded_step body programs n last at =
    first_in-append body (page_fields body programs (rises last (page_at body at)) at)
    (recorded_fields body programs n (Some (page_at body at)) (at + 60))

-- what is found in n pages after i of them: the next one's fault, or one after it
pub next_recorded : (body : List ℕ) (programs n i : ℕ) (last : Option PageId) (at : ℕ) → i < n →
    first_in body (recorded_fields body programs (n - i) last at)
    ≡ first_of (first_in body (page_fields body programs (rises last (page_at body at)) at))
    (first_in body (recorded_fields body programs (n - (i + 1)) (Some (page_at body at)) (at + 60)))
next_recorded body programs n i last at low =
    let left : n - i ≡ suc (n - (i + 1)) = omega arith in
    ap (λ (k : ℕ). first_in body (recorded_fields body programs k last at)) left
    ∙ recorded_step body programs (n - (i + 1)) last at

pub no_recorded : (body : List ℕ) (programs n i : ℕ) (last : Option PageId) (at : ℕ) → n - i ≡ 0 →
    first_in body (recorded_fields body programs (n - i) last at) ≡ None
unfolding recorded_fields
no_recorded body programs n i last at none =
    ap (λ (k : ℕ). first_in body (recorded_fields body programs k last at)) none

-- ---- the order of pages

abbrev StandsBefore : PageId → PageId → Type 0
StandsBefore p q =
    (p.domain < q.domain) ⊎ ((p.domain ≡ q.domain)
    × ((p.resource < q.resource) ⊎ ((p.resource ≡ q.resource) × (p.page < q.page))))

precedes_means : (p q : PageId) → precedes p q ≡ true → StandsBefore p q
precedes_means p q h =
    elim (or_cases (ltb p.domain q.domain)
    (eqb p.domain q.domain && (ltb p.resource q.resource || (eqb p.resource q.resource && ltb p.page q.page))) h) [
      | inl below ↦ inl (ltb-true _ _ below)
      | inr same ↦
          let a = and_parts (eqb p.domain q.domain)
          (ltb p.resource q.resource || (eqb p.resource q.resource && ltb p.page q.page)) same in
          inr (
            eqb-true _ _ a.0,
            elim (or_cases (ltb p.resource q.resource) (eqb p.resource q.resource && ltb p.page q.page) a.1) [
              | inl below ↦ inl (ltb-true _ _ below)
              | inr last ↦
                  let b = and_parts (eqb p.resource q.resource) (ltb p.page q.page) last in
                  inr (eqb-true _ _ b.0, ltb-true _ _ b.1)
            ],
          )
    ]

precedes_from : (p q : PageId) → StandsBefore p q → precedes p q ≡ true
precedes_from p q h = elim h [
  | inl below ↦ or_left (ltb p.domain q.domain) _ (lt-ltb _ _ below)
  | inr same ↦ or_right (ltb p.domain q.domain) _ (and_from (eqb p.domain q.domain) _ (eq-eqb _ _ same.0) (elim same.1 [
    | inl below ↦ or_left (ltb p.resource q.resource) _ (lt-ltb _ _ below)
    | inr last ↦ or_right (ltb p.resource q.resource) _ (and_from (eqb p.resource q.resource) _ (eq-eqb _ _ last.0) (lt-ltb _ _ last.1))
  ]))
]

abbrev BelowIn : PageId → PageId → Type 0
BelowIn p q = (p.resource < q.resource) ⊎ ((p.resource ≡ q.resource) × (p.page < q.page))

below_then : (p q r : PageId) → BelowIn p q → BelowIn q r → BelowIn p r
below_then p q r (inl c) (inl d) = inl (omega arith)
below_then p q r (inl c) (inr d) = inl (omega (arith, d.0))
below_then p q r (inr c) (inl d) = inl (omega (arith, c.0))
below_then p q r (inr c) (inr d) = inr (c.0 ∙ d.0, omega (arith, c.1, d.1))

stands_before : (p q r : PageId) → StandsBefore p q → StandsBefore q r → StandsBefore p r
stands_before p q r (inl a) (inl b) = inl (omega arith)
stands_before p q r (inl a) (inr b) = inl (omega (arith, b.0))
stands_before p q r (inr a) (inl b) = inl (omega (arith, a.0))
stands_before p q r (inr a) (inr b) = inr (a.0 ∙ b.0, below_then p q r a.1 b.1)

pub precedes_then : (p q r : PageId) → precedes p q ≡ true → precedes q r ≡ true → precedes p r ≡ true
precedes_then p q r a b = precedes_from p r (stands_before p q r (precedes_means p q a) (precedes_means q r b))

-- ---- what pages without a fault spell

-- all pages stand after this one
abbrev pub AreAfter : Option PageId → List FrozenPage → Type 0
AreAfter last pages = All (λ (p : FrozenPage). rises last p.page ≡ true) pages

pub record RecordedHold (body : List ℕ) (programs : ℕ) (last : Option PageId) (at : ℕ) (read : List FrozenPage) (end : ℕ) : Type 0 where
  pub text : Stands body at (flat_map recorded_bytes read) end
  pub pages : AllByRecursion (λ (p : FrozenPage). IsPage programs p.page) read
  pub above : AreAfter last read
  pub rising : AllPairs Rises read

above_from : (last : Option PageId) (p : FrozenPage) (pages : List FrozenPage) → rises last p.page ≡ true →
    AreAfter (Some p.page) pages → AreAfter last (p ∷ pages)
above_from None p pages first rest = All-cons (λ (x : FrozenPage). rises None x.page ≡ true) p pages first
    (All-weaker (λ (x : FrozenPage). rises (Some p.page) x.page ≡ true) (λ (x : FrozenPage). rises None x.page ≡ true)
    (λ x h. refl) pages rest)
above_from (Some q) p pages first rest = All-cons (λ (x : FrozenPage). rises (Some q) x.page ≡ true) p pages first
    (All-weaker (λ (x : FrozenPage). rises (Some p.page) x.page ≡ true) (λ (x : FrozenPage). rises (Some q) x.page ≡ true)
    (λ x h. precedes_then q p.page x.page first h) pages rest)

rising_from : (p : FrozenPage) (pages : List FrozenPage) → AreAfter (Some p.page) pages → AllPairs Rises pages →
    AllPairs Rises (p ∷ pages)
rising_from p pages after rising i zero d low inside = absurd (omega arith)
rising_from p pages after rising zero (suc j) d low inside = after j d (omega arith)
rising_from p pages after rising (suc i) (suc j) d low inside = rising i j d (omega arith) (omega arith)

pub recorded_hold : (body : List ℕ) (programs n : ℕ) (last : Option PageId) (at : ℕ) → AreBytes body →
    first_in body (recorded_fields body programs n last at) ≡ None →
    RecordedHold body programs last at (values (recorded_in body) after_recorded n at) (after_parts after_recorded n at)
unfolding values after_parts
recorded_hold body programs zero last at are h = record {
  text = record { parts = refl };
  pages = tt;
  above = All-nil (λ (p : FrozenPage). rises last p.page ≡ true);
  rising = λ i j d low inside. absurd (omega arith);
}
recorded_hold body programs (suc n) last at are h =
    let page = page_at body at in
    let rest = recorded_fields body programs n (Some page) (at + 60) in
    let a = none_parts (first_in body (page_fields body programs (rises last page) at)) (first_in body rest)
    (sym (recorded_step body programs n last at) ∙ h) in
    let first = page_holds body programs (rises last page) at are a.0 in
    let others = recorded_hold body programs n (Some page) (at + 60) are a.1 in
    let later = values (recorded_in body) after_recorded n (at + 60) in
    record {
      text = rw flat_map-cons (Stands-then body at (recorded_bytes (recorded_in body at)) (at + 60)
          (flat_map recorded_bytes later) (after_parts after_recorded n (at + 60)) first.text others.text);
      pages = (first.is_page, others.pages);
      above = above_from last (recorded_in body at) later first.rule others.above;
      rising = rising_from (recorded_in body at) later others.above others.rising;
    }
