-- The first fault of fields that stand in a row, and fields without a fault.
use Rattle.std.proofs.Common.{◌≡◌, ◌∙◌, ℕ, suc, ◌+◌, ◌-◌, ◌<◌, ◌≤◌, Bool, true, false, cond, ltb, List, [], ◌∷◌, ◌++◌, Option, Some, None, refl, sym, ap, arith}
use Rattle.std.proofs.lemmas.Bool.{ltb-false}
use Rattle.cloak_model.specs.Fields.{Field, first_of, fault_in, first_in, parts, after_parts}

pub first_of-none : {F : Type 0} (o : Option F) → first_of o None ≡ o
first_of-none None = refl
first_of-none (Some f) = refl

pub first_of-assoc : {F : Type 0} (a b c : Option F) → first_of (first_of a b) c ≡ first_of a (first_of b c)
first_of-assoc None b c = refl
first_of-assoc (Some f) b c = refl

pub first_in-append : {F : Type 0} (body : List ℕ) (fs gs : List (Field F)) →
    first_in body (fs ++ gs) ≡ first_of (first_in body fs) (first_in body gs)
first_in-append body [] gs = refl
first_in-append body (f ∷ fs) gs =
    ap (first_of (fault_in body f)) (first_in-append body fs gs)
    ∙ sym (first_of-assoc (fault_in body f) (first_in body fs) (first_in body gs))

-- what is found in n parts after i of them: the next one's fault, or one after it
pub next_part : {F : Type 0} (fields : ℕ → List (Field F)) (after : ℕ → ℕ) (body : List ℕ) (n i at : ℕ) → i < n →
    first_in body (parts fields after (n - i) at)
    ≡ first_of (first_in body (fields at)) (first_in body (parts fields after (n - (i + 1)) (after at)))
unfolding parts
next_part fields after body n i at low =
    let left : n - i ≡ suc (n - (i + 1)) = omega arith in
    ap (λ (k : ℕ). first_in body (parts fields after k at)) left
    ∙ first_in-append body (fields at) (parts fields after (n - (i + 1)) (after at))

pub no_parts : {F : Type 0} (fields : ℕ → List (Field F)) (after : ℕ → ℕ) (body : List ℕ) (n i at : ℕ) → n - i ≡ 0 →
    first_in body (parts fields after (n - i) at) ≡ None
unfolding parts
no_parts fields after body n i at none = ap (λ (k : ℕ). first_in body (parts fields after k at)) none

pub next_after : (after : ℕ → ℕ) (n i at : ℕ) → i < n →
    after_parts after (n - i) at ≡ after_parts after (n - (i + 1)) (after at)
unfolding after_parts
next_after after n i at low =
    let left : n - i ≡ suc (n - (i + 1)) = omega arith in ap (λ (k : ℕ). after_parts after k at) left

pub no_after : (after : ℕ → ℕ) (n i at : ℕ) → n - i ≡ 0 → after_parts after (n - i) at ≡ at
unfolding after_parts
no_after after n i at none = ap (λ (k : ℕ). after_parts after k at) none

-- The first fault of a row is that of its front, or is found in the rest.

pub fault_found : {F : Type 0} (o rest all : Option F) (e : F) → Some e ≡ o → first_of o rest ≡ all →
    Some e ≡ all
fault_found None rest all e is found = absurd cc
fault_found (Some f) rest all e is found = is ∙ found

pub no_fault : {F : Type 0} (o rest all : Option F) → None ≡ o → first_of o rest ≡ all → rest ≡ all
no_fault None rest all is found = found
no_fault (Some f) rest all is found = absurd cc

-- Parts are read one after the other.

pub row_wrong : {F : Type 0} (fields : ℕ → List (Field F)) (after : ℕ → ℕ) (body : List ℕ) (n i at : ℕ) (all : Option F)
    (e : F) → i < n → Some e ≡ first_in body (fields at) → first_in body (parts fields after (n - i) at) ≡ all →
    Some e ≡ all
row_wrong fields after body n i at all e low is kept =
    fault_found (first_in body (fields at)) (first_in body (parts fields after (n - (i + 1)) (after at))) all e is
    (sym (next_part fields after body n i at low) ∙ kept)

pub row_on : {F : Type 0} (fields : ℕ → List (Field F)) (after : ℕ → ℕ) (body : List ℕ) (n i at next : ℕ) (all : Option F) →
    i < n → None ≡ first_in body (fields at) → next ≡ after at → first_in body (parts fields after (n - i) at) ≡ all →
    first_in body (parts fields after (n - (i + 1)) next) ≡ all
row_on fields after body n i at next all low is there kept =
    ap (λ (k : ℕ). first_in body (parts fields after (n - (i + 1)) k)) there
    ∙ no_fault (first_in body (fields at)) (first_in body (parts fields after (n - (i + 1)) (after at))) all is
    (sym (next_part fields after body n i at low) ∙ kept)

pub row_over : {F : Type 0} (fields : ℕ → List (Field F)) (after : ℕ → ℕ) (body : List ℕ) (n i at : ℕ) (all : Option F) →
    n ≤ i → first_in body (parts fields after (n - i) at) ≡ all → None ≡ all
row_over fields after body n i at all over kept =
    sym (no_parts fields after body n i at (omega arith)) ∙ kept

pub end_on : (after : ℕ → ℕ) (n i at next all : ℕ) → i < n → next ≡ after at → after_parts after (n - i) at ≡ all →
    after_parts after (n - (i + 1)) next ≡ all
end_on after n i at next all low there kept =
    ap (λ (k : ℕ). after_parts after (n - (i + 1)) k) there ∙ sym (next_after after n i at low) ∙ kept

pub end_over : (after : ℕ → ℕ) (n i at all : ℕ) → n ≤ i → after_parts after (n - i) at ≡ all → at ≡ all
end_over after n i at all over kept = sym (no_after after n i at (omega arith)) ∙ kept

-- Faults that there are not.

pub none_parts : {F : Type 0} (a b : Option F) → first_of a b ≡ None → (a ≡ None) × (b ≡ None)
none_parts None b h = (refl, h)
none_parts (Some f) b h = absurd cc

pub not_so : {F : Type 0} (b : Bool) (e : F) (o : Option F) → cond b (Some e) o ≡ None → (b ≡ false) × (o ≡ None)
not_so true e o h = absurd cc
not_so false e o h = (refl, h)

pub kept : {F : Type 0} (b : Bool) (e : F) → cond b None (Some e) ≡ None → b ≡ true
kept true e h = refl
kept false e h = absurd cc

-- a field without a fault is whole and keeps its rule
pub record FieldHolds (left size : ℕ) (rule : Bool) : Type 0 where
  pub whole : size ≤ left
  pub right : rule ≡ true

pub field_holds : {F : Type 0} (left size : ℕ) (rule : Bool) (e f : F) →
    cond (ltb left size) (Some e) (cond rule None (Some f)) ≡ None → FieldHolds left size rule
field_holds left size rule e f h =
    let a = not_so (ltb left size) e (cond rule None (Some f)) h in
    record { whole = ltb-false _ _ a.0; right = kept rule f a.1 }

-- a field that is whole and keeps its rule has no fault
pub holds : {F : Type 0} (cut rule : Bool) (e f : F) → cut ≡ false → rule ≡ true →
    cond cut (Some e) (cond rule None (Some f)) ≡ None
holds true rule e f whole right = absurd cc
holds false true e f whole right = refl
holds false false e f whole right = absurd cc

pub whole_is : {F : Type 0} (cut : Bool) (e : F) → cut ≡ false → cond cut (Some e) None ≡ None
whole_is true e whole = absurd cc
whole_is false e whole = refl

pub two : {F : Type 0} (a b : Option F) → a ≡ None → b ≡ None → first_of a b ≡ None
two None b first second = second
two (Some f) b first second = absurd cc
