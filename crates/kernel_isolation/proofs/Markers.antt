-- The markers in an exchange: what stands before the marker of a step can be told from the outward half alone.
use Rattle.std.proofs.Common.{◌≡◌, ◌∙◌, ◌≤◌, ℕ, zero, suc, ◌+◌, Bool, true, false, cond, List, [], ◌∷◌, ◌++◌, length, take, refl, sym, ap, arith, append_assoc}
use Rattle.std.specs.Prelude.{◌==◌}
use Rattle.std.specs.List.{AllByRecursion}
use Rattle.std.proofs.lemmas.Bool.{cond-true, cond-false, eq-eqb, ne_eqb}
use Rattle.std.proofs.lemmas.List.Elements.{filter-append}
use Rattle.cloak_model.specs.Items.{Item}
use Rattle.cloak_model.specs.Items as item
use Rattle.cloak_model.specs.Exchange.{steps_items}
use Rattle.cloak_model.specs.Halves.{is_outward, outward_half}
use Rattle.cloak_model.specs.Record.{IsOfStep, IsCipher}
use Rattle.cloak_model.specs.World.{cipher_items}
use Rattle.kernel_isolation.proofs.Items.{is_within, AreWithin}
use Rattle.kernel_isolation.proofs.OutsideSteps.{AreInward}

-- no item is a marker
abbrev pub AreOfStep : List Item → Type 0
AreOfStep items = AllByRecursion IsOfStep items

pub of_step-append : (a b : List Item) → AreOfStep a → AreOfStep b → AreOfStep (a ++ b)
of_step-append [] b here there = there
of_step-append (i ∷ a) b here there = (here.0, of_step-append a b here.1 there)

pub ciphers_are_ciphers : (ciphers : List (ℕ × List ℕ)) → AllByRecursion IsCipher (cipher_items ciphers)
ciphers_are_ciphers [] = tt
ciphers_are_ciphers (c ∷ ciphers) = (refl, ciphers_are_ciphers ciphers)

pub ciphers_of_step : (ciphers : List (ℕ × List ℕ)) → AreOfStep (cipher_items ciphers)
ciphers_of_step [] = tt
ciphers_of_step (c ∷ ciphers) = (refl, ciphers_of_step ciphers)

one_inward : (i : Item) → is_outward i ≡ false → IsOfStep i
one_inward (item.Step number) is = absurd cc
one_inward (item.Close steps) is = absurd cc
one_inward item.End is = absurd cc
one_inward _ is = refl

pub inward_of_step : (items : List Item) → AreInward items → AreOfStep items
inward_of_step [] all = tt
inward_of_step (i ∷ items) all = (one_inward i all.0, inward_of_step items all.1)

one_within : (ram : List (List ℕ)) (i : Item) → is_within ram i ≡ true → IsOfStep i
one_within ram (item.Step number) is = absurd cc
one_within ram (item.Close steps) is = absurd cc
one_within ram item.End is = absurd cc
one_within ram _ is = refl

pub within_of_step : (ram : List (List ℕ)) (items : List Item) → AreWithin ram items → AreOfStep items
within_of_step ram [] all = tt
within_of_step ram (i ∷ items) all = (one_within ram i all.0, within_of_step ram items all.1)

-- What stands before the marker of the step after n others, or before Close.

abbrev begins_behind : ℕ → Item → Bool
begins_behind n (item.Step number) = number == suc n
begins_behind n (item.Close steps) = true
begins_behind n _ = false

abbrev pub before_step : ℕ → List Item → List Item
before_step n [] = []
before_step n (i ∷ items) = cond (begins_behind n i) [] (i ∷ before_step n items)

no_marker : (n : ℕ) (i : Item) → IsOfStep i → begins_behind n i ≡ false
no_marker n (item.Step number) is = absurd cc
no_marker n (item.Close steps) is = absurd cc
no_marker n item.End is = absurd cc
no_marker n _ is = refl

before_one : (n : ℕ) (i : Item) (test : Bool) (items a rest : List Item) → begins_behind n i ≡ false →
    before_step n items ≡ a ++ rest → before_step n (cond test (i ∷ items) items) ≡ cond test (i ∷ a) a ++ rest
before_one n i true items a rest is same =
    cond-false (begins_behind n i) [] (i ∷ before_step n items) is ∙ ap (λ (l : List Item). i ∷ l) same
before_one n i false items a rest is same = same

before_append : (n : ℕ) (a b : List Item) → AreOfStep a →
    before_step n (outward_half (a ++ b)) ≡ outward_half a ++ before_step n (outward_half b)
before_append n [] b all = refl
before_append n (i ∷ a) b all =
    before_one n i (is_outward i) (outward_half (a ++ b)) (outward_half a) (before_step n (outward_half b))
    (no_marker n i all.0)
    (before_append n a b all.1)

before_steps : (n p k : ℕ) (steps : List (List Item)) (closing : ℕ) (rest : List Item) →
    AllByRecursion AreOfStep steps →
    p + k ≡ suc n → k ≤ length steps →
    before_step n (outward_half (steps_items p steps ++ item.Close closing ∷ rest)) ≡ outward_half
    (steps_items p (take k steps))
unfolding steps_items
before_steps n p zero [] closing rest all at le = refl
before_steps n p zero (x ∷ steps) closing rest all at le =
    cond-true (p == suc n) [] _ (eq-eqb p (suc n) (omega (arith, at)))
before_steps n p (suc k) [] closing rest all at le = absurd (omega (arith, le))
before_steps n p (suc k) (x ∷ steps) closing rest all at le =
    let others : List Item = steps_items (suc p) steps in
    cond-false (p == suc n) [] _ (ne_eqb p (suc n) (λ same. omega (arith, same, at)))
    ∙ ap (λ (l : List Item). item.Step p ∷ l)
    (ap (λ (l : List Item). before_step n (outward_half l)) (append_assoc x others (item.Close closing ∷ rest))
    ∙ (before_append n x (others ++ item.Close closing ∷ rest) all.0
    ∙ (ap (λ (l : List Item). outward_half x ++ l)
    (before_steps n (suc p) k steps closing rest all.1 (omega (arith, at)) (omega (arith, le)))
    ∙ sym (filter-append is_outward x (steps_items (suc p) (take k steps))))))

-- of a whole exchange
pub before_step_is : (n : ℕ) (opening : List Item) (steps : List (List Item)) (closing : ℕ) (rest : List Item) →
    AreOfStep opening →
    AllByRecursion AreOfStep steps → n ≤ length steps →
    before_step n (outward_half (opening ++ (steps_items 1 steps ++ item.Close closing ∷ rest)))
    ≡ outward_half (opening ++ steps_items 1 (take n steps))
before_step_is n opening steps closing rest first all le =
    before_append n opening (steps_items 1 steps ++ item.Close closing ∷ rest) first
    ∙ (ap (λ (l : List Item). outward_half opening ++ l) (before_steps n 1 n steps closing rest all (omega arith) le)
    ∙ sym (filter-append is_outward opening (steps_items 1 (take n steps))))

-- The number of steps that Close tells.

abbrev pub closes_at : List Item → ℕ
closes_at [] = 0
closes_at (item.Close steps ∷ items) = steps
closes_at (i ∷ items) = closes_at items

closes_past : (i : Item) (items : List Item) → IsOfStep i → closes_at (i ∷ items) ≡ closes_at items
closes_past (item.Step number) items is = absurd cc
closes_past (item.Close steps) items is = absurd cc
closes_past item.End items is = absurd cc
closes_past _ items is = refl

closes_one : (i : Item) (test : Bool) (items : List Item) → IsOfStep i →
    closes_at (cond test (i ∷ items) items) ≡ closes_at items
closes_one i true items is = closes_past i items is
closes_one i false items is = refl

closes_append : (a b : List Item) → AreOfStep a → closes_at (outward_half (a ++ b)) ≡ closes_at (outward_half b)
closes_append [] b all = refl
closes_append (i ∷ a) b all = closes_one i (is_outward i) (outward_half (a ++ b)) all.0 ∙ closes_append a b all.1

closes_steps : (p : ℕ) (steps : List (List Item)) (closing : ℕ) (rest : List Item) → AllByRecursion AreOfStep steps →
    closes_at (outward_half (steps_items p steps ++ item.Close closing ∷ rest)) ≡ closing
unfolding steps_items
closes_steps p [] closing rest all = refl
closes_steps p (x ∷ steps) closing rest all =
    let others : List Item = steps_items (suc p) steps in
    ap (λ (l : List Item). closes_at (outward_half l)) (append_assoc x others (item.Close closing ∷ rest))
    ∙ (closes_append x (others ++ item.Close closing ∷ rest) all.0 ∙ closes_steps (suc p) steps closing rest all.1)

pub closes_at_is : (opening : List Item) (steps : List (List Item)) (closing : ℕ) (rest : List Item) →
    AreOfStep opening →
    AllByRecursion AreOfStep steps → closes_at
    (outward_half (opening ++ (steps_items 1 steps ++ item.Close closing ∷ rest))) ≡ closing
closes_at_is opening steps closing rest first all =
    closes_append opening (steps_items 1 steps ++ item.Close closing ∷ rest) first
    ∙ closes_steps 1 steps closing rest all
