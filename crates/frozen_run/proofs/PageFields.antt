-- The fields of a page: three numbers, a rule of the whole, and vector and digest.
use Rattle.std.proofs.Common.{◌≡◌, ◌∙◌, ℕ, ◌+◌, ◌-◌, Bool, cond, ltb, List, [], ◌∷◌, length, Option, Some, None, refl, sym, ap, arith}
use Rattle.std.proofs.lemmas.Bool.{le-ltb}
use Rattle.cloak_model.specs.Fields.{first_of, fault_in, first_in}
use Rattle.frozen_state.specs.declared.fault.FrozenFault.{FrozenFault}
use Rattle.frozen_state.specs.declared.fault.FrozenFault.TheVariants.{Form}
use Rattle.frozen_state.specs.FrozenFault.{FrozenField, any_in, word_below, page_fields}

abbrev pub number_fields : List ℕ → ℕ → ℕ → List FrozenField
number_fields body programs at =
    word_below body at programs ∷ word_below body (at + 4) 16 ∷ word_below body (at + 8) 1024 ∷ []

abbrev pub meta_fields : List ℕ → ℕ → List FrozenField
meta_fields body at = any_in body at 16 ∷ any_in body (at + 16) 32 ∷ []

-- the fault of the rule
abbrev pub rule_fault : Bool → ℕ → Option FrozenFault
rule_fault right at = cond right None (Some (Form at))

empty_field : (left : ℕ) (e : FrozenFault) (o : Option FrozenFault) → cond (ltb left 0) (Some e) o ≡ o
empty_field left e o = ap (λ b. cond b (Some e) o) (le-ltb left 0 (omega arith))

split : (a b c d e f : Option FrozenFault) →
    first_of a (first_of b (first_of c (first_of d (first_of e (first_of f None)))))
    ≡ first_of (first_of a (first_of b (first_of c None))) (first_of d (first_of e (first_of f None)))
split None None None d e f = refl
split None None (Some x) d e f = refl
split None (Some x) c d e f = refl
split (Some x) b c d e f = refl

pub page_split : (body : List ℕ) (programs : ℕ) (right : Bool) (at : ℕ) →
    first_in body (page_fields body programs right at)
    ≡ first_of (first_in body (number_fields body programs at))
    (first_of (rule_fault right at) (first_in body (meta_fields body (at + 12))))
page_split body programs right at =
    let x0 = fault_in body (word_below body at programs) in
    let x4 = fault_in body (word_below body (at + 4) 16) in
    let x8 = fault_in body (word_below body (at + 8) 1024) in
    let numbers = first_in body (number_fields body programs at) in
    let empty = cond (ltb (length body - (at + 12)) 0) (Some (Form (length body))) (rule_fault right at) in
    let iv = fault_in body (any_in body (at + 12) 16) in
    let digest = λ (k : ℕ). fault_in body (any_in body k 32) in
    split x0 x4 x8 empty iv (digest (at + 28))
    ∙ ap (λ o. first_of numbers (first_of o (first_of iv (first_of (digest (at + 28)) None))))
    (empty_field (length body - (at + 12)) (Form (length body)) (rule_fault right at))
    ∙ (let same : at + 28 ≡ at + 12 + 16 = omega arith in
    ap (λ (k : ℕ). first_of numbers (first_of (rule_fault right at) (first_of iv (first_of (digest k) None)))) same)

pub numbers_wrong : (body : List ℕ) (programs : ℕ) (right : Bool) (at : ℕ) (e : FrozenFault) →
    Some e ≡ first_in body (number_fields body programs at) → Some e ≡ first_in body (page_fields body programs right at)
numbers_wrong body programs right at e is =
    ap (λ o. first_of o (first_of (rule_fault right at) (first_in body (meta_fields body (at + 12))))) is
    ∙ sym (page_split body programs right at)
