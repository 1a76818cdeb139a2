-- The front of a secret file and of a store file.
use Rattle.std.proofs.Common.{◌≡◌, ◌<◌, ◌≤◌, ◌+◌, ◌∙◌, ℕ, min, true, List, length, take, refl, sym, ap, subst, arith, inl, inr, Option, Some, None, IfSome}
use Rattle.std.proofs.lemmas.Bool.{cases_lt}
use Rattle.std.proofs.lemmas.Bool.Decides.{nat_tests}
use Rattle.std.proofs.lemmas.List.{length-take, take_all}
use Rattle.std.specs.Prelude.{nat_lt}
use Rattle.cloak_model.specs.StoredFiles.{StoredFile, IsStore}
use Rattle.cloak_model.specs.StoreFault.{largest_store, store_fault}
use Rattle.cloak_model.specs.declared.fault.StoreFault.{StoreFault}
use Rattle.cloak_model.specs.declared.fault.StoreFault.TheVariants.{Form}
use Rattle.command_parts.specs.Storing.{secret_length}

-- a secret file that is too short
pub too_short : (told : Option (List ℕ)) (front : List ℕ) → IfSome told (λ file. front ≡ take secret_length file) →
    length front < secret_length → IfSome told (λ file. length file < secret_length)
too_short (Some file) front is_front few =
    let long : length front ≡ min secret_length (length file) =
    ap (λ (x : List ℕ). length x) is_front ∙ length-take secret_length file in
    omega (arith, long, few)
too_short None front is_front few = tt

-- a store file that is too long
too_long : (mac : List ℕ) (counter : ℕ) (file : List ℕ) → largest_store < length file →
    store_fault mac counter file ≡ Some (Form largest_store)
unfolding store_fault
too_long mac counter file large =
    let yes : nat_lt largest_store (length file) ≡ true = grind (arith, nat_tests) in rw yes refl

front_length : (front file : List ℕ) → front ≡ take (largest_store + 1) file →
    length front ≡ min (largest_store + 1) (length file)
front_length front file is_front = ap (λ (x : List ℕ). length x) is_front ∙ length-take (largest_store + 1) file

-- a front that is not too long is the file
whole : (front file : List ℕ) → front ≡ take (largest_store + 1) file → length front ≤ largest_store → front ≡ file
whole front file is_front few =
    let long = front_length front file is_front in
    is_front ∙ take_all (largest_store + 1) file (omega (arith, long, few))

pub front_is_store : (told : Option (List ℕ)) (front mac : List ℕ) (counter : ℕ) (table : List StoredFile) →
    IfSome told (λ file. front ≡ take (largest_store + 1) file) →
    ((fault : StoreFault) → store_fault mac counter front ≡ Some fault → ⊥) → IsStore mac counter front table →
    IfSome told (λ file. IsStore mac counter file table)
front_is_store (Some file) front mac counter table is_front no_fault is = elim (cases_lt largest_store (length front)) [
  | inl large ↦ absurd (no_fault (Form largest_store) (too_long mac counter front large))
  | inr few ↦ subst (λ (bytes : List ℕ). IsStore mac counter bytes table) (whole front file is_front few) is
]
front_is_store None front mac counter table is_front no_fault is = tt

pub front_fault : (told : Option (List ℕ)) (front mac : List ℕ) (counter : ℕ) (fault : StoreFault) →
    IfSome told (λ file. front ≡ take (largest_store + 1) file) → store_fault mac counter front ≡ Some fault →
    IfSome told (λ file. store_fault mac counter file ≡ Some fault)
front_fault (Some file) front mac counter fault is_front is = elim (cases_lt largest_store (length front)) [
  | inl large ↦
      let long = front_length front file is_front in
      too_long mac counter file (omega (arith, long, large)) ∙ (sym (too_long mac counter front large) ∙ is)
  | inr few ↦
      subst (λ (bytes : List ℕ). store_fault mac counter bytes ≡ Some fault) (whole front file is_front few) is
]
front_fault None front mac counter fault is_front is = tt
