-- The front of the file of a state.
use Rattle.std.proofs.Common.{◌≡◌, ◌<◌, ◌≤◌, ◌+◌, ◌∙◌, ℕ, min, true, List, length, take, refl, sym, ap, subst, arith, inl, inr, Option, Some, None, IfSome}
use Rattle.std.proofs.lemmas.Bool.{cases_lt}
use Rattle.std.proofs.lemmas.Bool.Decides.{nat_tests}
use Rattle.std.proofs.lemmas.List.{length-take, take_all}
use Rattle.std.specs.Prelude.{nat_lt}
use Rattle.cloak_model.specs.declared.image.Bundle.{Bundle}
use Rattle.frozen_state.specs.declared.fault.FrozenFault.{FrozenFault}
use Rattle.frozen_state.specs.declared.fault.FrozenFault.TheVariants.{Form}
use Rattle.frozen_state.specs.declared.frozen.Frozen.{Frozen}
use Rattle.command_parts.specs.Thawing.{SpellsState, largest_state, state_fault}
use Rattle.frozen_commands.specs.Thawing.{IsStateFront}

-- a file that is too long
pub too_long : (b : Bundle) (digest file : List ℕ) → largest_state < length file →
    state_fault b digest file ≡ Some (Form largest_state)
too_long b digest file large =
    let yes : nat_lt largest_state (length file) ≡ true = grind (arith, nat_tests) in rw yes refl

front_length : (front file : List ℕ) → front ≡ take (largest_state + 1) file →
    length front ≡ min (largest_state + 1) (length file)
front_length front file is_front = ap (λ (x : List ℕ). length x) is_front ∙ length-take (largest_state + 1) file

-- a front that is not too long is the file
whole : (front file : List ℕ) → front ≡ take (largest_state + 1) file → length front ≤ largest_state → front ≡ file
whole front file is_front few =
    let long = front_length front file is_front in
    is_front ∙ take_all (largest_state + 1) file (omega (arith, long, few))

pub front_spells : (told : Option (List ℕ)) (b : Bundle) (digest front : List ℕ) (f : Frozen) →
    IsStateFront told front → SpellsState b digest f front → IfSome told (SpellsState b digest f)
front_spells (Some file) b digest front f read is =
    subst (λ (bytes : List ℕ). SpellsState b digest f bytes) (whole front file read.front is.few) is
front_spells None b digest front f read is = tt

pub front_fault : (told : Option (List ℕ)) (b : Bundle) (digest front : List ℕ) (fault : FrozenFault) →
    IsStateFront told front → state_fault b digest front ≡ Some fault →
    IfSome told (λ file. state_fault b digest file ≡ Some fault)
front_fault (Some file) b digest front fault read is = elim (cases_lt largest_state (length front)) [
  | inl large ↦
      let long = front_length front file read.front in
      too_long b digest file (omega (arith, long, large)) ∙ (sym (too_long b digest front large) ∙ is)
  | inr few ↦
      subst (λ (bytes : List ℕ). state_fault b digest bytes ≡ Some fault) (whole front file read.front few) is
]
front_fault None b digest front fault read is = tt
