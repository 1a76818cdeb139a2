-- The file of a state that was saved has no fault.
use Rattle.std.proofs.Common.{◌≡◌, ◌≤◌, ◌∙◌, ℕ, Bool, true, false, cond, ltb, List, length, Option, Some, None, refl, subst}
use Rattle.std.proofs.lemmas.Bool.{le-ltb}
use Rattle.cloak_model.specs.Bundle.{IsInGrammar}
use Rattle.cloak_model.specs.declared.image.Bundle.{Bundle}
use Rattle.frozen_run.specs.Shapes.{HasShape}
use Rattle.frozen_run.proofs.Laws.{has_fault_or_state}
use Rattle.frozen_state.specs.declared.fault.FrozenFault.{FrozenFault}
use Rattle.frozen_state.specs.declared.fault.FrozenFault.TheVariants.{Form}
use Rattle.frozen_state.specs.declared.frozen.Frozen.{Frozen}
use Rattle.frozen_state.specs.FrozenFault.{frozen_fault}
use Rattle.frozen_state.specs.Ranges.{IsFrozen}
use Rattle.command_parts.specs.Thawing.{largest_state, state_fault}
use Rattle.frozen_promise.proofs.Lengths.{file_is_small}

unless_large : (large : Bool) (fault other : Option FrozenFault) → large ≡ false → cond large fault other ≡ other
unless_large true fault other small = absurd cc
unless_large false fault other small = refl

pub saved_without_fault : (b : Bundle) (f : Frozen) (digest file : List ℕ) → IsInGrammar b → HasShape f →
    length f.recorded ≤ 65536 → length digest ≡ 32 → IsFrozen b.kernel (length b.programs) digest file f →
    state_fault b digest file ≡ None
saved_without_fault b f digest file grammar shape few long is =
    let programs : ℕ = length b.programs in
    let small : length file ≤ largest_state =
    subst (λ (bytes : List ℕ). length bytes ≤ largest_state) is.spelled
    (file_is_small b f digest grammar shape few is.in_range long) in
    unless_large (ltb largest_state (length file)) (Some (Form largest_state))
    (frozen_fault digest b.kernel programs file) (le-ltb largest_state (length file) small)
    ∙ (has_fault_or_state b.kernel programs digest file).right f shape long is
