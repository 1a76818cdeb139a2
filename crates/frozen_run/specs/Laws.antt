-- What files of frozen states are, beside their definition.
use Rattle.std.specs.Prelude.{ℕ, ◌≡◌, ◌<◌, List, length, All, None}
use Rattle.cloak_model.specs.declared.image.KernelImage.{KernelImage}
use Rattle.frozen_state.specs.declared.frozen.Frozen.{Frozen}
use Rattle.frozen_state.specs.FrozenFault.{frozen_fault}
use Rattle.frozen_state.specs.Ranges.{IsFrozen}
use Rattle.frozen_run.specs.Shapes.{HasShape}

-- the states of an image that a file spells are one
abbrev pub SpellsOne : KernelImage → ℕ → List ℕ → List ℕ → Type 0
SpellsOne k programs bundle bytes =
    (f g : Frozen) → HasShape f → HasShape g → length bundle ≡ 32 → IsFrozen k programs bundle bytes f →
    IsFrozen k programs bundle bytes g → g ≡ f

-- What a state of an image spells has no fault, and bytes without a fault spell one.
pub record HasFaultOrState (k : KernelImage) (programs : ℕ) (bundle bytes : List ℕ) : Type 0 where
  pub right : (f : Frozen) → HasShape f → length bundle ≡ 32 → IsFrozen k programs bundle bytes f →
      frozen_fault bundle k programs bytes ≡ None
  pub spelled : All (λ b. b < 256) bytes → frozen_fault bundle k programs bytes ≡ None →
      (f : Frozen) × IsFrozen k programs bundle bytes f
