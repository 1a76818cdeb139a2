-- What single items make of a kernel that runs alone.
use Rattle.std.specs.Prelude.{ℕ, ◌≡◌, ◌%◌, ◌==◌, ◌&&◌, Bool, IsTrue, List, length}
use Rattle.cloak_model.specs.Effect.{IsWidth}
use Rattle.cloak_model.specs.KernelAlone as model
use Rattle.cloak_base.specs.Constants.{is_in_frames}
use Rattle.alone_views.specs.KernelStanding.{state_with, turns_of}
use Rattle.alone_views.specs.declared.kernel.KernelAlone.{KernelAlone}

-- The state becomes the one that follows it, whatever the console; console and schedule stay.
pub record ChangesTo (old new : KernelAlone) (next : model.KernelAlone → model.KernelAlone) : Type 0 where
  pub state : (console : List ℕ) → state_with new console ≡ next (state_with old console)
  pub console : new.console ≡ old.console
  pub schedule : turns_of new ≡ turns_of old

-- a value of this width may be stored at this address: it lies in RAM, and is a multiple of the width
abbrev pub may_store : ℕ → ℕ → ℕ → Bool
may_store frames address width = is_in_frames frames address && (address % width == 0)

pub record MayStore (machine : KernelAlone) (address width : ℕ) : Type 0 where
  pub inside : IsTrue (is_in_frames (length machine.ram.frames.items) address)
  pub is_width : IsWidth width
  pub aligned : address % width ≡ 0

-- the value is stored, or the Put is unfit
abbrev pub store_or_unfit : ℕ → ℕ → ℕ → model.KernelAlone → model.KernelAlone
store_or_unfit address width value s =
    model.fits_if (may_store (length s.kernel.ram) address width) s (model.store_at address width value s)
