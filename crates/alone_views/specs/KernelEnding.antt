-- How the plain steps of a kernel that runs alone end.
use Rattle.std.specs.Prelude.{ℕ, ◌≡◌, Bool, true, false, List}
use Rattle.cloak_model.specs.Items.{Item}
use Rattle.cloak_model.specs.Items as item
use Rattle.cloak_model.specs.declared.outcome.Kernel.{Kernel}
use Rattle.cloak_model.specs.KernelAlone as model
use Rattle.cloak_model.specs.KernelAlone.{kernel_hart, kernel_seen}
use Rattle.cloak_model.specs.KernelStep.{kernel_step}
use Rattle.cloak_model.specs.World.{Flat}
use Rattle.alone_views.specs.KernelStanding.{StandsForKernel}
use Rattle.alone_views.specs.declared.kernel.KernelAlone.{KernelAlone}

-- how the plain step of a hart ends
abbrev pub plain_ending : ℕ → model.KernelAlone → Kernel
plain_ending number s =
    (kernel_step (kernel_hart s.kernel number) s.kernel.disk (Flat (kernel_seen s.kernel))).answer.ending

-- how the last one ended
abbrev pub ending_in : KernelAlone → Kernel
ending_in machine = machine.ending

-- the item ends the step that is open
abbrev pub is_end : Item → Bool
is_end (item.Step number) = true
is_end (item.Close steps) = true
is_end other = false

-- The step that is open was made, if it is that of a hart outside, and it ended as is told.
abbrev pub EndsAs : KernelAlone → KernelAlone → Type 0
EndsAs old new = (turns : List ℕ) (s : model.KernelAlone) → StandsForKernel old turns s → (number : ℕ) →
    s.stage ≡ model.Outside number → ending_in new ≡ plain_ending number s
