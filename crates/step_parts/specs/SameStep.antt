-- The step taken apart is the step.
use Rattle.std.specs.Prelude.{ℕ, ◌≡◌, List}
use Rattle.cloak_model.specs.Hart.{Hart}
use Rattle.cloak_model.specs.World.{World}
use Rattle.cloak_model.specs.KernelStep.{kernel_step}
use Rattle.step_parts.specs.Parts.{step_in_parts}

abbrev pub IsTheStep : Type 0
IsTheStep = (h : Hart) (disk : List ℕ) (w : World) → kernel_step h disk w ≡ step_in_parts h disk w
