-- Where the items of a kernel that runs alone stand.
use Rattle.std.specs.Prelude.{ℕ, ◌≡◌, ◌<◌, Option, Some, None}
use Rattle.cloak_model.specs.KernelAlone as model
use Rattle.alone_views.specs.declared.kernel_stage.KernelStage.{KernelStage}
use Rattle.alone_views.specs.declared.kernel_stage.KernelStage.TheVariants as here

-- the stage of the definition
abbrev pub stood_stage : KernelStage → model.KernelStage
stood_stage here.Between = model.Between
stood_stage (here.Outside hart) = model.Outside hart
stood_stage (here.Inside hart ctx) = model.Inside hart ctx
stood_stage here.Left = model.Left

-- the hart whose step it is, and which has not left
abbrev pub hart_in_step : KernelStage → Option ℕ
hart_in_step here.Between = None
hart_in_step (here.Outside hart) = Some hart
hart_in_step (here.Inside hart ctx) = Some hart
hart_in_step here.Left = None

-- it is one of this many
abbrev pub IsStageAmong : ℕ → KernelStage → Type 0
IsStageAmong harts stage = (hart : ℕ) → hart_in_step stage ≡ Some hart → hart < harts
