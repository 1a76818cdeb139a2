-- What a program that runs alone is at a moment.
use Rattle.std.specs.Prelude.{ℕ, Option, Some, None}
use Rattle.cloak_model.specs.DomainAlone as model

-- the slot of the context whose step is open, and does not have its items
abbrev pub running_in : model.DomainStage → Option ℕ
running_in (model.Running slot answers) = Some slot
running_in model.Between = None
running_in (model.Other hart) = None
running_in model.Done = None
running_in model.Stopped = None
