-- The disk keeps its size.
use Rattle.std.specs.Prelude.{ℕ, ◌≡◌, length, All, Ok}
use Rattle.cloak_model.specs.declared.image.Bundle.{Bundle}
use Rattle.cloak_model.specs.Beginning.{Beginning}
use Rattle.cloak_model.specs.Joint.{Turn}
use Rattle.cloak_model.specs.Parts.{Joint}
use Rattle.cloak_model.specs.Run.{Run, run_from}

-- it has as many bytes as the image's
abbrev pub HasDiskOf : Bundle → Joint → Type 0
HasDiskOf b j = length j.disk ≡ length b.kernel.disk

-- after the opening, after each step, and as the run is closed
pub record KeepsDisk (b : Bundle) (r : Run) : Type 0 where
  pub opened : HasDiskOf b r.opened.joint
  pub steps : All (λ (t : Turn). HasDiskOf b t.joint) r.turns
  pub closed : HasDiskOf b r.closed.joint

-- The law: in every run, from whatever beginning.
abbrev pub DisksStay : Type 0
DisksStay = (b : Bundle) (from : Beginning) (budget : ℕ) (r : Run) → run_from b from budget ≡ Ok r → KeepsDisk b r
