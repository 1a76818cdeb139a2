-- Each program keeps its limits at every moment of a run.
use Rattle.std.specs.Prelude.{ℕ, ◌≡◌, slice_get, Some, Ok}
use Rattle.cloak_model.specs.declared.image.Bundle.{Bundle}
use Rattle.cloak_model.specs.Beginning.{Beginning}
use Rattle.cloak_model.specs.Bundle.{IsInGrammar}
use Rattle.cloak_model.specs.DomainState.{Domain}
use Rattle.cloak_model.specs.Run.{Run, run_from}
use Rattle.frozen_state.specs.Limits.{KeepsLimits}
use Rattle.kernel_isolation.specs.Isolation.{joint_until}

-- The law, of each program that there is at a moment of the run of an image in the grammar.
abbrev pub RunsKeepLimits : Type 0
RunsKeepLimits =
    (b : Bundle) (from : Beginning) (budget : ℕ) (r : Run) → IsInGrammar b → run_from b from budget ≡ Ok r → (n d : ℕ) →
    (program : Domain) → slice_get (joint_until n r).domains d ≡ Some program → KeepsLimits program.control
