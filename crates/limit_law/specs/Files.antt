-- The numbers of files are words, at every moment of a run.
use Rattle.std.specs.Prelude.{ℕ, ◌≡◌, slice_get, Some, Ok}
use Rattle.cloak_model.specs.declared.image.Bundle.{Bundle}
use Rattle.cloak_model.specs.Beginning.{Beginning}
use Rattle.cloak_model.specs.Bundle.{IsInGrammar}
use Rattle.cloak_model.specs.DomainState.{Domain}
use Rattle.cloak_model.specs.Run.{Run, run_from}
use Rattle.frozen_state.specs.Words.{AreFileWords}
use Rattle.range_law.specs.Writing.{IsOfBytes, IsBeginningOfBytes}
use Rattle.kernel_isolation.specs.Isolation.{joint_until}

-- The law, of the run of an image in the grammar whose bytes are bytes, from a beginning of bytes.
abbrev pub RunsHaveFileWords : Type 0
RunsHaveFileWords =
    (b : Bundle) (from : Beginning) (budget : ℕ) (r : Run) → IsInGrammar b → IsOfBytes b → IsBeginningOfBytes b from →
    run_from b from budget ≡ Ok r → (n d : ℕ) (program : Domain) →
    slice_get (joint_until n r).domains d ≡ Some program → AreFileWords program.control.resources
