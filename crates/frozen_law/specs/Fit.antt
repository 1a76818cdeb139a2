-- What is recorded of pages is enough to go on with them, at each moment from which a run goes on.
use Rattle.std.specs.Prelude.{ℕ, ◌≡◌, Ok}
use Rattle.cloak_model.specs.declared.image.Bundle.{Bundle}
use Rattle.cloak_model.specs.Beginning.{Beginning}
use Rattle.cloak_model.specs.Bundle.{IsInGrammar}
use Rattle.cloak_model.specs.Run.{Run, run_from}
use Rattle.range_law.specs.Writing.{IsOfBytes, IsBeginningOfBytes}
use Rattle.kernel_isolation.specs.Isolation.{joint_until}
use Rattle.frozen_law.specs.Missed.{NoneStopped}
use Rattle.frozen_state.specs.Thawing.{PagesFit}

-- The law, of the run of an image in the grammar whose bytes are bytes, from a beginning of bytes.
abbrev pub RunsFitPages : Type 0
RunsFitPages =
    (b : Bundle) (from : Beginning) (budget : ℕ) (r : Run) → IsInGrammar b → IsOfBytes b → IsBeginningOfBytes b from →
    run_from b from budget ≡ Ok r → (n : ℕ) → NoneStopped n r → PagesFit (joint_until n r).memory
