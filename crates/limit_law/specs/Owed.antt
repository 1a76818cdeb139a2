-- No page is owed by two frames. A frame is owed a page if it has bytes of it that the kernel was not shown.
use Rattle.std.specs.Prelude.{ℕ, ◌≡◌, Ok}
use Rattle.cloak_model.specs.declared.image.Bundle.{Bundle}
use Rattle.cloak_model.specs.Beginning.{Beginning}
use Rattle.cloak_model.specs.Run.{Run, run_from}
use Rattle.frozen_state.specs.Limits.{IsOnce}
use Rattle.kernel_isolation.specs.Isolation.{joint_until}

-- The law, of every moment of each run, also of an image that no file spells.
abbrev pub PagesAreOwedOnce : Type 0
PagesAreOwedOnce =
    (b : Bundle) (from : Beginning) (budget : ℕ) (r : Run) → run_from b from budget ≡ Ok r → (n : ℕ) →
    IsOnce (joint_until n r).memory.ledger.owed
