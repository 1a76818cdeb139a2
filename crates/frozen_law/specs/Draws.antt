-- Draws are few: a step makes two more at most than it leaves frames that are owed a page.
use Rattle.std.specs.Prelude.{ℕ, ◌≡◌, ◌<◌, ◌≤◌, ◌+◌, ◌*◌, ◌^◌, Ok}
use Rattle.cloak_model.specs.declared.image.Bundle.{Bundle}
use Rattle.cloak_model.specs.Beginning.{Beginning}
use Rattle.cloak_model.specs.Bundle.{IsInGrammar}
use Rattle.cloak_model.specs.Run.{Run, run_from, most_steps}
use Rattle.kernel_isolation.specs.Isolation.{joint_until}

-- The law, of every moment of the run of an image in the grammar: the opening draws for each page of a program, of which
-- there are 4096 at most, and each step offers two pages at most.
abbrev pub DrawsAreFew : Type 0
DrawsAreFew =
    (b : Bundle) (from : Beginning) (budget : ℕ) (r : Run) → IsInGrammar b → run_from b from budget ≡ Ok r → (n : ℕ) →
    (joint_until n r).memory.ledger.draws ≤ 4096 + 2 * n

-- So with as many steps as a run may have, they are fewer than 2^60.
abbrev pub DrawsAreBelow : Type 0
DrawsAreBelow =
    (b : Bundle) (from : Beginning) (budget : ℕ) (r : Run) → IsInGrammar b → run_from b from budget ≡ Ok r → (n : ℕ) →
    n ≤ most_steps → (joint_until n r).memory.ledger.draws < 2 ^ 60
