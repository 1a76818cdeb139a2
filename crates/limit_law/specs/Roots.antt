-- A page table is recorded only of a space in use, of a program that there is.
use Rattle.std.specs.Prelude.{ℕ, ◌≡◌, true, is_some, Ok}
use Rattle.cloak_base.specs.declared.names.SpaceId.{SpaceId}
use Rattle.cloak_model.specs.declared.image.Bundle.{Bundle}
use Rattle.cloak_model.specs.Beginning.{Beginning}
use Rattle.cloak_model.specs.Bundle.{IsInGrammar}
use Rattle.cloak_model.specs.Run.{Run, run_from}
use Rattle.frozen_state.specs.Limits.{IsThere}
use Rattle.kernel_isolation.specs.Isolation.{joint_until}

-- The law, of every moment of the run of an image in the grammar.
abbrev pub RootsAreOfSpacesInUse : Type 0
RootsAreOfSpacesInUse =
    (b : Bundle) (from : Beginning) (budget : ℕ) (r : Run) → IsInGrammar b → run_from b from budget ≡ Ok r → (n : ℕ) →
    (s : SpaceId) → is_some ((joint_until n r).memory.ledger.root s) ≡ true → IsThere (joint_until n r) s
