-- Which key a page is sealed under: that of its own program, at every moment of a run.
use Rattle.std.specs.Prelude.{ℕ, ◌≡◌, List, slice_get, Some, Ok}
use Rattle.cloak_base.specs.declared.names.PageId.{PageId}
use Rattle.cloak_model.specs.declared.image.Bundle.{Bundle}
use Rattle.cloak_model.specs.declared.image.Program.{Program}
use Rattle.cloak_model.specs.Beginning.{Beginning}
use Rattle.cloak_model.specs.Bundle.{IsInGrammar}
use Rattle.cloak_model.specs.Ledger.{Ledger, key_of}
use Rattle.cloak_model.specs.Run.{Run, run_from}
use Rattle.kernel_isolation.specs.Isolation.{joint_until}
use Rattle.page_law.specs.Ciphers.{numbered_key}

-- The key of each page of these programs is the one that has the number of its program's key. So pages of programs with
-- different keys are sealed under keys with different numbers, which are draws of their own if they were drawn.
abbrev pub HaveOwnKeys : List Program → Beginning → Ledger → Type 0
HaveOwnKeys programs from l =
    (page : PageId) (program : Program) → slice_get programs page.domain ≡ Some program →
    numbered_key program.key from ≡ Some (key_of l page)

-- The law, of every moment of the run of an image in the grammar, however it begins: no page is sealed under a key
-- that is not its program's.
abbrev pub PagesKeepTheirKeys : Type 0
PagesKeepTheirKeys =
    (b : Bundle) (from : Beginning) (budget : ℕ) (r : Run) → IsInGrammar b → run_from b from budget ≡ Ok r → (n : ℕ) →
    HaveOwnKeys b.programs from (joint_until n r).memory.ledger

-- So it is after the closing.
abbrev pub ClosingKeepsKeys : Type 0
ClosingKeepsKeys =
    (b : Bundle) (from : Beginning) (budget : ℕ) (r : Run) → IsInGrammar b → run_from b from budget ≡ Ok r →
    HaveOwnKeys b.programs from r.closed.joint.memory.ledger
