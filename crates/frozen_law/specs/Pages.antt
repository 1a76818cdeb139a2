-- Each page's newest bytes are a page, at every moment of a run.
use Rattle.std.specs.Prelude.{ℕ, ◌≡◌, Ok}
use Rattle.aes_block.specs.Bytes.{IsBytes}
use Rattle.cloak_base.specs.declared.names.PageId.{PageId}
use Rattle.cloak_model.specs.declared.image.Bundle.{Bundle}
use Rattle.cloak_model.specs.Beginning.{Beginning}
use Rattle.cloak_model.specs.Bundle.{IsInGrammar}
use Rattle.cloak_model.specs.Run.{Run, run_from}
use Rattle.range_law.specs.Writing.{IsOfBytes, IsBeginningOfBytes}
use Rattle.kernel_isolation.specs.Isolation.{joint_until}

-- The law, of the run of an image in the grammar whose bytes are bytes, from a beginning of bytes.
abbrev pub PagesAreWhole : Type 0
PagesAreWhole =
    (b : Bundle) (from : Beginning) (budget : ℕ) (r : Run) → IsInGrammar b → IsOfBytes b → IsBeginningOfBytes b from →
    run_from b from budget ≡ Ok r → (n : ℕ) (q : PageId) → IsBytes 4096 ((joint_until n r).memory.plain q)
