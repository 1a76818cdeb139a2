-- What ended a program names, if it names a page, one that this program can have, and a frame of RAM.
use Rattle.std.specs.Prelude.{ℕ, ◌≡◌, ◌<◌, slice_index_or, IfSome, None, Ok}
use Rattle.cloak_base.specs.declared.causes.Violation.{Violation}
use Rattle.cloak_base.specs.declared.causes.Violation.TheVariants as violation
use Rattle.cloak_base.specs.declared.names.PageId.{PageId}
use Rattle.cloak_model.specs.declared.image.Bundle.{Bundle}
use Rattle.cloak_model.specs.Beginning.{Beginning}
use Rattle.cloak_model.specs.Bundle.{IsInGrammar}
use Rattle.cloak_model.specs.Run.{Run, run_from}
use Rattle.kernel_isolation.specs.Isolation.{joint_until}

-- A page of program d, of one of 16 resources, each of 1024 pages at most, and one of this many frames.
pub record NamesPageOf (frames d : ℕ) (q : PageId) (f : ℕ) : Type 0 where
  pub domain : q.domain ≡ d
  pub resource : q.resource < 16
  pub page : q.page < 1024
  pub frame : f < frames

abbrev pub IsViolationOf : ℕ → ℕ → Violation → Type 0
IsViolationOf frames d (violation.Page q frame) = NamesPageOf frames d q frame.0
IsViolationOf frames d (violation.Context ctx) = Unit {0}
IsViolationOf frames d (violation.Mapping ctx root) = Unit {0}

-- The law, of every moment of the run of an image in the grammar.
abbrev pub EndsAreInRange : Type 0
EndsAreInRange =
    (b : Bundle) (from : Beginning) (budget : ℕ) (r : Run) → IsInGrammar b → run_from b from budget ≡ Ok r → (n d : ℕ) →
    IfSome (slice_index_or (joint_until n r).ended d None) (IsViolationOf b.kernel.frames d)
