-- Pages that are owed or recorded are of resources in use, and below their sizes.
use Rattle.std.specs.Prelude.{ℕ, ◌≡◌, ◌<◌, true, is_some, List, slice_get, slice_index_or, IfSome, IsSomeAnd, None, Ok}
use Rattle.cloak_base.specs.declared.names.PageId.{PageId}
use Rattle.cloak_model.specs.declared.image.Bundle.{Bundle}
use Rattle.cloak_model.specs.Beginning.{Beginning}
use Rattle.cloak_model.specs.Bundle.{IsInGrammar}
use Rattle.cloak_model.specs.DomainState.{Domain}
use Rattle.cloak_model.specs.Parts.{Joint}
use Rattle.cloak_model.specs.Resources.{Resources, resource_at}
use Rattle.cloak_model.specs.Run.{Run, run_from}
use Rattle.kernel_isolation.specs.Isolation.{joint_until}

-- There is the page's resource, and it has a page of this number.
abbrev pub IsHeldBy : Resources → PageId → Type 0
IsHeldBy r q = IsSomeAnd (resource_at r q.resource) (λ held. q.page < held.pages)

-- There is the page's program, and it has the page.
abbrev pub IsHeldIn : List Domain → PageId → Type 0
IsHeldIn domains q = IsSomeAnd (slice_get domains q.domain) (λ d. IsHeldBy d.control.resources q)

-- So it is of each page that a frame is owed, and of each that is recorded.
pub record HoldsPages (j : Joint) : Type 0 where
  pub owed : (f : ℕ) → IfSome (slice_index_or j.memory.ledger.owed f None) (IsHeldIn j.domains)
  pub recorded : (q : PageId) → is_some (j.memory.ledger.recorded q) ≡ true → IsHeldIn j.domains q

-- The law, of every moment of the run of an image in the grammar.
abbrev pub RunsHoldPages : Type 0
RunsHoldPages =
    (b : Bundle) (from : Beginning) (budget : ℕ) (r : Run) → IsInGrammar b → run_from b from budget ≡ Ok r → (n : ℕ) →
    HoldsPages (joint_until n r)
