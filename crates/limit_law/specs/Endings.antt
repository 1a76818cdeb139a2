-- What the end of a domain leaves, at every moment of a run: nothing of the program, and a place that tells what ended it.
use Rattle.std.specs.Prelude.{ℕ, ◌≡◌, ◌<◌, ◌≤◌, ◌^◌, true, slice_get, slice_index_or, Some, None, Ok}
use Rattle.cloak_base.specs.declared.names.SpaceId.{SpaceId}
use Rattle.cloak_model.specs.declared.image.Bundle.{Bundle}
use Rattle.cloak_model.specs.Beginning.{Beginning}
use Rattle.cloak_model.specs.Bundle.{IsInGrammar}
use Rattle.cloak_model.specs.Contexts.{context_at}
use Rattle.cloak_model.specs.DomainState.{Control, Domain}
use Rattle.cloak_model.specs.Parts.{Joint}
use Rattle.cloak_model.specs.Resources.{resource_at}
use Rattle.cloak_model.specs.Run.{Run, run_from}
use Rattle.frozen_state.specs.Limits.{TellsEnded}
use Rattle.kernel_isolation.specs.Isolation.{joint_until}

-- What has ended.

-- A program has no context, no space and no resource.
pub record HasNothing (d : Control) : Type 0 where
  pub contexts : (slot : ℕ) → context_at d.contexts slot ≡ None
  pub spaces : (space : ℕ) → slice_index_or d.resources.spaces space None ≡ None
  pub resources : (n : ℕ) → resource_at d.resources n ≡ None

-- No page table is recorded of a space of a program.
abbrev pub HasNoRoot : Joint → ℕ → Type 0
HasNoRoot j d = (s : SpaceId) → s.domain ≡ d → j.memory.ledger.root s ≡ None

-- Nothing is left of the program with this number.
pub record IsGone (j : Joint) (d : ℕ) (control : Control) : Type 0 where
  pub nothing : HasNothing control
  pub roots : HasNoRoot j d

-- The law, of each program that has ended at a moment of the run of an image in the grammar.
abbrev pub EndedAreGone : Type 0
EndedAreGone =
    (b : Bundle) (from : Beginning) (budget : ℕ) (r : Run) → IsInGrammar b → run_from b from budget ≡ Ok r → (n d : ℕ) →
    (program : Domain) → slice_get (joint_until n r).domains d ≡ Some program → program.control.ended ≡ true →
    IsGone (joint_until n r) d program.control

-- What is told of it.

-- The law, of every moment of the run of an image in the grammar.
abbrev pub EndedAreTold : Type 0
EndedAreTold =
    (b : Bundle) (from : Beginning) (budget : ℕ) (r : Run) → IsInGrammar b → run_from b from budget ≡ Ok r → (n : ℕ) →
    TellsEnded (joint_until n r)

-- Refusals.

-- A step refuses one resuming at most: the count after n steps is at most n. It is a number of 64 bits.
pub record AreFew (n refused : ℕ) : Type 0 where
  pub by_steps : refused ≤ n
  pub counted : refused < 2 ^ 64

-- The law, of every moment of each run, also of an image that no file spells.
abbrev pub RefusalsAreFew : Type 0
RefusalsAreFew =
    (b : Bundle) (from : Beginning) (budget : ℕ) (r : Run) → run_from b from budget ≡ Ok r → (n : ℕ) →
    AreFew n (joint_until n r).refused
