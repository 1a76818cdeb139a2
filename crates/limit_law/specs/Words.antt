-- Harts and contexts hold words, at every moment of a run.
use Rattle.std.specs.Prelude.{ℕ, ◌≡◌, ◌<◌, IfSome, Ok}
use Rattle.std.specs.List.{AllByRecursion}
use Rattle.cloak_model.specs.declared.image.Bundle.{Bundle}
use Rattle.cloak_model.specs.Beginning.{Beginning}
use Rattle.cloak_model.specs.Bundle.{IsInGrammar}
use Rattle.cloak_model.specs.DomainState.{Domain}
use Rattle.cloak_model.specs.Hart.{Hart}
use Rattle.cloak_model.specs.Parts.{Joint}
use Rattle.cloak_model.specs.Record.{IsWord}
use Rattle.cloak_model.specs.Run.{Run, run_from}
use Rattle.frozen_state.specs.Words.{AreWords, HasSlotWords}
use Rattle.range_law.specs.Writing.{IsOfBytes, IsBeginningOfBytes}
use Rattle.kernel_isolation.specs.Isolation.{joint_until}

-- A hart has words in its registers, in its control and status registers (listed by their numbers), and as its program
-- counter. The number of the context that it is inside is a word.
pub record HasHartWords (h : Hart) : Type 0 where
  pub regs : AreWords h.regs
  pub csrs : AllByRecursion (λ (entry : ℕ × ℕ). IsWord entry.1) h.csrs
  pub pc : IsWord h.pc
  pub inside : IfSome h.inside IsWord

-- The number of a program is below 4, and its slots have words.
pub record HasProgramWords (d : Domain) : Type 0 where
  pub number : d.control.number < 4
  pub contexts : AllByRecursion HasSlotWords d.control.contexts

-- The joint machine: its harts, and its programs.
pub record HasWords (j : Joint) : Type 0 where
  pub harts : AllByRecursion HasHartWords j.harts
  pub programs : AllByRecursion HasProgramWords j.domains

-- The law, of the run of an image in the grammar whose bytes are bytes, from a beginning of bytes.
abbrev pub RunsHaveWords : Type 0
RunsHaveWords =
    (b : Bundle) (from : Beginning) (budget : ℕ) (r : Run) → IsInGrammar b → IsOfBytes b → IsBeginningOfBytes b from →
    run_from b from budget ≡ Ok r → (n : ℕ) → HasWords (joint_until n r)
