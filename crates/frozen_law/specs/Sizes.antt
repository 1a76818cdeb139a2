-- How many there are of all, at every moment of a run: as many as the image says, each under its number.
use Rattle.std.specs.Prelude.{ℕ, ◌≡◌, length, slice_get, IfSome, Ok}
use Rattle.cloak_model.specs.declared.image.Bundle.{Bundle}
use Rattle.cloak_model.specs.Beginning.{Beginning}
use Rattle.cloak_model.specs.Bundle.{IsInGrammar}
use Rattle.cloak_model.specs.Parts.{Joint}
use Rattle.cloak_model.specs.Run.{Run, run_from}
use Rattle.kernel_isolation.specs.Isolation.{joint_until}
use Rattle.frozen_state.specs.Thawing.{IsHart}

-- Harts, places for reservations, frames, places for owed pages, bytes of the disk, and programs.
pub record HasSizes (b : Bundle) (j : Joint) : Type 0 where
  pub harts : length j.harts ≡ b.kernel.harts
  pub each : (k : ℕ) → IfSome (slice_get j.harts k) (IsHart k)
  pub marks : length j.memory.marks ≡ b.kernel.harts
  pub frames : length j.memory.ram ≡ b.kernel.frames
  pub owed : length j.memory.ledger.owed ≡ b.kernel.frames
  pub disk : length j.disk ≡ length b.kernel.disk
  pub programs : length j.domains ≡ length b.programs
  pub numbers : (d : ℕ) → IfSome (slice_get j.domains d) (λ program. program.control.number ≡ d)

-- The law, of the run of an image in the grammar.
abbrev pub RunsKeepSizes : Type 0
RunsKeepSizes =
    (b : Bundle) (from : Beginning) (budget : ℕ) (r : Run) → IsInGrammar b → run_from b from budget ≡ Ok r → (n : ℕ) →
    HasSizes b (joint_until n r)
