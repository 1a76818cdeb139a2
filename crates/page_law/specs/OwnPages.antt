-- The newest bytes of a program's pages are changed by its own steps alone.
use Rattle.std.specs.List.{list_any}
use Rattle.cloak_model.specs.Items.{Item}
use Rattle.cloak_model.specs.Items as item
use Rattle.std.specs.Prelude.{ℕ, ◌≡◌, ◌≢◌, ◌%◌, ◌==◌, Bool, false, List, length, slice_get, slice_index, Option, Some, option_map, Ok}
use Rattle.cloak_model.specs.declared.image.Bundle.{Bundle}
use Rattle.cloak_model.specs.Beginning.{Beginning}
use Rattle.cloak_model.specs.Contexts.{domain_of}
use Rattle.cloak_model.specs.Joint.{Turn, hart_in}
use Rattle.cloak_model.specs.Parts.{domain_pages}
use Rattle.cloak_model.specs.Run.{Run, run_from}
use Rattle.page_law.specs.Ciphers.{}
use Rattle.kernel_isolation.specs.Isolation.{joint_until}

-- the context that the hart of the step after n steps runs, if it runs one
abbrev pub context_of_step : Bundle → Run → ℕ → Option ℕ
context_of_step b r n =
    (hart_in (joint_until n r) (slice_index b.kernel.schedule (n % length b.kernel.schedule))).inside

-- the program that makes this step
abbrev pub program_of_step : Bundle → Run → ℕ → Option ℕ
program_of_step b r n = option_map domain_of (context_of_step b r n)

abbrev pub is_end_of : ℕ → Item → Bool
is_end_of d (item.Ended e) = e == d
is_end_of d _ = false

-- a domain ends among these items
abbrev pub ends_in : ℕ → List Item → Bool
ends_in d items = list_any (is_end_of d) items

-- A step of the kernel, or of another program, leaves each page of a program as it is, whatever it settles, moves or
-- maps, unless the program's domain ends in it.
abbrev pub StepsKeepPages : Type 0
StepsKeepPages =
    (b : Bundle) (from : Beginning) (budget : ℕ) (r : Run) → run_from b from budget ≡ Ok r →
    (n : ℕ) (t : Turn) → slice_get r.turns n ≡ Some t → (d : ℕ) → program_of_step b r n ≢ Some d →
    ends_in d t.items ≡ false →
    domain_pages d t.joint.memory.plain ≡ domain_pages d (joint_until n r).memory.plain

-- So does the closing.
abbrev pub ClosingKeepsPages : Type 0
ClosingKeepsPages =
    (b : Bundle) (from : Beginning) (budget : ℕ) (r : Run) → run_from b from budget ≡ Ok r →
    r.closed.joint.memory.plain ≡ (joint_until (length r.turns) r).memory.plain
