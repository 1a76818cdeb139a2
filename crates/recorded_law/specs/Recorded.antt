-- What the record of a run tells of violations.
use Rattle.std.specs.Prelude.{ℕ, zero, suc, ◌≡◌, ◌+◌, ◌-◌, ◌^◌, ◌==◌, ◌&&◌, min, Bool, true, false, not, length, Option, Some, None, Ok, is_some, slice_index_or, if◌then◌else◌}
use Rattle.std.specs.List.{list_any}
use Rattle.cloak_model.specs.declared.image.Bundle.{Bundle}
use Rattle.cloak_model.specs.declared.image.Program.{Program}
use Rattle.cloak_model.specs.declared.outcome.Kernel.{Kernel}
use Rattle.cloak_model.specs.declared.outcome.Kernel.TheVariants as outcome
use Rattle.cloak_model.specs.Items.{Item}
use Rattle.cloak_model.specs.Items as item
use Rattle.cloak_model.specs.Beginning.{Beginning}
use Rattle.cloak_model.specs.Joint.{Moment, joint_step}
use Rattle.cloak_model.specs.Run.{Run, exchange, run_from}
use Rattle.domain_isolation.specs.Isolation.{Hosts}
use Rattle.cause_law.specs.Causes.{kernel_ending, moment_at}
use Rattle.cause_law.specs.Presented.{hart_of_step}

-- the item is the end of the program of this number
abbrev pub is_end_of : ℕ → Item → Bool
is_end_of d (item.Ended domain) = domain == d
is_end_of d _ = false

-- Its end is among the items of a run exactly if the report lists what ended it.
abbrev pub EndsAreRecorded : Type 0
EndsAreRecorded =
    (b : Bundle) (d : ℕ) (p : Program) (from : Beginning) (r : Run) → Hosts b d p from r →
    list_any (is_end_of d) (exchange r) ≡ is_some (slice_index_or r.closed.joint.ended d None)

-- Refusals.

-- a step ended so, of a hart that was inside this context or outside: it asked to resume a context
abbrev pub asks : Option ℕ → Kernel → Bool
asks (Some ctx) ending = false
asks None (outcome.Resume ctx reply) = true
asks None outcome.Stay = false
asks None outcome.Trapped = false
asks None (outcome.Put byte) = false
asks None (outcome.Halt value) = false

-- an item that answers this: a context was resumed, or a program ended
abbrev pub is_answer : Item → Bool
is_answer (item.Resume domain ctx reply) = true
is_answer (item.Ended domain) = true
is_answer _ = false

-- the next step asks, and none of its items answers
abbrev pub is_unanswered : Moment → Bool
is_unanswered m = asks (hart_of_step m).inside (kernel_ending m) && not (list_any is_answer (joint_step m).items)

-- how many of the first n steps of a run are so
unfoldable pub unanswered : Bundle → Run → ℕ → ℕ
unanswered b r zero = 0
unanswered b r (suc n) = unanswered b r n + (if is_unanswered (moment_at b r n) then 1 else 0)

-- So many refusals does the report count, up to its last count.
abbrev pub RefusalsAreRecorded : Type 0
RefusalsAreRecorded =
    (b : Bundle) (from : Beginning) (budget : ℕ) (r : Run) → run_from b from budget ≡ Ok r →
    r.closed.joint.refused ≡ min (unanswered b r (length r.turns)) (2 ^ 64 - 1)
