-- What the closing of a run leaves: nothing is kept from the kernel in a frame of RAM.
use Rattle.std.specs.Prelude.{ℕ, ◌≡◌, false, List, [], length, map, filter, None, Ok, slice_index_or}
use Rattle.cloak_model.specs.declared.image.Bundle.{Bundle}
use Rattle.cloak_model.specs.Items as item
use Rattle.cloak_model.specs.Ahead.{is_owed}
use Rattle.cloak_model.specs.Beginning.{Beginning}
use Rattle.cloak_model.specs.Cloaking.{CloakedMemory, owed_in}
use Rattle.cloak_model.specs.Opening.{numbers_below}
use Rattle.cloak_model.specs.Run.{Run, run_from, joint_after}

-- the memory after the last step of a run, before it is closed
abbrev pub memory_at_end : Run → CloakedMemory
memory_at_end r = (joint_after r.opened.joint r.turns).memory

-- the memory of a run that was closed
abbrev pub closed_memory : Run → CloakedMemory
closed_memory r = r.closed.joint.memory

-- No frame is owed a page any more.
abbrev pub ClosingOwesNothing : Type 0
ClosingOwesNothing =
    (b : Bundle) (from : Beginning) (budget : ℕ) (r : Run) → run_from b from budget ≡ Ok r → (f : ℕ) →
    owed_in (closed_memory r) f ≡ None

-- the frames that were owed a page, by rising number
abbrev pub owed_frames : CloakedMemory → List ℕ
owed_frames m = filter (is_owed m) (numbers_below (length m.ram))

-- The closing shows each of them once, as it is then, and nothing else.
abbrev pub ClosingShowsOwed : Type 0
ClosingShowsOwed =
    (b : Bundle) (from : Beginning) (budget : ℕ) (r : Run) → run_from b from budget ≡ Ok r →
    r.closed.items
    ≡ map (λ f. item.Cipher f (slice_index_or (closed_memory r).ram f [])) (owed_frames (memory_at_end r))

-- All other frames stay as the kernel saw them.
abbrev pub ClosingSparesOthers : Type 0
ClosingSparesOthers =
    (b : Bundle) (from : Beginning) (budget : ℕ) (r : Run) → run_from b from budget ≡ Ok r → (f : ℕ) →
    is_owed (memory_at_end r) f ≡ false →
    slice_index_or (closed_memory r).ram f [] ≡ slice_index_or (memory_at_end r).ram f []
