-- Reservations of harts: whoever writes RAM, SC stores only if no byte of its word was written since the hart's LR.
use Rattle.std.specs.Prelude.{ℕ, suc, ◌≡◌, ◌≤◌, true, length, slice_get, Some, Ok}
use Rattle.cloak_model.specs.declared.image.Bundle.{Bundle}
use Rattle.cloak_model.specs.Beginning.{Beginning}
use Rattle.cloak_model.specs.Memory.{is_in_ram, value_at, mark_of}
use Rattle.cloak_model.specs.Run.{Run, run_from}
use Rattle.kernel_isolation.specs.Isolation.{joint_until}
use Rattle.page_law.specs.Ciphers.{items_of_turn}
use Rattle.reservation_law.specs.Deeds.{Reserves, StoresReserved}
use Rattle.reservation_law.specs.Writes.{hart_of_step, deed_of_step, writes_of_step, items_extents, spares_byte, spares_word}

-- The hart reserved the word at this address with LR, before step n, and from then on to step n no step wrote a byte
-- of it.
pub record WasReserved (b : Bundle) (r : Run) (n hart pa : ℕ) : Type 0 where
  pub step : ℕ
  pub before : suc step ≤ n
  pub own : hart_of_step b step ≡ hart
  pub reserved : deed_of_step b r step ≡ Reserves pa
  pub unwritten : (k : ℕ) → suc step ≤ k → suc k ≤ n → spares_word pa (writes_of_step b r k) ≡ true

-- SC of step n stores the word at this address: its hart reserved it so, and what was settled ahead in this step was
-- not of this word either.
pub record StoresAsReserved (b : Bundle) (r : Run) (n pa : ℕ) : Type 0 where
  pub kept : WasReserved b r n (hart_of_step b n) pa
  pub settled : spares_word pa (items_extents (items_of_turn (slice_get r.turns n))) ≡ true

-- What a run keeps to.

-- each reservation that a hart has, at each moment, was made so and kept
abbrev pub KeepsReservations : Bundle → Run → Type 0
KeepsReservations b r =
    (n : ℕ) → n ≤ length r.turns → (hart pa : ℕ) → mark_of hart (joint_until n r).memory.marks ≡ Some pa →
    WasReserved b r n hart pa

-- SC stores only so
abbrev pub StoresOnlyReserved : Bundle → Run → Type 0
StoresOnlyReserved b r =
    (n pa : ℕ) → suc n ≤ length r.turns → deed_of_step b r n ≡ StoresReserved pa → StoresAsReserved b r n pa

-- a byte of RAM that a step does not write is as it was
abbrev pub KeepsOtherBytes : Bundle → Run → Type 0
KeepsOtherBytes b r =
    (n pa : ℕ) → suc n ≤ length r.turns → is_in_ram (joint_until n r).memory.ram pa ≡ true →
    spares_byte pa (writes_of_step b r n) ≡ true →
    value_at (joint_until (suc n) r).memory.ram pa 1 ≡ value_at (joint_until n r).memory.ram pa 1

-- The laws: every run does, from whatever beginning.

abbrev pub ReservationsAreKept : Type 0
ReservationsAreKept =
    (b : Bundle) (from : Beginning) (budget : ℕ) (r : Run) → run_from b from budget ≡ Ok r → KeepsReservations b r

abbrev pub ConditionalsStoreReserved : Type 0
ConditionalsStoreReserved =
    (b : Bundle) (from : Beginning) (budget : ℕ) (r : Run) → run_from b from budget ≡ Ok r → StoresOnlyReserved b r

abbrev pub BytesStay : Type 0
BytesStay =
    (b : Bundle) (from : Beginning) (budget : ℕ) (r : Run) → run_from b from budget ≡ Ok r → KeepsOtherBytes b r
