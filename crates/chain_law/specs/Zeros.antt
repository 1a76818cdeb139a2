-- A page that was never shown, and that no frame is owed, is zeros. So what is recorded of pages is enough to go on
-- with them.
use Rattle.std.specs.Prelude.{ℕ, ◌≡◌, ◌≢◌, false, Some, None, Ok, is_some}
use Rattle.cloak_base.specs.Pages.{zero_page}
use Rattle.cloak_base.specs.declared.causes.Stop.TheVariants as stop
use Rattle.cloak_base.specs.declared.names.PageId.{PageId}
use Rattle.cloak_model.specs.declared.image.Bundle.{Bundle}
use Rattle.cloak_model.specs.Beginning.{Beginning}
use Rattle.cloak_model.specs.Cloaking.{CloakedMemory, owed_in}
use Rattle.cloak_model.specs.Run.{Run, run_from}
use Rattle.kernel_isolation.specs.Isolation.{joint_until}

-- no ciphertext of the page is recorded, and no frame is owed it
abbrev pub IsFresh : PageId → CloakedMemory → Type 0
IsFresh q m = (m.ledger.recorded q ≡ None) × ((f : ℕ) → owed_in m f ≢ Some q)

-- Unless a draw was missing, each such page is zeros.
abbrev pub FreshAreZeros : CloakedMemory → Type 0
FreshAreZeros m = m.ledger.missed ≡ false → (q : PageId) → IsFresh q m → m.plain q ≡ zero_page

-- A page has a vector exactly if a ciphertext of it is recorded.
abbrev pub HaveVectors : CloakedMemory → Type 0
HaveVectors m = (q : PageId) → is_some (m.ledger.iv q) ≡ is_some (m.ledger.recorded q)

-- The law, of every moment of each run.
abbrev pub UnshownAreZeros : Type 0
UnshownAreZeros =
    (b : Bundle) (from : Beginning) (budget : ℕ) (r : Run) → run_from b from budget ≡ Ok r → (n : ℕ) →
    HaveVectors (joint_until n r).memory × FreshAreZeros (joint_until n r).memory

-- So a page that a run leaves without a record is zeros, if no draw was missing in the run.
abbrev pub LeftUnshownAreZeros : Type 0
LeftUnshownAreZeros =
    (b : Bundle) (from : Beginning) (budget : ℕ) (r : Run) → run_from b from budget ≡ Ok r → r.stop ≢ stop.NoRandom →
    HaveVectors r.closed.joint.memory
    × ((q : PageId) → r.closed.joint.memory.ledger.recorded q ≡ None → r.closed.joint.memory.plain q ≡ zero_page)
