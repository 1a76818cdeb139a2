-- What is recorded of a page tells its newest bytes, unless a frame is owed it.
use Rattle.std.specs.Prelude.{ℕ, ◌≡◌, ◌≢◌, false, List, Some, Ok}
use Rattle.cloak_base.specs.declared.names.PageId.{PageId}
use Rattle.cloak_model.specs.declared.image.Bundle.{Bundle}
use Rattle.cloak_model.specs.Beginning.{Beginning, IsBeginning}
use Rattle.cloak_model.specs.Cloaking.{CloakedMemory, owed_in, ciphertext_of}
use Rattle.cloak_model.specs.Run.{Run, run_from}
use Rattle.kernel_isolation.specs.Isolation.{joint_until}

-- No frame is owed the page.
abbrev pub IsUnowed : PageId → CloakedMemory → Type 0
IsUnowed q m = (f : ℕ) → owed_in m f ≢ Some q

-- Unless a draw was missing, the ciphertext that is recorded of a page that no frame is owed is that of its newest bytes,
-- under the vector that is recorded.
abbrev pub RecordsTell : CloakedMemory → Type 0
RecordsTell m =
    m.ledger.missed ≡ false → (q : PageId) (c iv : List ℕ) → IsUnowed q m → m.ledger.recorded q ≡ Some c →
    m.ledger.iv q ≡ Some iv → c ≡ ciphertext_of m.ledger q iv (m.plain q)

-- The law, of every moment of each run, also over files of an earlier run whose ciphertexts are those of their pages.
abbrev pub RecordsTellPages : Type 0
RecordsTellPages =
    (b : Bundle) (from : Beginning) (budget : ℕ) (r : Run) → IsBeginning b from → run_from b from budget ≡ Ok r →
    (n : ℕ) → RecordsTell (joint_until n r).memory
