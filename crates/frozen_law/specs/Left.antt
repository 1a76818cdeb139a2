-- What a run leaves of its cloaked files is what the next one can go on from.
use Rattle.std.specs.Prelude.{ℕ, ◌≡◌, ◌≢◌, IfSome, Ok}
use Rattle.aes_block.specs.Bytes.{IsBytes}
use Rattle.cloak_base.specs.declared.causes.Stop.TheVariants as stop
use Rattle.cloak_base.specs.declared.names.PageId.{PageId}
use Rattle.cloak_model.specs.declared.image.Bundle.{Bundle}
use Rattle.cloak_model.specs.Beginning.{AreContents, Beginning}
use Rattle.cloak_model.specs.Bundle.{IsInGrammar}
use Rattle.cloak_model.specs.Run.{Run, run_from}
use Rattle.cloak_model.specs.StoredRun.{contents_of}
use Rattle.kernel_isolation.specs.Isolation.{joint_until}
use Rattle.range_law.specs.Writing.{IsBeginningOfBytes, IsOfBytes}
use Rattle.frozen_law.specs.Streams.{HasKeysFrom}

-- Vectors.

-- The law, of every moment of the run of an image in the grammar whose bytes are bytes, from a beginning of bytes: the
-- vector that is recorded of a page has 16 bytes.
abbrev pub VectorsAreBlocks : Type 0
VectorsAreBlocks =
    (b : Bundle) (from : Beginning) (budget : ℕ) (r : Run) → IsBeginningOfBytes b from →
    run_from b from budget ≡ Ok r → (n : ℕ) (q : PageId) →
    IfSome ((joint_until n r).memory.ledger.iv q) (IsBytes 16)

-- At the end.

-- The law, of each run in which no draw was missing: a table can tell of what its files hold as it was closed, and each
-- ciphertext is that of its page, under the keys of the run.
abbrev pub RunsLeaveContents : Type 0
RunsLeaveContents =
    (b : Bundle) (from : Beginning) (budget : ℕ) (r : Run) → IsInGrammar b → IsOfBytes b → IsBeginningOfBytes b from →
    run_from b from budget ≡ Ok r → r.stop ≢ stop.NoRandom →
    AreContents r.closed.joint.memory.ledger.keys (contents_of r.closed.joint)

-- These keys are those with which the run began.
abbrev pub RunsEndWithKeys : Type 0
RunsEndWithKeys =
    (b : Bundle) (from : Beginning) (budget : ℕ) (r : Run) → run_from b from budget ≡ Ok r →
    HasKeysFrom b from r.closed.joint.memory.ledger
