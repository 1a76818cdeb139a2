-- The keys of a run are those of its beginning, and its stream at a moment is what the stream of the beginning has after
-- the draws that were made.
use Rattle.std.specs.Prelude.{ℕ, ◌≡◌, ◌≤◌, IsSomeAnd, Some, Ok}
use Rattle.io_traits.specs.Skipping.{skipped}
use Rattle.cloak_base.specs.Random.{Random}
use Rattle.cloak_model.specs.declared.image.Bundle.{Bundle}
use Rattle.cloak_model.specs.Beginning.{Beginning, Fresh, Stored, stored_keys}
use Rattle.cloak_model.specs.Bundle.{IsInGrammar}
use Rattle.cloak_model.specs.Ledger.{Keys, Ledger}
use Rattle.cloak_model.specs.Opening.{drawn_keys, key_count, keys_for}
use Rattle.cloak_model.specs.Run.{Run, run_from, most_steps}
use Rattle.kernel_isolation.specs.Isolation.{joint_until}

-- These are the keys, and with the draws that the ledger counts this stream has become the ledger's.
pub record HasDrawn (keys : Keys) (stream : Random) (l : Ledger) : Type 0 where
  pub same_keys : l.keys ≡ keys
  pub rest : skipped l.draws stream ≡ Some l.stream

-- Of a fresh beginning the keys are the first draws, and the others come after them.
abbrev pub HasDrawnFrom : Bundle → Beginning → Ledger → Type 0
HasDrawnFrom b (Fresh stream) l =
    IsSomeAnd (drawn_keys (key_count b.programs) stream) (λ drawn. HasDrawn (keys_for b.programs drawn.0) drawn.1 l)
HasDrawnFrom b (Stored keys stream files) l = HasDrawn (stored_keys b keys) stream l

-- The law, of the run of an image in the grammar, up to the most steps that a run may have.
abbrev pub RunsKeepStreams : Type 0
RunsKeepStreams =
    (b : Bundle) (from : Beginning) (budget : ℕ) (r : Run) → IsInGrammar b → run_from b from budget ≡ Ok r → (n : ℕ) →
    n ≤ most_steps → HasDrawnFrom b from (joint_until n r).memory.ledger

-- The keys alone.

abbrev pub HasKeysFrom : Bundle → Beginning → Ledger → Type 0
HasKeysFrom b (Fresh stream) l =
    IsSomeAnd (drawn_keys (key_count b.programs) stream) (λ drawn. l.keys ≡ keys_for b.programs drawn.0)
HasKeysFrom b (Stored keys stream files) l = l.keys ≡ stored_keys b keys

-- The law, of every moment of each run, also of an image that no file spells, and however many steps it has.
abbrev pub RunsKeepKeys : Type 0
RunsKeepKeys =
    (b : Bundle) (from : Beginning) (budget : ℕ) (r : Run) → run_from b from budget ≡ Ok r → (n : ℕ) →
    HasKeysFrom b from (joint_until n r).memory.ledger
