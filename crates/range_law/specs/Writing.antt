-- What a run writes to its record is a record: each field of each item is in its range.
use Rattle.std.specs.Prelude.{ℕ, ◌≡◌, ◌≤◌, ◌<◌, List, length, All, Ok}
use Rattle.std.specs.List.{AllByRecursion}
use Rattle.aes_block.specs.Bytes.{IsBytes}
use Rattle.cloak_base.specs.Random.{Random, handed, keyed}
use Rattle.cloak_model.specs.declared.image.Bundle.{Bundle}
use Rattle.cloak_model.specs.declared.image.Program.{Program}
use Rattle.cloak_model.specs.declared.image.Segment.{Segment}
use Rattle.cloak_model.specs.Beginning.{Beginning, Fresh, Stored, IsBeginning}
use Rattle.cloak_model.specs.Bundle.{IsInGrammar}
use Rattle.cloak_model.specs.Record.{IsRecord}
use Rattle.cloak_model.specs.Run.{Run, run_from, exchange, record_bytes, most_steps}
use Rattle.cloak_model.specs.StoredFiles.{FileContents}

abbrev pub AreBytes : List ℕ → Type 0
AreBytes bytes = AllByRecursion (λ b. b < 256) bytes

-- the bytes of an image are bytes
pub record IsOfBytes (b : Bundle) : Type 0 where
  pub segments : AllByRecursion (λ (s : Segment). AreBytes s.bytes) b.kernel.segments
  pub disk : AreBytes b.kernel.disk
  pub programs : AllByRecursion (λ (p : Program). AreBytes p.bytes) b.programs

-- the bytes of a random stream are bytes
abbrev pub IsStreamOfBytes : Random → Type 0
IsStreamOfBytes (handed bytes) = AreBytes bytes
IsStreamOfBytes (keyed g) = Unit {0}

-- four keys, each of 16 bytes
pub record AreKeys (keys : List (List ℕ)) : Type 0 where
  pub four : length keys ≡ 4
  pub whole : All (IsBytes 16) keys

-- Keys, a stream of bytes, and files of which a table can tell and whose pages are sealed: those are pages of bytes.
pub record IsStoredOfBytes (b : Bundle) (keys : List (List ℕ)) (stream : Random) (files : List FileContents) : Type 0 where
  pub four_keys : AreKeys keys
  pub bytes : IsStreamOfBytes stream
  pub contents : IsBeginning b (Stored keys stream files)

-- what a run begins with beside its image is of bytes
abbrev pub IsBeginningOfBytes : Bundle → Beginning → Type 0
IsBeginningOfBytes b (Fresh stream) = IsStreamOfBytes stream
IsBeginningOfBytes b (Stored keys stream files) = IsStoredOfBytes b keys stream files

-- The bytes of the record of a run are the record of its exchange.
abbrev pub WritesARecord : Type 0
WritesARecord =
    (b : Bundle) (from : Beginning) (budget : ℕ) (r : Run) → IsInGrammar b → IsOfBytes b → IsBeginningOfBytes b from →
    budget ≤ most_steps → run_from b from budget ≡ Ok r → IsRecord (record_bytes r) (exchange r)
