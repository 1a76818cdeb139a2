-- The random stream of a run.
use Rattle.std.specs.Prelude.{ℕ, ◌≡◌, ◌≤◌, List, length, take, Option, Some, IfSome}
use Rattle.cloak_base.specs.Random.{Random, handed, numbered}
use Rattle.command_words.specs.Command as spec
use Rattle.command_parts.specs.declared.refusal.Refusal.{Refusal}
use Rattle.command_parts.specs.Files.{TellsUnread}

-- a stream of the first bytes of a file, if they are told
pub record IsOfFile (told : Option (List ℕ)) (stream : Random) : Type 0 where
  pub bytes : List ℕ
  pub handed_in : stream ≡ handed bytes
  pub few : length bytes ≤ spec.longest_stream
  pub front : IfSome told (λ file. bytes ≡ take spec.longest_stream file)

abbrev pub IsStream : (List ℕ → Option (List ℕ)) → spec.Randomness → Random → Type 0
IsStream held (spec.Numbered number) stream = stream ≡ numbered number
IsStream held (spec.FromFile name) stream = IsOfFile (held name) stream

-- the file of a random stream
abbrev pub IsStreamFile : spec.Randomness → List ℕ → Type 0
IsStreamFile (spec.Numbered number) name = ⊥
IsStreamFile (spec.FromFile file) name = name ≡ file

-- If a call that reads the file of a stream failed, it is the one of which reading failed last, if that is told. The stream
-- of a number does not fail.
abbrev pub TellsUnreadStream : Option (List ℕ) → spec.Randomness → Refusal → Type 0
TellsUnreadStream told (spec.Numbered number) refused = ⊥
TellsUnreadStream told (spec.FromFile name) refused = TellsUnread told name refused

-- the stream of a number, or of the first bytes of a file
abbrev pub IsToldStream : (List ℕ → Option (List ℕ)) → spec.Randomness → Random → Type 0
IsToldStream held (spec.Numbered number) stream = stream ≡ numbered number
IsToldStream held (spec.FromFile name) stream =
    (bytes : List ℕ) × (held name ≡ Some bytes) × (stream ≡ handed (take spec.longest_stream bytes))
