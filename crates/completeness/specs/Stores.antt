-- What `store` results in if no call on files or output fails.
use Rattle.std.specs.Prelude.{ℕ, ◌≡◌, ◌≢◌, ◌≤◌, ◌⊎◌, List, [], length, take, Option, Some, Result, Ok, Err}
use Rattle.cloak_model.specs.Beginning.{Stored}
use Rattle.cloak_model.specs.Bundle.{IsBundleIn}
use Rattle.cloak_model.specs.Opening.{Lack}
use Rattle.cloak_model.specs.Run.{Run, run_from}
use Rattle.cloak_model.specs.StoredFiles.{FileContents, IsStore, IsTable}
use Rattle.command_words.specs.Command as spec
use Rattle.command_parts.specs.declared.status.Status.{Status}
use Rattle.command_parts.specs.Outside.{Outside, NothingRose}
use Rattle.command_parts.specs.Storing.{AreFiles, StoreSources, secret_length, secret_of}
use Rattle.cloak_model.specs.Run.{NoClash}
use Rattle.store_command.specs.Answering.{StoreAnswers}
use Rattle.store_command.specs.Leaving.{LeavesAll, OtherThanStored}
use Rattle.completeness.specs.Asked.{WantsMemory}
use Rattle.completeness.specs.Runs.{Lacks}
use Rattle.command_parts.specs.Streams.{IsToldStream}

-- The files tell these bytes, and all of them are right: a bundle, a long enough secret, and, unless the counter is 0, a
-- store file of this counter.
pub record AreTold (names : spec.StoreNames) (counter : ℕ) (randomness : spec.Randomness)
    (held : List ℕ → Option (List ℕ)) (s : StoreSources) : Type 0 where
  pub bundle : held names.bundle ≡ Some s.bytes
  pub is_bundle : IsBundleIn s.version s.bytes s.bundle
  pub secret_file : List ℕ
  pub secret : held names.secret_name ≡ Some secret_file
  pub long : secret_length ≤ length secret_file
  pub is_secret : s.secret ≡ secret_of (take secret_length secret_file)
  pub none : counter ≡ 0 → s.table ≡ []
  pub old_file : List ℕ
  pub old : counter ≢ 0 → held names.old_name ≡ Some old_file
  pub spelled : counter ≢ 0 → IsStore s.secret.mac counter old_file s.table
  pub stream : IsToldStream held randomness s.stream

-- what the run over files results in, or why there is none
abbrev pub ComesToStored : {S O : Type 0} → spec.StoreNames → ℕ → StoreSources → Result Run Lack → Status →
    Outside S O → Outside S O → Type 0
ComesToStored names counter s (Err lack) answer before after = Lacks lack answer before after
ComesToStored names counter s (Ok r) answer before after =
    OtherThanStored names before.files.held after.files.held
    × (NoClash r → LeavesAll names counter s r answer before after)

-- If these words ask for a run over what the files tell, and no call fails, the run over all contents that the table stands
-- for was made, and all that is due of it was written; or there was no memory to begin with.
abbrev pub CompletesStore : {S O : Type 0} → spec.StoreNames → (counter steps : ℕ) → spec.Randomness → Status →
    Outside S O → Outside S O → Type 0
CompletesStore names counter steps randomness answer before after =
    (s : StoreSources) → AreTold names counter randomness before.files.held s → NothingRose before after →
    WantsMemory answer before after
    ⊎ ((files : List FileContents) → AreFiles s files →
    ComesToStored names counter s (run_from s.bundle (Stored s.secret.keys s.stream files) steps) answer before after)

abbrev pub StoresAreComplete : (S O : Type 0) → Type 0
StoresAreComplete S O =
    (names : spec.StoreNames) (counter steps : ℕ) (randomness : spec.Randomness) (answer : Status)
    (before after : Outside S O) → StoreAnswers (spec.Store names counter steps randomness) before after answer →
    CompletesStore names counter steps randomness answer before after
