-- What becomes of the outside as a run over cloaked files is made.
use Rattle.std.specs.Prelude.{ℕ, ◌≡◌, ◌⊎◌, List, ◌∷◌, Ok}
use Rattle.chain_law.specs.Chain.{GivesLatestOver, GoesOnFrom, IsChain, MadeRun}
use Rattle.cloak_model.specs.Beginning.{Stored}
use Rattle.cloak_model.specs.Run.{Run, run_from}
use Rattle.cloak_model.specs.StoredFiles.{FileContents, table_of}
use Rattle.cloak_model.specs.StoredRun.{contents_of}
use Rattle.command_words.specs.Command as spec
use Rattle.command_parts.specs.declared.status.Status.{Status}
use Rattle.command_parts.specs.declared.status.Status.TheVariants as status
use Rattle.command_parts.specs.Outside.{FilesOutside, Outside, Raised, NothingRose}
use Rattle.command_parts.specs.Storing.{AreFiles, StoreSources}
use Rattle.run_command.specs.Answering.{IsLawful}
use Rattle.run_command.specs.Recording.{FailedSome, GrowsSome}
use Rattle.run_command.specs.Running.{IsStatusOfStop}
use Rattle.cloak_model.specs.Run.{NoClash}
use Rattle.store_command.specs.declared.prepare.PreparedStore.{PreparedStore}
use Rattle.store_command.specs.Leaving.{BeginsNoRecord, BreaksOff, LeavesAll, OtherThanStored}
use Rattle.store_command.specs.Preparing.{PreparesStored}
use Rattle.vector_law.specs.Vectors.{TellsNoKey}

-- a run over files of these contents, with what it came from
abbrev pub run_over : StoreSources → ℕ → List FileContents → Run → MadeRun
run_over s steps files r =
    record { bundle = s.bundle; from = Stored s.secret.keys s.stream files; budget = steps; run = r }

-- The run over files of these contents: it is lawful; if it goes on over the files of a chain of runs, it gives what
-- was stored last in all of them; what it leaves of its files tells no vector that is a key by its place; and if no pages
-- clashed in it, this became of what is due from it.
pub record RunsOver (s : StoreSources) (steps : ℕ) (Leaves : Run → Type 0) (files : List FileContents) : Type 0 where
  pub made : Run
  pub runs : run_from s.bundle (Stored s.secret.keys s.stream files) steps ≡ Ok made
  pub lawful : IsLawful s.bundle (Stored s.secret.keys s.stream files) made
  pub over_chain : (last : MadeRun) (earlier : List MadeRun) → GoesOnFrom (run_over s steps files made) last →
      IsChain last earlier → GivesLatestOver (run_over s steps files made) (last ∷ earlier)
  pub no_key : TellsNoKey s.bundle.programs (Stored s.secret.keys s.stream files) (table_of (contents_of made.closed.joint))
  pub left : NoClash made → Leaves made

-- No call failed. For all contents that the table of the store file stands for, all that is due of the run over them was
-- written.
pub record StoresAll {S O : Type 0} (names : spec.StoreNames) (counter steps : ℕ) (s : StoreSources) (given : Status)
    (before after : Outside S O) : Type 0 where
  pub leaves : (files : List FileContents) → AreFiles s files →
      RunsOver s steps (λ r. LeavesAll names counter s r given before after) files
  pub some_stop : IsStatusOfStop given
  pub grows : GrowsSome before.output.taken after.output.taken
  pub others : OtherThanStored names before.files.held after.files.held
  pub nothing_rose : NothingRose before after

-- Writing broke off: the record could not be begun, or for all those contents this became of what is due of the run.
pub record StoresFront {S O : Type 0} (names : spec.StoreNames) (counter steps : ℕ) (s : StoreSources)
    (before after : Outside S O) : Type 0 where
  pub breaks_off : BeginsNoRecord names before after
      ⊎ ((files : List FileContents) → AreFiles s files →
      RunsOver s steps (λ r. BreaksOff names counter s r before after) files)
  pub grows : GrowsSome before.output.taken after.output.taken
  pub others : OtherThanStored names before.files.held after.files.held
  pub reading : after.files.reading ≡ before.files.reading
  pub fault : FailedSome Raised before after

abbrev pub Stores : {S O : Type 0} → spec.StoreNames → (counter steps : ℕ) → StoreSources → Outside S O → Outside S O →
    Status → Type 0
Stores names counter steps s before after given =
    StoresAll names counter steps s given before after
    ⊎ ((given ≡ status.WriteFault) × StoresFront names counter steps s before after)

-- What making a run that was prepared returns, seen from before its files were read.
abbrev pub StoresPrepared : {S O : Type 0} → spec.StoreNames → (counter steps : ℕ) → spec.Randomness → PreparedStore →
    Outside S O → Outside S O → Status → Type 0
StoresPrepared {S} {O} names counter steps randomness prepared now after given =
    (before : FilesOutside S)
    (p : PreparesStored names counter steps randomness before now.files (Ok prepared)) →
    Stores names counter steps p.1.sources (record { files = before; output = now.output }) after given
