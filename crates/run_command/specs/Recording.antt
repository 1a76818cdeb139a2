-- What becomes of the outside as the run of a machine is written.
use Rattle.std.specs.Prelude.{ℕ, ◌≡◌, ◌⊎◌, List, [], Option}
use Rattle.io_traits.specs.Told.{Tells, Grows, Rose, OtherFiles}
use Rattle.cloak_model.specs.Exchange.{Piece, recorded_bytes, shown_bytes}
use Rattle.cloak_model.specs.Run.{Run, due}
use Rattle.command_parts.specs.declared.status.Status.{Status}
use Rattle.command_parts.specs.declared.status.Status.TheVariants as status
use Rattle.command_parts.specs.Outside.{Outside, NothingRose}
use Rattle.run_command.specs.Outlet.{Cut, pieces_left, FailedAt}
use Rattle.run_command.specs.Running.{IsStatusOfStop, run_status}
use Rattle.cloak_model.specs.Run.{NoClash}

-- what is due of a run was written whole, and the answer is its status
pub record IsWritten {S O : Type 0} (r : Run) (name : List ℕ) (given : Status) (before after : Outside S O) : Type 0
  where
    pub status : given ≡ run_status r
    pub file : Tells (after.files.held name) (recorded_bytes (due r))
    pub output : Grows before.output.taken after.output.taken (shown_bytes (due r))

-- Of the one list of what is due of a run, record and output have what is left when it is cut at one place, and the
-- fault count of the place where the piece there goes rose so.
pub record IsCutOff {S O : Type 0} (rose : ℕ → ℕ → Type 0) (r : Run) (name : List ℕ) (before after : Outside S O) :
    Type 0 where
  pub cut : Cut (due r)
  pub file : Tells (after.files.held name) (recorded_bytes (pieces_left cut))
  pub output : Grows before.output.taken after.output.taken (shown_bytes (pieces_left cut))
  pub fault : FailedAt rose cut.piece before after

-- some text was put after what an output took before
abbrev pub GrowsSome : Option (List ℕ) → Option (List ℕ) → Type 0
GrowsSome before after = (text : List ℕ) × Grows before after text

-- one count of write faults rose so
abbrev pub FailedSome : {S O : Type 0} → (ℕ → ℕ → Type 0) → Outside S O → Outside S O → Type 0
FailedSome rose before after = (piece : Piece) × FailedAt rose piece before after

-- No call failed, and this is the answer of some run; if no pages clashed, all that is due was written.
pub record RecordsAll {S O : Type 0} (name : List ℕ) (before after : Outside S O) (given : Status) (r : Run) : Type 0
  where
    pub some_stop : IsStatusOfStop given
    pub written : NoClash r → IsWritten r name given before after
    pub nothing_rose : NothingRose before after

-- the record could not be begun
pub record BeginsNot {S O : Type 0} (name : List ℕ) (before after : Outside S O) (given : Status) : Type 0 where
  pub answer : given ≡ status.WriteFault
  pub file : (after.files.held name ≡ before.files.held name) ⊎ Tells (after.files.held name) []
  pub writing : Rose before.files.writing after.files.writing
  pub untouched : after.output ≡ before.output

-- The run broke off; if no pages clashed, what is due of it was cut off.
pub record RecordsFront {S O : Type 0} (name : List ℕ) (before after : Outside S O) (given : Status) (r : Run) : Type 0
  where
    pub answer : given ≡ status.WriteFault
    pub cut_off : NoClash r → IsCutOff Rose r name before after
    pub fault : FailedSome Rose before after

-- what writing this run into the file of this name returns
pub record Records {S O : Type 0} (name : List ℕ) (before after : Outside S O) (given : Status) (r : Run) : Type 0 where
  pub reading : after.files.reading ≡ before.files.reading
  pub others : OtherFiles name before.files.held after.files.held
  pub grows : GrowsSome before.output.taken after.output.taken
  pub outcome : RecordsAll name before after given r ⊎
      (BeginsNot name before after given ⊎ RecordsFront name before after given r)
