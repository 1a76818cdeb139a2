-- How far a record is read by a machine that runs alone: its items go one after another to the machine, up to the first
-- that does not fit, or the first fault of the file.
use Rattle.std.specs.Prelude.{ℕ, ◌≡◌, ◌⊎◌, List, [], ◌∷◌, ◌++◌, Option, Some, None, IfSome}
use Rattle.io_traits.specs.Told.{Grows, GrowsByFront, Rose}
use Rattle.cloak_model.specs.Items.{Item}
use Rattle.cloak_model.specs.Record.{IsRecord}
use Rattle.cloak_model.specs.RecordFault.{Begins}
use Rattle.record_reader.specs.Ahead.{readable}
use Rattle.record_reader.specs.Reading.{HasFaultAt}
use Rattle.command_parts.specs.Outside.{Outside}
use Rattle.command_parts.specs.declared.status.Status.{Status}
use Rattle.command_parts.specs.declared.status.Status.TheVariants as status
use Rattle.read_back.specs.declared.ending.Ending.{Ending}
use Rattle.read_back.specs.declared.ending.Ending.TheVariants as ending

abbrev pub status_of_ending : Ending → Status
status_of_ending ending.Whole = status.Done
status_of_ending (ending.Unfit step) = status.BadRecord
status_of_ending (ending.Fault fault) = status.BadRecord
status_of_ending ending.Unread = status.ReadFault

-- A machine that runs alone is said here by what it makes of a list of items: the step at which one was unfit.

-- The last of these items is the first that was unfit, at this step.
pub record IsFirstUnfit (unfit : List Item → Option ℕ) (items : List Item) (step : ℕ) : Type 0 where
  pub before : List Item
  pub last : Item
  pub order : items ≡ before ++ last ∷ []
  pub fit : unfit before ≡ None
  pub is_unfit : unfit items ≡ Some step

-- what the machine made of the items that were read; none was unfit as long as reading goes on
abbrev pub FitsAs : (List Item → Option ℕ) → List Item → Option Ending → Type 0
FitsAs unfit items (Some (ending.Unfit step)) = IsFirstUnfit unfit items step
FitsAs unfit items (Some ending.Whole) = unfit items ≡ None
FitsAs unfit items (Some (ending.Fault fault)) = unfit items ≡ None
FitsAs unfit items (Some ending.Unread) = unfit items ≡ None
FitsAs unfit items None = unfit items ≡ None

-- each item fits: they are only read
abbrev pub never_unfit : List Item → Option ℕ
never_unfit items = None

-- A file begins with these items, as far as it was read.
abbrev pub BeginsWith : List ℕ → List Item → Type 0
BeginsWith file items = (items ≡ []) ⊎ ((rest : List ℕ) × Begins file items rest)

-- what the file is whose items these are
abbrev pub FileIs : List ℕ → List Item → Option Ending → Type 0
FileIs file items (Some ending.Whole) = IsRecord file items
FileIs file items (Some (ending.Unfit step)) = BeginsWith file items
FileIs file items (Some (ending.Fault fault)) = HasFaultAt file items fault
FileIs file items (Some ending.Unread) = BeginsWith file items
FileIs file items None = BeginsWith file items

-- what reading did to the count of reading faults
abbrev pub ReadsAs : ℕ → ℕ → Option Ending → Type 0
ReadsAs before now (Some ending.Unread) = Rose before now
ReadsAs before now (Some ending.Whole) = now ≡ before
ReadsAs before now (Some (ending.Unfit step)) = now ≡ before
ReadsAs before now (Some (ending.Fault fault)) = now ≡ before
ReadsAs before now None = now ≡ before

-- These items were read, and reading ended so, or went on.
pub record IsReadTo (unfit : List Item → Option ℕ) (told : Option (List ℕ)) (reading reads : ℕ) (items : List Item)
    (ended : Option Ending) : Type 0 where
  pub fits : FitsAs unfit items ended
  pub file : IfSome told (λ bytes. FileIs (readable bytes) items ended)
  pub counts : ReadsAs reading reads ended

-- A record was read to where reading ended, and what that gives was shown.
pub record ReadsRecord {S O : Type 0} (unfit : List Item → Option ℕ) (text : List Item → Option Ending → List ℕ)
    (name : List ℕ) (answer : Status) (before after : Outside S O) : Type 0 where
  pub items : List Item
  pub ended : Ending
  pub status : answer ≡ status_of_ending ended
  pub read : IsReadTo unfit (before.files.held name) before.files.reading after.files.reading items (Some ended)
  pub shown : Grows before.output.taken after.output.taken (text items (Some ended))
  pub faults : after.output.faults ≡ before.output.faults

-- A fault of writing came: of what these items give, and the ending if there was one, a front was shown.
pub record BreaksOff {S O : Type 0} (rose : ℕ → ℕ → Type 0) (unfit : List Item → Option ℕ)
    (text : List Item → Option Ending → List ℕ) (name : List ℕ) (before after : Outside S O) : Type 0 where
  pub items : List Item
  pub ended : Option Ending
  pub read : IsReadTo unfit (before.files.held name) before.files.reading after.files.reading items ended
  pub shown : GrowsByFront before.output.taken after.output.taken (text items ended)
  pub faults : rose before.output.faults after.output.faults

-- A record was read and shown, or shown in part.
abbrev pub ShowsRecord : {S O : Type 0} → (List Item → Option ℕ) → (List Item → Option Ending → List ℕ) → List ℕ → Status →
    Outside S O → Outside S O → Type 0
ShowsRecord unfit text name answer before after =
    ReadsRecord unfit text name answer before after
    ⊎ ((answer ≡ status.WriteFault) × BreaksOff Rose unfit text name before after)
