-- What `explain` returns, each status with its cause.
use Rattle.std.specs.Prelude.{ℕ, ◌≡◌, ◌≢◌, ◌⊎◌, List, [], ◌∷◌, ◌++◌, Option, Some, IfSome, Result, Ok, Err}
use Rattle.io_traits.specs.Told.{Grows, Rose}
use Rattle.cloak_model.specs.declared.image.Bundle.{Bundle}
use Rattle.cloak_model.specs.Items.{Item}
use Rattle.cloak_model.specs.declared.fault.BundleFault.{BundleFault}
use Rattle.cloak_model.specs.declared.fault.RecordFault.{RecordFault}
use Rattle.cloak_model.specs.BundleFault.{bundle_fault}
use Rattle.cloak_model.specs.Record.{IsRecord}
use Rattle.record_reader.specs.Ahead.{readable}
use Rattle.record_reader.specs.Reading.{HasFaultAt}
use Rattle.command_parts.specs.Bundles.{IsInFile}
use Rattle.command_parts.specs.Outside.{Outside, Output}
use Rattle.command_parts.specs.declared.status.Status.{Status}
use Rattle.command_parts.specs.declared.status.Status.TheVariants as status
use Rattle.command_parts.specs.Refusing.{Refuses}
use Rattle.command_parts.specs.declared.refusal.Refusal.TheVariants.{NoMemory}
use Rattle.read_back.specs.Reading.{BeginsWith, status_of_ending}
use Rattle.read_back.specs.Text.{fault_line}
use Rattle.read_back.specs.declared.ending.Ending.{Ending}
use Rattle.read_back.specs.declared.ending.Ending.TheVariants as ending
use Rattle.replayed_run.specs.Noted.{noted_in}
use Rattle.run_story.specs.Passages.{AreToldBy, summary}
use Rattle.run_story.specs.Told.{Fits, IsUnfitNext, ended_count, told_in}
use Rattle.run_story.specs.Telling.{Tells}
use Rattle.run_story.specs.declared.story.Story.{Story}
use Rattle.run_story.specs.declared.untold.Untold.{Untold}
use Rattle.run_story.specs.declared.untold.Untold.TheVariants as untold

-- How the items of a record went to the machines that run alone, of an image.

-- The file is a record, and each item fits.
pub record IsWholeRecord (b : Bundle) (told : Option (List ℕ)) : Type 0 where
  pub items : List Item
  pub file : IfSome told (λ bytes. IsRecord (readable bytes) items)
  pub fits : Fits b items

-- This is the file's first fault, and the items before it fit.
pub record IsFaultyRecord (b : Bundle) (told : Option (List ℕ)) (fault : RecordFault) : Type 0 where
  pub items : List Item
  pub file : IfSome told (λ bytes. HasFaultAt (readable bytes) items fault)
  pub fits : Fits b items

-- The file begins with items that fit, and one that does not, at this step.
pub record IsUnfitRecord (b : Bundle) (told : Option (List ℕ)) (step : ℕ) : Type 0 where
  pub items : List Item
  pub last : Item
  pub file : IfSome told (λ bytes. BeginsWith (readable bytes) (items ++ last ∷ []))
  pub unfit : IsUnfitNext b items last step

-- Reading a file ended so, by the count of reading faults before and after.
abbrev pub ReadingEnds : Bundle → Option (List ℕ) → ℕ → ℕ → Ending → Type 0
ReadingEnds b told before now ending.Whole = IsWholeRecord b told × (now ≡ before)
ReadingEnds b told before now (ending.Unfit step) = IsUnfitRecord b told step × (now ≡ before)
ReadingEnds b told before now (ending.Fault fault) = IsFaultyRecord b told fault × (now ≡ before)
ReadingEnds b told before now ending.Unread = Rose before now

-- why a record has no story: there was no memory, or reading it ended before its end
abbrev pub LacksStory : Bundle → Option (List ℕ) → ℕ → ℕ → Untold → Type 0
LacksStory b told before now untold.NoMemory = Unit {0}
LacksStory b told before now (untold.Ended ended) = (ended ≢ ending.Whole) × ReadingEnds b told before now ended

-- After these items of a file reading ended so.
abbrev pub EndsAfter : Option (List ℕ) → List Item → ℕ → ℕ → Ending → Type 0
EndsAfter told items before now ending.Whole = IfSome told (λ bytes. IsRecord (readable bytes) items) × (now ≡ before)
EndsAfter told items before now (ending.Fault fault) =
    IfSome told (λ bytes. HasFaultAt (readable bytes) items fault) × (now ≡ before)
EndsAfter told items before now ending.Unread = Rose before now
EndsAfter told items before now (ending.Unfit step) = ⊥

-- a file begins with these items, if its bytes are told
abbrev pub BeginsSo : Option (List ℕ) → List Item → Type 0
BeginsSo told items = IfSome told (λ bytes. BeginsWith (readable bytes) items)

-- The record was read once more for a page, or it could not be read, or there was no memory.
abbrev pub TellsDeeds : {A : Type 0} → ℕ → ℕ → Result A Untold → Type 0
TellsDeeds before now (Ok a) = now ≡ before
TellsDeeds before now (Err untold.NoMemory) = Unit {0}
TellsDeeds before now (Err (untold.Ended ending.Unread)) = Rose before now
TellsDeeds before now (Err (untold.Ended _)) = ⊥

-- the page was told
abbrev pub TellsPage :
    Bundle → Option (List ℕ) → List Item → ℕ → ℕ → Story → Result (Unit {0}) Untold → Type 0
TellsPage b told items before now story (Ok done) = Tells b told items story × (now ≡ before)
TellsPage b told items before now story (Err why) = TellsDeeds {A = Unit {0}} before now (Err why)

-- after these items one more was told, or why not
abbrev pub TellsItem :
    Bundle → Option (List ℕ) → List Item → Item → ℕ → ℕ → Story → Result (Unit {0}) Untold → Type 0
TellsItem b told items i before now story (Ok done) = Tells b told (items ++ i ∷ []) story × (now ≡ before)
TellsItem b told items i before now story (Err untold.NoMemory) = Unit {0}
TellsItem b told items i before now story (Err (untold.Ended ending.Unread)) = Rose before now
TellsItem b told items i before now story (Err (untold.Ended (ending.Unfit step))) =
    IsUnfitNext b items i step × (now ≡ before)
TellsItem b told items i before now story (Err (untold.Ended _)) = ⊥

-- The file is a record whose items fit, and this is its story.
pub record HasStory (b : Bundle) (told : Option (List ℕ)) (story : Story) : Type 0 where
  pub items : List Item
  pub file : IfSome told (λ bytes. IsRecord (readable bytes) items)
  pub tells : Tells b told items story

-- only a whole record has a story
abbrev pub TellsStory : Bundle → Option (List ℕ) → ℕ → ℕ → Result Story Untold → Type 0
TellsStory b told before now (Ok story) = HasStory b told story × (now ≡ before)
TellsStory b told before now (Err why) = LacksStory b told before now why

-- the status of a text that is shown, by the output before and after
abbrev pub ShowsStory : {O : Type 0} → List ℕ → Output O → Output O → Status → Type 0
ShowsStory text before after status.Done = Grows before.taken after.taken text × (after.faults ≡ before.faults)
ShowsStory text before after status.WriteFault = Rose before.faults after.faults
ShowsStory text before after status.NoMemory = Unit {0}
ShowsStory text before after _ = ⊥

-- The line of an ending was shown with its status, or the output failed.
abbrev pub ShowsEnding : {O : Type 0} → Ending → Output O → Output O → Status → Type 0
ShowsEnding ended before after answer =
    ((answer ≡ status_of_ending ended) × Grows before.taken after.taken (fault_line ended) × (after.faults ≡ before.faults))
    ⊎ ((answer ≡ status.WriteFault) × Rose before.faults after.faults)

abbrev pub ShowsUntold : {O : Type 0} → Untold → Output O → Output O → Status → Type 0
ShowsUntold untold.NoMemory before after answer = Refuses before after NoMemory answer
ShowsUntold (untold.Ended ended) before after answer = ShowsEnding ended before after answer

-- the file of the bundle has a first fault, if its bytes are told
abbrev pub HasBundleFault : Option (List ℕ) → Type 0
HasBundleFault told = IfSome told (λ bytes. (fault : BundleFault) × (bundle_fault bytes ≡ Some fault))

-- The answers.

-- the last sentence of a record with these items
abbrev pub last_sentence : Bundle → List Item → List ℕ
last_sentence b items =
    summary (noted_in b items).notes (ended_count (told_in b items).ended) (told_in b items).refused

-- The bundle is a file's, and its record is refused: reading ended so, and the line for that was shown.
pub record IsRefusedRecord {S O : Type 0} (bundle_name record_name : List ℕ) (before after : Outside S O) : Type 0 where
  pub bundle : Bundle
  pub file : IsInFile (before.files.held bundle_name) bundle
  pub ended : Ending
  pub status : status_of_ending ended ≡ status.BadRecord
  pub ends : ReadingEnds bundle (before.files.held record_name) before.files.reading after.files.reading ended
  pub line : Grows before.output.taken after.output.taken (fault_line ended)
  pub faults : after.output.faults ≡ before.output.faults

-- The record was explained. Each of its items fits: the kernel alone and each program alone take it, and each program and
-- each step that ends by what was presented has its cause. What was shown is a passage for each violation that the items tell,
-- in their order, and a last sentence: how many steps there are, how many programs ended, and how many resumes were refused;
-- or, if there is no violation, how the run ended.
pub record IsExplained {S O : Type 0} (bundle_name record_name : List ℕ) (before after : Outside S O) : Type 0 where
  pub bundle : Bundle
  pub file : IsInFile (before.files.held bundle_name) bundle
  pub items : List Item
  pub record_file : IfSome (before.files.held record_name) (λ bytes. IsRecord (readable bytes) items)
  pub fits : Fits bundle items
  pub reading : after.files.reading ≡ before.files.reading
  pub passages : List ℕ
  pub told : AreToldBy bundle (before.files.held record_name) (told_in bundle items).violations passages
  pub shown : Grows before.output.taken after.output.taken (passages ++ last_sentence bundle items)
  pub faults : after.output.faults ≡ before.output.faults

-- What each status says of the two files and the output. Only want of memory may stand instead of another.
abbrev pub ExplainAnswers : {S O : Type 0} → List ℕ → List ℕ → Outside S O → Outside S O → Status → Type 0
ExplainAnswers bundle_name record_name before after status.Done = IsExplained bundle_name record_name before after
ExplainAnswers bundle_name record_name before after status.Violation = ⊥
ExplainAnswers bundle_name record_name before after status.Usage = ⊥
ExplainAnswers bundle_name record_name before after status.BadBundle =
    HasBundleFault (before.files.held bundle_name) × (after.output.faults ≡ before.output.faults)
ExplainAnswers bundle_name record_name before after status.ReadFault = Rose before.files.reading after.files.reading
ExplainAnswers bundle_name record_name before after status.WriteFault = Rose before.output.faults after.output.faults
ExplainAnswers bundle_name record_name before after status.NoMemory = Unit {0}
ExplainAnswers bundle_name record_name before after status.NoRandom = ⊥
ExplainAnswers bundle_name record_name before after status.BadRecord =
    IsRefusedRecord bundle_name record_name before after
ExplainAnswers bundle_name record_name before after status.BadStore = ⊥
ExplainAnswers bundle_name record_name before after status.Frozen = ⊥
ExplainAnswers bundle_name record_name before after status.BadState = ⊥
