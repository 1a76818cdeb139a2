-- Reading a file's items one after another: those of its record, or those before its first fault.
use mathlib.Core.Logic.{inl, inr}
use Rattle.std.specs.Prelude.{◌≡◌, ℕ, List, [], ◌∷◌, ◌++◌, Option, Some, None, Result, Ok, Err}
use Rattle.cloak_model.specs.Items.{Item}
use Rattle.cloak_model.specs.declared.fault.RecordFault.{RecordFault}
use Rattle.cloak_model.specs.Record.{IsRecord}
use Rattle.cloak_model.specs.RecordFault.{HasFault}
use Rattle.record_reader.specs.declared.fault.NextFault.{NextFault}
use Rattle.record_reader.specs.declared.fault.NextFault.TheVariants.{Read, Record}
use Rattle.record_reader.specs.declared.reader.Reader.{Reader}
use Rattle.record_reader.specs.Reading.{IsBehind, ReadsNext}

-- the items read so far are the first of these
abbrev pub AreFirst : List Item → List Item → Type 0
AreFirst front items = (more : List Item) × (front ++ more ≡ items)

-- After the first of a record's items the next one is read, and none exactly after the last.
abbrev pub GivesItems : List Item → List Item → Result (Option Item) NextFault → Type 0
GivesItems items front (Ok (Some i)) = AreFirst (front ++ i ∷ []) items
GivesItems items front (Ok None) = front ≡ items
GivesItems items front (Err Read) = Unit {0}
GivesItems items front (Err (Record fault)) = ⊥

-- A reader of a record stands after the first of its items, and reads the next.
abbrev pub RecordIsRead : Type 0
RecordIsRead =
    (file : List ℕ) (items front : List Item) (old new : Reader) (result : Result (Option Item) NextFault) →
    IsRecord file items → IsBehind old file front → ReadsNext file front new result →
    AreFirst front items × GivesItems items front result

-- the items that a file has before its first fault
abbrev pub items_before : {file : List ℕ} {fault : RecordFault} → HasFault file fault → List Item
items_before (inl magic) = []
items_before (inr wrong) = wrong.front

-- After the first of the items before a fault the next one is read, and exactly the fault after the last.
abbrev pub GivesFault : List Item → RecordFault → List Item → Result (Option Item) NextFault → Type 0
GivesFault items fault front (Ok (Some i)) = AreFirst (front ++ i ∷ []) items
GivesFault items fault front (Ok None) = ⊥
GivesFault items fault front (Err Read) = Unit {0}
GivesFault items fault front (Err (Record first)) = (first ≡ fault) × (front ≡ items)

-- A reader of a file with a fault stands after the first of the items before it, and reads the next, or the fault.
abbrev pub FaultIsRead : Type 0
FaultIsRead =
    (file : List ℕ) (fault : RecordFault) (front : List Item) (old new : Reader) →
    (result : Result (Option Item) NextFault) → (has : HasFault file fault) →
    IsBehind old file front → ReadsNext file front new result →
    AreFirst front (items_before has) × GivesFault (items_before has) fault front result
