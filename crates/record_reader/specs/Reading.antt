-- What a reader returns, and where it then stands.
use Rattle.std.specs.Prelude.{◌≡◌, ℕ, ◌⊎◌, List, [], ◌∷◌, ◌++◌, length, drop, Option, Some, None, Result, Ok, Err}
use Rattle.io_traits.specs.Told.{Rose}
use Rattle.cloak_model.specs.declared.item.Item as code
use Rattle.cloak_model.specs.Items.{Item, item_of}
use Rattle.cloak_model.specs.declared.record.Stage.{Stage}
use Rattle.cloak_model.specs.declared.record.Stage.TheVariants.{Opening}
use Rattle.cloak_model.specs.declared.record.Tag.{Tag}
use Rattle.cloak_model.specs.declared.record.Wrong.{Wrong}
use Rattle.cloak_model.specs.declared.fault.RecordFault.{RecordFault}
use Rattle.cloak_model.specs.Exchange.{record_of}
use Rattle.cloak_model.specs.Record.{IsRecord}
use Rattle.cloak_model.specs.RecordFault.{stage_behind, wrong_behind, magic_fault, Begins, IsWrong}
use Rattle.record_reader.specs.declared.fault.NextFault.{NextFault}
use Rattle.record_reader.specs.declared.fault.NextFault.TheVariants.{Read, Record}
use Rattle.record_reader.specs.declared.reader.Reader.{Reader}
use Rattle.record_reader.specs.Ahead.{IsAhead, front_tag}

-- The reader stands at the front of a file, of which it knows nothing, or after these items.
pub record StandsBehind (at : ℕ) (stage : Stage) (bytes : List ℕ) (front : List Item) : Type 0 where
  pub place : ((at ≡ 0) × (front ≡ [])) ⊎ ((at ≡ length (record_of front)) × Begins bytes front (drop at bytes))
  pub stage_is : stage ≡ stage_behind Opening front

-- The file's fault is right after these items: its magic is missing, or something is wrong there.
abbrev pub HasFaultAt : List ℕ → List Item → RecordFault → Type 0
HasFaultAt bytes front fault =
    ((front ≡ []) × (magic_fault bytes ≡ Some fault)) ⊎ ((wrong : IsWrong bytes fault) × (wrong.front ≡ front))

-- the offset of the next item in the file; 0 before the magic is read
abbrev pub reader_offset : Reader → ℕ
reader_offset reader = reader.at

-- it stands after these items of a file, of which it may have read more ahead
abbrev pub IsBehind : Reader → List ℕ → List Item → Type 0
IsBehind reader file front = StandsBehind reader.at reader.stage file front × IsAhead reader.ahead file

-- what was read, as the definitions speak of it
abbrev pub item_read : Result (Option code.Item) NextFault → Result (Option Item) NextFault
item_read (Ok (Some i)) = Ok (Some (item_of i))
item_read (Ok None) = Ok None
item_read (Err fault) = Err fault

abbrev pub read_so_far : List Item → Result (Option Item) NextFault → List Item
read_so_far front (Ok (Some i)) = front ++ i ∷ []
read_so_far front (Ok None) = front
read_so_far front (Err fault) = front

-- there is no item exactly after End at the file's end; a fault is the file's, right after the items so far
abbrev pub IsAnswer : List ℕ → List Item → Result (Option Item) NextFault → Type 0
IsAnswer file front (Ok (Some i)) = Unit {0}
IsAnswer file front (Ok None) = IsRecord file front
IsAnswer file front (Err Read) = Unit {0}
IsAnswer file front (Err (Record fault)) = HasFaultAt file front fault

-- What is read after these items of a file: an item is the next one, and the reader then stands after it too.
pub record ReadsNext (file : List ℕ) (front : List Item) (reader : Reader) (result : Result (Option Item) NextFault) :
    Type 0 where
  pub behind : IsBehind reader file (read_so_far front result)
  pub answer : IsAnswer file front result

-- the reader stands where it stood
pub record SamePlace (old new : Reader) : Type 0 where
  pub at : new.at ≡ old.at
  pub stage : new.stage ≡ old.stage

-- the count of reading faults rises exactly if a fault of reading is returned
abbrev pub ReadsCount : {A : Type 0} → ℕ → ℕ → Result A NextFault → Type 0
ReadsCount before now (Ok a) = now ≡ before
ReadsCount before now (Err Read) = Rose before now
ReadsCount before now (Err (Record fault)) = now ≡ before

-- one of the two counts of faults, of reading and of writing, rises exactly if a fault of reading is returned
abbrev pub ReadsCounts : {A : Type 0} → ℕ → ℕ → ℕ → ℕ → Result A NextFault → Type 0
ReadsCounts reading reads writing writes (Ok a) = (reads ≡ reading) × (writes ≡ writing)
ReadsCounts reading reads writing writes (Err Read) =
    (Rose reading reads × (writes ≡ writing)) ⊎ (Rose writing writes × (reads ≡ reading))
ReadsCounts reading reads writing writes (Err (Record fault)) = (reads ≡ reading) × (writes ≡ writing)

unfoldable pub judged_by : Option Wrong → Option Tag → Result (Option Tag) Wrong
judged_by (Some wrong) found = Err wrong
judged_by None found = Ok found

-- what stands at the front of some bytes after a stage: what is wrong there, or the tag of an item, or nothing at the
-- end of a record
abbrev pub judged : Stage → List ℕ → Result (Option Tag) Wrong
judged stage bytes = judged_by (wrong_behind stage bytes) (front_tag bytes)

-- the magic stands there, or the fault is that of its absence
abbrev pub TellsMagic : List ℕ → Result (Unit {0}) NextFault → Type 0
TellsMagic file (Ok done) = magic_fault file ≡ None
TellsMagic file (Err Read) = Unit {0}
TellsMagic file (Err (Record fault)) = magic_fault file ≡ Some fault

-- the items begin after the magic, which is read only at the file's front
abbrev pub TellsStart : List ℕ → ℕ → Result ℕ NextFault → Type 0
TellsStart file at (Ok from) =
    (at ≡ 0 → (from ≡ 8) × (magic_fault file ≡ None)) × ((at ≡ 0 → ⊥) → from ≡ at)
TellsStart file at (Err Read) = Unit {0}
TellsStart file at (Err (Record fault)) = (at ≡ 0) × (magic_fault file ≡ Some fault)
