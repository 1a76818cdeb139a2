-- How far the items of a record are read.
use Rattle.std.specs.Prelude.{ℕ, ◌≡◌, ◌<◌, ◌^◌, List, ◌∷◌, [], ◌++◌, length, Option, Some, None, IfSome, Result, Ok, Err}
use Rattle.cloak_model.specs.declared.item.Item as code
use Rattle.cloak_model.specs.Items.{Item, item_of}
use Rattle.cloak_model.specs.Record.{IsRecord}
use Rattle.record_reader.specs.Ahead.{readable}
use Rattle.record_reader.specs.Reading.{HasFaultAt, IsBehind}
use Rattle.record_reader.specs.declared.reader.Reader.{Reader}
use Rattle.read_back.specs.Reading.{IsReadTo, ReadsAs, never_unfit}
use Rattle.read_back.specs.declared.ending.Ending.{Ending}
use Rattle.read_back.specs.declared.ending.Ending.TheVariants as ending

-- a reader stands after these items of a file, if its bytes are told
abbrev pub StandsAt : Option (List ℕ) → Reader → List Item → Type 0
StandsAt told reader items = IfSome told (λ bytes. IsBehind reader (readable bytes) items)

-- what was found after these items of a file
abbrev pub Finds : Option (List ℕ) → Reader → List Item → Result Item Ending → Type 0
Finds told now items (Ok i) = StandsAt told now (items ++ i ∷ [])
Finds told now items (Err ending.Whole) = IfSome told (λ bytes. IsRecord (readable bytes) items)
Finds told now items (Err (ending.Fault fault)) = IfSome told (λ bytes. HasFaultAt (readable bytes) items fault)
Finds told now items (Err (ending.Unfit step)) = ⊥
Finds told now items (Err ending.Unread) = Unit {0}

-- what was found, as the definitions speak of it
abbrev pub found_item : Result code.Item Ending → Result Item Ending
found_item (Ok i) = Ok (item_of i)
found_item (Err ended) = Err ended

-- what finding did to the count of reading faults
abbrev pub CountsFound : {A : Type 0} → ℕ → ℕ → Result A Ending → Type 0
CountsFound before now (Ok a) = now ≡ before
CountsFound before now (Err ended) = ReadsAs before now (Some ended)

-- how reading ended, if the taker did not stop before
abbrev pub ended_by : {X : Type 0} → Result Ending X → Option Ending
ended_by (Ok ended) = Some ended
ended_by (Err stop) = None

-- what the taker returned of the last item
abbrev pub last_answer : {X : Type 0} → Result Ending X → Result (Unit {0}) X
last_answer (Ok ended) = Ok tt
last_answer (Err stop) = Err stop

-- Items were read and taken, up to where reading ended or their taker stopped.
pub record ReadsItems {X : Type 0} (took : List Item → Result (Unit {0}) X → Type 0) (told : Option (List ℕ))
    (reading reads : ℕ) (result : Result Ending X) : Type 0 where
  pub items : List Item
  pub read : IsReadTo never_unfit told reading reads items (ended_by result)
  pub taken : took items (last_answer result)
  -- so they can be counted
  pub few : length items < 2 ^ 64
