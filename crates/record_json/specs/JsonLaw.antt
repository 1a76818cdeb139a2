-- Each line is an object of JSON.
use Rattle.std.specs.Prelude.{ℕ, ◌≡◌, ◌<◌, ◌^◌, List, Some, ◌++◌, codes}
use Rattle.json.specs.Json as json
use Rattle.serde_json.specs.Written.{outline}
use Rattle.cloak_model.specs.Items.{Item}
use Rattle.cloak_model.specs.Items as item
use Rattle.cloak_model.specs.Record.{IsItem, IsWord}
use Rattle.record_text.specs.declared.place.RecordPlace.{RecordPlace}
use Rattle.record_text.specs.declared.place.RecordPlace.TheVariants as place
use Rattle.record_json.specs.JsonText.{item_line}
use Rattle.record_json.specs.Members.{Member, object_of}
use Rattle.record_json.specs.Objects.{placed_members}

-- A line is a text and a line feed, and in the text JSON is read: an object with these members, in this order.
pub record IsObjectLine (whole : List ℕ) (ms : List Member) : Type 0 where
  pub text : List ℕ
  pub line : whole ≡ text ++ codes "\n"
  pub reads : json.document text ≡ Some (outline (object_of ms))

-- the program that an item names
abbrev pub program_of : Item → ℕ
program_of (item.Ok domain) = domain
program_of (item.Absent domain cause) = domain
program_of (item.Word domain value) = domain
program_of (item.Timer domain) = domain
program_of (item.Resume domain ctx answer) = domain
program_of (item.Stopped domain) = domain
program_of (item.Ended domain) = domain
program_of other = 0

-- the fields have as many bytes as in a record
pub record HasFields (i : Item) : Type 0 where
  pub words : IsItem i
  pub program : program_of i < 256

abbrev pub HasNumber : RecordPlace → Type 0
HasNumber place.Opening = Unit {0}
HasNumber (place.Step number) = IsWord number
HasNumber (place.Closing steps) = IsWord steps
HasNumber place.End = Unit {0}

-- The line of each item is its object.
abbrev pub AreObjectLines : Type 0
AreObjectLines = (p : RecordPlace) (i : Item) → HasNumber p → HasFields i → IsObjectLine (item_line p i) (placed_members p i)
