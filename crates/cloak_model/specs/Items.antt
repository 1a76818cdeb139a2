-- An item of the record, as the definitions speak of it. The code's item lends its page (`src/item.rt`).
use Rattle.std.specs.Prelude.{ℕ, List}
use Rattle.cloak_base.specs.declared.causes.Shown.{Shown}
use Rattle.cloak_model.specs.declared.item.Item as code
use Rattle.cloak_model.specs.declared.item.Item.TheVariants as made

pub data Item : Type 0 where
  Cipher : (frame : ℕ) (bytes : List ℕ) → Item
  Put : (address width value : ℕ) → Item
  Leave : (s : Shown) → Item
  Step : (number : ℕ) → Item
  Close : (steps : ℕ) → Item
  End : Item
  Ok : (domain : ℕ) → Item
  Absent : (domain cause : ℕ) → Item
  Word : (domain value : ℕ) → Item
  Timer : (domain : ℕ) → Item
  Resume : (domain ctx answer : ℕ) → Item
  Stopped : (domain : ℕ) → Item
  Ended : (domain : ℕ) → Item

-- the item that an item of the code stands for: of a Cipher the page that is lent
abbrev pub item_of : code.Item → Item
item_of (made.Cipher frame bytes) = Cipher frame bytes.now
item_of (made.Put address width value) = Put address width value
item_of (made.Leave s) = Leave s
item_of (made.Step number) = Step number
item_of (made.Close steps) = Close steps
item_of made.End = End
item_of (made.Ok domain) = Ok domain
item_of (made.Absent domain cause) = Absent domain cause
item_of (made.Word domain value) = Word domain value
item_of (made.Timer domain) = Timer domain
item_of (made.Resume domain ctx answer) = Resume domain ctx answer
item_of (made.Stopped domain) = Stopped domain
item_of (made.Ended domain) = Ended domain
