-- A file is one record, or has one first fault, and never both.
use Rattle.std.specs.Prelude.{◌≡◌, ℕ, ◌<◌, ◌⊎◌, List, slice_index}
use Rattle.cloak_model.specs.Items.{Item}
use Rattle.cloak_model.specs.Record.{IsRecord}
use Rattle.cloak_model.specs.declared.fault.RecordFault.{RecordFault}
use Rattle.cloak_model.specs.RecordFault.{HasFault}

abbrev pub OneRecord : Type 0
OneRecord = (file : List ℕ) (a b : List Item) → IsRecord file a → IsRecord file b → a ≡ b

abbrev pub OneFault : Type 0
OneFault = (file : List ℕ) (a b : RecordFault) → HasFault file a → HasFault file b → a ≡ b

abbrev pub NeverBoth : Type 0
NeverBoth = (file : List ℕ) (items : List Item) (fault : RecordFault) → IsRecord file items → HasFault file fault → ⊥

-- of bytes
abbrev pub RecordOrFault : Type 0
RecordOrFault =
    (file : List ℕ) → ((i : ℕ) → slice_index file i < 256) →
    ((items : List Item) × IsRecord file items) ⊎ ((fault : RecordFault) × HasFault file fault)
