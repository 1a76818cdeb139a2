-- What spells a table has no fault, and bytes without a fault spell one.
use Rattle.std.proofs.Common.{ℕ, List}
use Rattle.cloak_model.specs.Fields.{number}
use Rattle.cloak_model.specs.StoreFault.{body_of}
use Rattle.sealed_store.specs.Laws.{HasFaultOrTable}
use Rattle.sealed_store.specs.Reading.{files_in}
use Rattle.sealed_store.proofs.Sealed.{spells}
use Rattle.sealed_store.proofs.Again.{no_fault}

pub has_fault_or_table : (mac : List ℕ) (counter : ℕ) (bytes : List ℕ) → HasFaultOrTable mac counter bytes
has_fault_or_table mac counter bytes = record {
  right = no_fault mac counter bytes;
  spelled = λ are none.
      (files_in (body_of bytes) (number (body_of bytes) 16) 20, spells mac counter bytes are none);
}
