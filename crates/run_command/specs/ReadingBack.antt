-- A record reads back: its bytes are the record of the items of the run and of no others, and have no fault; the kernel
-- alone and each program alone, with its files of the beginning, find none of the items unfit, however far they are
-- read, and given all of them end with the parts that the run ended with, of which the report gives the lines.
use Rattle.std.specs.Prelude.{ℕ, ◌≡◌, List, ◌++◌, slice_get, Some, None}
use Rattle.cloak_model.specs.declared.fault.RecordFault.{RecordFault}
use Rattle.cloak_model.specs.declared.image.Bundle.{Bundle}
use Rattle.cloak_model.specs.declared.image.Program.{Program}
use Rattle.cloak_model.specs.Items.{Item}
use Rattle.cloak_model.specs.Beginning.{Beginning}
use Rattle.cloak_model.specs.DomainAlone.{domain_alone_from, part_from}
use Rattle.cloak_model.specs.KernelAlone.{kernel_alone}
use Rattle.cloak_model.specs.Parts.{kernel_part, domain_part}
use Rattle.cloak_model.specs.Record.{IsRecord}
use Rattle.cloak_model.specs.RecordFault.{HasFault}
use Rattle.cloak_model.specs.Run.{Run, exchange, record_bytes}
use Rattle.domain_isolation.specs.Isolation.{HasDomain}
use Rattle.kernel_isolation.specs.Isolation.{HasKernel}

-- The machines that run alone end as a run did, given all its items: its console and the kernel's lines of its
-- report, and the line of each program.
pub record ComesToEnds (b : Bundle) (from : Beginning) (r : Run) : Type 0 where
  pub kernel : HasKernel (kernel_alone b.kernel (exchange r)) (kernel_part r.closed.joint)
  pub programs : (d : ℕ) (p : Program) → slice_get b.programs d ≡ Some p →
      HasDomain (domain_alone_from d b.kernel.schedule (part_from d from p) (exchange r)) (domain_part r.closed.joint d)

-- none of these items was unfit for them
pub record FitsAlone (b : Bundle) (from : Beginning) (items : List Item) : Type 0 where
  pub kernel : (kernel_alone b.kernel items).unfit ≡ None
  pub programs : (d : ℕ) (p : Program) → slice_get b.programs d ≡ Some p →
      (domain_alone_from d b.kernel.schedule (part_from d from p) items).unfit ≡ None

pub record ReadsBack (b : Bundle) (from : Beginning) (r : Run) : Type 0 where
  pub is_record : IsRecord (record_bytes r) (exchange r)
  pub no_other : (items : List Item) → IsRecord (record_bytes r) items → items ≡ exchange r
  pub no_fault : (fault : RecordFault) → HasFault (record_bytes r) fault → ⊥
  pub fits : (front more : List Item) → front ++ more ≡ exchange r → FitsAlone b from front
  pub ends : ComesToEnds b from r
