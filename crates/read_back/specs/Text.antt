-- What `view` and `solo` show of a record.
use Rattle.std.specs.Prelude.{ℕ, List, [], ◌++◌, codes, Option, Some, None}
use Rattle.cloak_model.specs.declared.fault.RecordFault.{RecordFault}
use Rattle.cloak_model.specs.declared.fault.RecordFault.TheVariants as fault
use Rattle.cloak_model.specs.Parts.{KernelPart, DomainPart}
use Rattle.cloak_model.specs.Report.{kernel_lines}
use Rattle.cloak_model.specs.DomainState.{domain_line}
use Rattle.command_parts.specs.Refusal.{numbered_line}
use Rattle.read_back.specs.declared.ending.Ending.{Ending}
use Rattle.read_back.specs.declared.ending.Ending.TheVariants as ending

-- the line of a file's first fault
abbrev pub record_line : RecordFault → List ℕ
record_line (fault.Short at) = numbered_line (codes "record: short at ") at
record_line fault.BadMagic = codes "record: magic\n"
record_line (fault.BadTag at) = numbered_line (codes "record: tag at ") at
record_line (fault.StepOrder at) = numbered_line (codes "record: order at ") at
record_line (fault.Extra at) = numbered_line (codes "record: extra at ") at

-- the line that says why a record was not read to its end; none if it was
abbrev pub fault_line : Ending → List ℕ
fault_line ending.Whole = []
fault_line (ending.Unfit step) = numbered_line (codes "record: unfit at step ") step
fault_line (ending.Fault fault) = record_line fault
fault_line ending.Unread = codes "read fault\n"

-- these lines if a record was read to its end, otherwise the line that says why it was not
abbrev pub lines_or_fault : List ℕ → Ending → List ℕ
lines_or_fault lines ending.Whole = lines
lines_or_fault lines (ending.Unfit step) = fault_line (ending.Unfit step)
lines_or_fault lines (ending.Fault fault) = fault_line (ending.Fault fault)
lines_or_fault lines ending.Unread = fault_line ending.Unread

-- `view`: the console as it comes; at the end the rest of its line, and the kernel's lines.
abbrev pub view_text : KernelPart → Option Ending → List ℕ
view_text k None = k.console
view_text k (Some ended) = k.console ++ (codes "\n" ++ lines_or_fault (kernel_lines k) ended)

-- `solo`: at the end the program's line.
abbrev pub solo_text : DomainPart → Option Ending → List ℕ
solo_text p None = []
solo_text p (Some ended) = lines_or_fault (domain_line p.domain) ended
