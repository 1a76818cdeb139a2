-- What a function of the crate returned.
use Rattle.std.specs.Prelude.{Option, Some, None, Result, Ok, Err}
use Rattle.elf_image.specs.declared.fault.ElfFault.{ElfFault}

-- the fault that was returned, if there was one
abbrev pub fault_of : {A : Type 0} → Result A ElfFault → Option ElfFault
fault_of (Ok x) = None
fault_of (Err fault) = Some fault
