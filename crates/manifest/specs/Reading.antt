-- What reading the files of a manifest does to the files.
use Rattle.std.specs.Prelude.{ℕ, ◌<◌, ◌≤◌, List, length, Vec, Option, Some, None, Result, Ok, Err}
use Rattle.std.specs.declared.alloc.Global.{Global}
use Rattle.io_traits.specs.Told.{Tells}
use Rattle.command_parts.specs.Outside.{FilesOutside, OnlyRead}
use Rattle.asm_text.specs.Making.{FailsToRead}
use Rattle.manifest.specs.declared.fault.PackError.{PackError}
use Rattle.manifest.specs.declared.fault.PackError.TheVariants.{ReadFault, NoMemory, Faulty}

-- A fault of reading is returned exactly if a call failed.
abbrev pub ReadsParts : {S A : Type 0} → FilesOutside S → FilesOutside S → Result A PackError → Type 0
ReadsParts before after (Ok x) = OnlyRead before after
ReadsParts before after (Err ReadFault) = FailsToRead before after
ReadsParts before after (Err fault) = OnlyRead before after

-- no fault of a manifest
abbrev pub IsNoFault : PackError → Type 0
IsNoFault (Faulty fault) = ⊥
IsNoFault error = Unit {0}

-- no fault of reading
abbrev pub IsNoReadFault : PackError → Type 0
IsNoReadFault ReadFault = ⊥
IsNoReadFault error = Unit {0}

-- want of memory
abbrev pub IsWant : PackError → Type 0
IsWant NoMemory = Unit {0}
IsWant error = ⊥

-- all bytes of a file, or none of one with more than `limit`
abbrev pub IsWhole : Option (List ℕ) → (limit : ℕ) → Option (Vec ℕ Global) → Type 0
IsWhole told limit None = (bytes : List ℕ) × Tells told bytes × (limit < length bytes)
IsWhole told limit (Some v) = Tells told v.items × (length v.items ≤ limit)
