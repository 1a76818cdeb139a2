-- The first fault of a manifest, and what the files that it names say of it.
use Rattle.std.specs.Prelude.{ℕ, ◌≡◌, List, Option, Some, None, string_bytes, Result, Ok, Err}
use Rattle.asm_text.specs.declared.fault.TextFault.{TextFault}
use Rattle.toml.specs.Data.{Data, as_table}
use Rattle.manifest.specs.declared.key.Key.{Key}
use Rattle.manifest.specs.declared.key.ManifestTable.{ManifestTable}
use Rattle.manifest.specs.declared.fault.FaultyKey.{FaultyKey}
use Rattle.manifest.specs.declared.fault.PackFault.{PackFault}
use Rattle.manifest.specs.declared.fault.PackFault.TheVariants as code
use Rattle.manifest.specs.declared.fault.PackError.{PackError}
use Rattle.manifest.specs.declared.fault.PackError.TheVariants.{ReadFault, NoMemory, Faulty}
use Rattle.manifest.specs.Fields.{other_key}

-- a fault of a manifest
pub data Fault : Type 0 where
  too_long : Fault
  no_bytes : Fault
  not_text : Fault
  no_toml : (words : List ℕ) → Fault
  at_key : FaultyKey → Fault
  unknown_key : ManifestTable → (name : List ℕ) → Fault
  faulty_text : ManifestTable → (path text : List ℕ) → TextFault → Fault

abbrev pub fault_of : PackFault → Fault
fault_of code.TooLong = too_long
fault_of code.NoBytes = no_bytes
fault_of code.NotText = not_text
fault_of (code.NotToml words) = no_toml (string_bytes words)
fault_of (code.AtKey fault) = at_key fault
fault_of (code.UnknownKey part name) = unknown_key part (string_bytes name)
fault_of (code.FaultyText part name text fault) = faulty_text part (string_bytes name) (string_bytes text) fault

-- what keys say, with the fault as one of the manifest
abbrev pub by_keys : {A : Type 0} → Result A FaultyKey → Result A Fault
by_keys (Ok x) = Ok x
by_keys (Err fault) = Err (at_key fault)

abbrev pub no_other_key : ManifestTable → Option (List ℕ) → Result (Unit {0}) Fault
no_other_key part None = Ok tt
no_other_key part (Some name) = Err (unknown_key part name)

-- a table has no keys but these
unfoldable pub only_keys : ManifestTable → List Key → Data → Result (Unit {0}) Fault
only_keys part keys from = no_other_key part (other_key keys (as_table from))

-- What is read depends on files. So it is a relation: `Reads r` says that files as they are told can say `r`.

-- if there is no fault yet, what is read after it
abbrev pub After : {A B : Type 0} → Result A Fault → (A → Result B Fault → Type 0) → Result B Fault → Type 0
After (Ok x) Rest r = Rest x r
After (Err fault) Rest r = r ≡ Err fault

-- one, and then another; the first fault is the fault of both
abbrev pub Then : {A B : Type 0} → (Result A Fault → Type 0) → (A → Result B Fault → Type 0) → Result B Fault → Type 0
Then {A} First Rest r = (first : Result A Fault) × First first × After first Rest r

-- What a function returned, seen by view, is what is read; unless a file could not be read, or memory ran out.
abbrev pub ReturnsRead : {X A : Type 0} → (X → A) → (Result A Fault → Type 0) → Result X PackError → Type 0
ReturnsRead view Reads (Ok x) = Reads (Ok (view x))
ReturnsRead view Reads (Err ReadFault) = Unit {0}
ReturnsRead view Reads (Err NoMemory) = Unit {0}
ReturnsRead view Reads (Err (Faulty fault)) = Reads (Err (fault_of fault))
