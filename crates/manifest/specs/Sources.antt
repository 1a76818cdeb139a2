-- The bytes that a table names, and the tables of a list in turn.
use Rattle.std.specs.Prelude.{ℕ, ◌≡◌, ◌≢◌, ◌+◌, ◌⊎◌, ◌==◌, Bool, true, false, List, [], ◌∷◌, ◌++◌, slice_index, Option, Some, None, Result, Ok, Err}
use Rattle.std.specs.Str.{IsUtf8, NoCharPasses}
use Rattle.io_traits.specs.Told.{Tells}
use Rattle.rv_asm.specs.declared.fault.AsmFault.TheVariants as asm
use Rattle.asm_text.specs.declared.fault.TextFault.{TextFault}
use Rattle.asm_text.specs.declared.fault.TextFault.TheVariants as text_fault
use Rattle.asm_text.specs.Assembling.{IsAssembled, FailsToAssemble}
use Rattle.toml.specs.Data.{Data, as_str, Items, no_items, item}
use Rattle.manifest.specs.declared.key.Key.{Key}
use Rattle.manifest.specs.declared.key.Key.TheVariants.{Bytes, Text, Elf}
use Rattle.manifest.specs.declared.key.ManifestTable.{ManifestTable}
use Rattle.manifest.specs.declared.fault.FaultyKey.{FaultyKey}
use Rattle.manifest.specs.declared.fault.KeyFault.TheVariants.{NoName, NoSource, TwoSources}
use Rattle.manifest.specs.Fields.{alone_at, or_fault, wrong_at, name_at}
use Rattle.manifest.specs.Parts.{file_bytes}
use Rattle.manifest.specs.Faults.{Fault, at_key, faulty_text, by_keys, only_keys, After, Then}

-- ---- the names of files

abbrev pub HasNoSlash : List ℕ → Type 0
HasNoSlash text = NoCharPasses (λ c. c == 47) text

-- A file is named from the manifest's folder on, unless its name begins with a slash.
abbrev pub IsBeside : (manifest name path : List ℕ) → Type 0
IsBeside manifest name path =
    (HasNoSlash manifest × (path ≡ name))
    ⊎ ((folder : List ℕ) × (last : List ℕ) × (manifest ≡ folder ++ 47 ∷ last) × HasNoSlash last
    × (path ≡ folder ++ 47 ∷ name))

abbrev pub IsPathBy : (from_root : Bool) → (manifest name path : List ℕ) → Type 0
IsPathBy true manifest name path = path ≡ name
IsPathBy false manifest name path = IsBeside manifest name path

abbrev pub IsPath : (manifest name path : List ℕ) → Type 0
IsPath manifest name path = IsPathBy (slice_index name 0 == 47) manifest name path

-- ---- the words of a text

-- The assembler text at a path has this first fault. It is shown with the text, or without one if there is no text.
pub record IsFaultyText (at : ManifestTable) (path text : List ℕ) (fault : Fault) : Type 0 where
  pub words : TextFault
  pub shown : List ℕ
  pub is : fault ≡ faulty_text at path shown words
  pub is_shown : IsUtf8 text → shown ≡ text
  pub cause : FailsToAssemble text words
  pub is_no_want : words ≢ text_fault.Faulty asm.NoMemory

-- the bytes of the words, or the first fault
unfoldable pub TextReads : ManifestTable → (path text : List ℕ) → Result (List ℕ) Fault → Type 0
TextReads at path text (Ok bytes) = IsAssembled text bytes
TextReads at path text (Err fault) = IsFaultyText at path text fault

-- ---- the bytes of a table

-- the bytes of a file that a key names
pub record IsFileAt (at : ManifestTable) (key : Key) (told : Option (List ℕ)) (r : Result (List ℕ) Fault) : Type 0 where
  pub bytes : List ℕ
  pub tells : Tells told bytes
  pub is : r ≡ by_keys (file_bytes at key bytes)

-- what is read at the path of a name
pub record AtPath (manifest name : List ℕ) (Reads : List ℕ → Result (List ℕ) Fault → Type 0) (r : Result (List ℕ) Fault)
    : Type 0 where
  pub path : List ℕ
  pub is_path : IsPath manifest name path
  pub reads : Reads path r

-- `held` are the files, as far as they are told, and `manifest` is the manifest's name.
module _ (held : List ℕ → Option (List ℕ)) (manifest : List ℕ) where
  -- a file of bytes, or an assembler text; one of both
  unfoldable pub NamedReads : ManifestTable → (flat written : Option (List ℕ)) → Result (List ℕ) Fault → Type 0
  NamedReads at (Some name) None r = AtPath manifest name (λ path. IsFileAt at Bytes (held path)) r
  NamedReads at None (Some name) r = AtPath manifest name (λ path. Then (IsFileAt at Text (held path)) (TextReads at path)) r
  NamedReads at None None r = r ≡ Err (at_key (wrong_at at Bytes NoSource))
  NamedReads at (Some flat) (Some written) r = r ≡ Err (at_key (wrong_at at Bytes TwoSources))

  -- the bytes that a table names
  unfoldable pub SourceReads : ManifestTable → Data → Result (List ℕ) Fault → Type 0
  SourceReads at from r =
      After (by_keys (name_at at from Bytes)) (λ flat. After (by_keys (name_at at from Text)) (NamedReads at flat)) r

  -- the ELF file that a table names by this value; none of these keys stands beside it
  unfoldable pub ElfReads : ManifestTable → (others : List Key) → Data → (value : Data) → Result (List ℕ) Fault → Type 0
  ElfReads at others from value r =
      After (by_keys (alone_at at from others)) (λ _.
      After (by_keys (or_fault (as_str value) (wrong_at at Elf NoName))) (λ name.
      AtPath manifest name (λ path. IsFileAt at Elf (held path)))) r

  -- A table has no keys but these. It names bytes, and they mean something with its other keys.
  unfoldable pub TableReads : {A : Type 0} → ManifestTable → List Key → (List ℕ → Result A FaultyKey) → Data → Result A Fault → Type 0
  TableReads at keys meaning from r =
      After (only_keys at keys from) (λ _. Then (SourceReads at from) (λ bytes r. r ≡ by_keys (meaning bytes))) r

-- ---- lists of tables

-- The tables of a list, numbered from a number on. Each in its turn goes on with what those before it made.
unfoldable pub InTurn : {A : Type 0} → (ℕ → Data → A → Result A Fault → Type 0) → ℕ → Items → A → Result A Fault → Type 0
InTurn Reads number no_items so_far r = r ≡ Ok so_far
InTurn Reads number (item first tables) so_far r =
    Then (Reads number first so_far) (InTurn Reads (number + 1) tables) r

-- what each table of a list means, in a list
abbrev pub Listing : {A : Type 0} → (ℕ → Data → Result A Fault → Type 0) → ℕ → Data → List A → Result (List A) Fault → Type 0
Listing Reads number from so_far r = Then (Reads number from) (λ x r. r ≡ Ok (so_far ++ x ∷ [])) r

abbrev pub EachReads : {A : Type 0} → (ℕ → Data → Result A Fault → Type 0) → Items → Result (List A) Fault → Type 0
EachReads Reads tables r = InTurn (Listing Reads) 1 tables [] r
