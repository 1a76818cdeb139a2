-- Rows of store files: a vector of the code, what a table spells, and first faults.
use Rattle.std.specs.Prelude.{◌≡◌, ℕ, List, [], ◌∷◌, ◌++◌, codes, replicate, take, slice_set, Some, None}
use Rattle.cloak_base.specs.declared.names.Meta.{Meta}
use Rattle.cloak_model.specs.declared.fault.StoreFault.TheVariants.{Short, BadMagic, Seal, Counter}
use Rattle.cloak_model.specs.Hmac.{hmac}
use Rattle.cloak_model.specs.StoredFiles.{StoredFile, store_bytes, table_bytes}
use Rattle.cloak_model.specs.StoreFault.{store_fault}

-- The code of a text under the key `Jefe`: RFC 4231, test case 2.
abbrev pub vector : List ℕ
vector =
    0x5b ∷ 0xdc ∷ 0xc1 ∷ 0x46 ∷ 0xbf ∷ 0x60 ∷ 0x75 ∷ 0x4e ∷ 0x6a ∷ 0x04 ∷ 0x24 ∷ 0x26 ∷ 0x08 ∷ 0x95 ∷ 0x75 ∷ 0xc7 ∷
    0x5a ∷ 0x00 ∷ 0x3f ∷ 0x08 ∷ 0x9d ∷ 0x27 ∷ 0x39 ∷ 0x83 ∷ 0x9d ∷ 0xec ∷ 0x58 ∷ 0xb9 ∷ 0x64 ∷ 0xec ∷ 0x38 ∷ 0x43 ∷ []

abbrev pub IsVector : Type 0
IsVector = hmac (codes "Jefe") (codes "what do ya want for nothing?") ≡ vector

-- What is spelled before the code.

-- of a page that was shown
abbrev pub known : Meta
known = record { iv = replicate 16 5; digest = replicate 32 6 }

-- file 7 of domain 2, whose second page was shown
abbrev pub one_file : List StoredFile
one_file = record { domain = 2; number = 7; pages = None ∷ Some known ∷ [] } ∷ []

-- magic and counter 1
abbrev pub front : List ℕ
front = codes "CLOAKSTO" ++ (1 ∷ replicate 7 0)

pub record SpelledTables : Type 0 where
  pub none : table_bytes 1 [] ≡ front ++ replicate 4 0
  pub one : table_bytes 1 one_file ≡ front ++
      (1 ∷ 0 ∷ 0 ∷ 0 ∷ 2 ∷ 0 ∷ 0 ∷ 0 ∷ 7 ∷ 0 ∷ 0 ∷ 0 ∷ 2 ∷ 0 ∷ 0 ∷ 0 ∷ 0 ∷ 1 ∷ (replicate 16 5 ++ replicate 32 6))

-- First faults, under a key of sevens, of the file of an empty table with counter 1.

abbrev pub mac : List ℕ
mac = replicate 16 7

abbrev pub file : List ℕ
file = store_bytes mac 1 []

pub record Faults : Type 0 where
  pub none : store_fault mac 1 file ≡ None
  pub next : store_fault mac 2 file ≡ Some (Counter 1)
  pub bit : store_fault mac 1 (slice_set file 8 0) ≡ Some Seal
  pub letter : store_fault mac 1 (slice_set file 0 0x63) ≡ Some BadMagic
  pub cut : store_fault mac 1 (take 51 file) ≡ Some (Short 51)
  pub longer : store_fault mac 1 (store_bytes mac 1 one_file) ≡ None
