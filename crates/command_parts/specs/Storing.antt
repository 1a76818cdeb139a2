-- What the words of `store` ask for: the secret file, the store file that is read, and the run over its cloaked files.
use Rattle.std.specs.Prelude.{ℕ, ◌≡◌, ◌≢◌, ◌≤◌, ◌<◌, ◌+◌, ◌*◌, List, [], ◌∷◌, length, map, take, drop, All, Option, IfSome, Some, Err}
use Rattle.aes_block.specs.Bytes.{IsBytes}
use Rattle.cloak_base.specs.Random.{Random}
use Rattle.cloak_model.specs.declared.fault.StoreFault.{StoreFault}
use Rattle.cloak_model.specs.declared.image.Bundle.{Bundle}
use Rattle.cloak_model.specs.Beginning.{opening_stored, stored_keys}
use Rattle.cloak_model.specs.Opening.{Lack}
use Rattle.cloak_model.specs.StoredFiles.{StoredFile, FileContents, IsStore, IsTable, StandsForFiles}
use Rattle.cloak_model.specs.StoreFault.{store_fault}
use Rattle.command_words.specs.Command as spec
use Rattle.command_parts.specs.Bundles.{IsInFileAs}
use Rattle.command_parts.specs.Outside.{FilesOutside}
use Rattle.command_parts.specs.Streams.{IsStream}

-- The secret.

-- the key for codes, and the page keys by their numbers
pub record Secret : Type 0 where
  pub mac : List ℕ
  pub keys : List (List ℕ)

-- how many bytes of the secret file are taken
abbrev pub secret_length : ℕ
secret_length = 80

abbrev pub page_key : List ℕ → ℕ → List ℕ
page_key bytes n = take 16 (drop (16 + 16 * n) bytes)

-- five keys of 16 bytes, that for codes first
abbrev pub secret_of : List ℕ → Secret
secret_of bytes = record { mac = take 16 bytes; keys = map (page_key bytes) (0 ∷ 1 ∷ 2 ∷ 3 ∷ []) }

-- the secret that a file has, if its bytes are told
pub record IsSecret (told : Option (List ℕ)) (s : Secret) : Type 0 where
  pub bytes : List ℕ
  pub long : length bytes ≡ secret_length
  pub front : IfSome told (λ file. bytes ≡ take secret_length file)
  pub same : s ≡ secret_of bytes
  pub mac : IsBytes 16 s.mac
  pub four : length s.keys ≡ 4
  pub keys : All (IsBytes 16) s.keys

-- The files.

-- With counter 0 there are no files, and nothing is asked of the store file. Otherwise it spells this table, if its bytes
-- are told.
pub record IsOld (told : Option (List ℕ)) (mac : List ℕ) (counter : ℕ) (table : List StoredFile) : Type 0 where
  pub none : counter ≡ 0 → table ≡ []
  pub spelled : counter ≢ 0 → IfSome told (λ bytes. IsStore mac counter bytes table)
  pub is_table : IsTable table

-- What a run over cloaked files takes from the files that the words name.
pub record StoreSources : Type 0 where
  pub version : ℕ
  pub bytes : List ℕ
  pub bundle : Bundle
  pub secret : Secret
  pub table : List StoredFile
  pub stream : Random

-- The words ask for the run of this bundle over the files of this table.
pub record AsksStored (names : spec.StoreNames) (counter : ℕ) (randomness : spec.Randomness)
    (held : List ℕ → Option (List ℕ)) (s : StoreSources) : Type 0 where
  pub bundle : IsInFileAs s.version (held names.bundle) s.bytes s.bundle
  pub secret : IsSecret (held names.secret_name) s.secret
  pub old : IsOld (held names.old_name) s.secret.mac counter s.table
  pub stream : IsStream held randomness s.stream

-- the contents that the table stands for
abbrev pub AreFiles : StoreSources → List FileContents → Type 0
AreFiles s files = StandsForFiles (stored_keys s.bundle s.secret.keys) s.table files

-- Why there is no run.

-- The bundle is one, and the secret file has fewer bytes than it must have, if its bytes are told.
pub record IsShortSecret {S : Type 0} (asked : spec.Asked) (before after : FilesOutside S) : Type 0 where
  pub names : spec.StoreNames
  pub counter : ℕ
  pub steps : ℕ
  pub randomness : spec.Randomness
  pub store : asked ≡ spec.Store names counter steps randomness
  pub version : ℕ
  pub bytes : List ℕ
  pub bundle : Bundle
  pub file : IsInFileAs version (before.held names.bundle) bytes bundle
  pub short : IfSome (before.held names.secret_name) (λ bytes. length bytes < secret_length)
  pub reading : after.reading ≡ before.reading

-- The bundle is one, and the store file is none under the secret and the counter: if its bytes are told, this is the
-- first test that it fails.
pub record IsBadStore {S : Type 0} (asked : spec.Asked) (fault : StoreFault) (before after : FilesOutside S) : Type 0 where
  pub names : spec.StoreNames
  pub counter : ℕ
  pub steps : ℕ
  pub randomness : spec.Randomness
  pub store : asked ≡ spec.Store names counter steps randomness
  pub version : ℕ
  pub bytes : List ℕ
  pub bundle : Bundle
  pub file : IsInFileAs version (before.held names.bundle) bytes bundle
  pub not_first : counter ≢ 0
  pub secret : Secret
  pub is_secret : IsSecret (before.held names.secret_name) secret
  pub first_fault : IfSome (before.held names.old_name) (λ bytes. store_fault secret.mac counter bytes ≡ Some fault)
  pub reading : after.reading ≡ before.reading

-- The opening of the run lacks room for a file or a random draw, whatever contents the table stands for.
pub record IsStoredLack {S : Type 0} (asked : spec.Asked) (lack : Lack) (before after : FilesOutside S) : Type 0 where
  pub names : spec.StoreNames
  pub counter : ℕ
  pub steps : ℕ
  pub randomness : spec.Randomness
  pub store : asked ≡ spec.Store names counter steps randomness
  pub sources : StoreSources
  pub asks : AsksStored names counter randomness before.held sources
  pub lacks : (files : List FileContents) → AreFiles sources files →
      opening_stored sources.bundle sources.secret.keys sources.stream files ≡ Err lack
  pub reading : after.reading ≡ before.reading
