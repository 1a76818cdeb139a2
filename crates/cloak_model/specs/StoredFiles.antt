-- Cloaked files across runs: what a store file tells of them, its bytes, and the contents that it stands for (this
-- project's rules).
use Rattle.std.specs.Prelude.{ℕ, ◌≡◌, ◌<◌, ◌≤◌, ◌^◌, ◌⊎◌, List, [], ◌∷◌, ◌++◌, length, map, sum_by, codes, All, Option, Some, None, option_map}
use Rattle.std.specs.List.{flat_map}
use Rattle.std.specs.Int.{w64, to_le_bytes}
use Rattle.sha2.specs.Sha256.{sha256}
use Rattle.aes_block.specs.Bytes.{IsBytes}
use Rattle.cloak_base.specs.declared.names.Meta.{Meta}
use Rattle.cloak_model.specs.Bits.{word}
use Rattle.cloak_model.specs.Chain.{cbc}
use Rattle.cloak_model.specs.Hmac.{hmac}
use Rattle.cloak_model.specs.Ledger.{Keys, domain_key}

-- a file of a domain under the number that the program chose, with what is known of each of its pages: nothing of one
-- that was never shown
pub record StoredFile : Type 0 where
  pub domain : ℕ
  pub number : ℕ
  pub pages : List (Option Meta)

-- The bytes.

-- a number of 64 bits in eight bytes, the lowest first
abbrev pub long : ℕ → List ℕ
long n = to_le_bytes w64 n

abbrev pub page_bytes : Option Meta → List ℕ
page_bytes None = 0 ∷ []
page_bytes (Some m) = 1 ∷ (m.iv ++ m.digest)

-- domain, number, count of pages, pages
abbrev pub file_bytes : StoredFile → List ℕ
file_bytes f = word f.domain ++ (word f.number ++ (word (length f.pages) ++ flat_map page_bytes f.pages))

-- magic, counter, count of files, files
unfoldable pub table_bytes : ℕ → List StoredFile → List ℕ
table_bytes counter files =
    codes "CLOAKSTO" ++ (long counter ++ (word (length files) ++ flat_map file_bytes files))

-- and the code of all that
unfoldable pub store_bytes : List ℕ → ℕ → List StoredFile → List ℕ
store_bytes mac counter files = let body = table_bytes counter files in body ++ hmac mac body

-- Tables.

-- sixteen bytes and thirty-two
pub record IsMeta (m : Meta) : Type 0 where
  pub iv : IsBytes 16 m.iv
  pub digest : IsBytes 32 m.digest

abbrev pub IsMetaIfKnown : Option Meta → Type 0
IsMetaIfKnown None = Unit {0}
IsMetaIfKnown (Some m) = IsMeta m

pub record IsFile (f : StoredFile) : Type 0 where
  pub domain : f.domain < 4
  pub number : f.number < 2 ^ 32
  pub some_pages : 1 ≤ length f.pages
  pub few_pages : length f.pages ≤ 1024
  pub pages : All IsMetaIfKnown f.pages

-- a file stands before another
abbrev pub Precedes : StoredFile → StoredFile → Type 0
Precedes f g = (f.domain < g.domain) ⊎ ((f.domain ≡ g.domain) × (f.number < g.number))

abbrev pub Rise : List StoredFile → Type 0
Rise [] = Unit {0}
Rise (f ∷ []) = Unit {0}
Rise (f ∷ g ∷ files) = Precedes f g × Rise (g ∷ files)

abbrev pub page_count : StoredFile → ℕ
page_count f = length f.pages

-- at most 64 files with at most 4096 pages in all, rising by domain and number
pub record IsTable (files : List StoredFile) : Type 0 where
  pub few : length files ≤ 64
  pub each : All IsFile files
  pub few_pages : sum_by page_count files ≤ 4096
  pub rise : Rise files

-- A file's bytes are this table, under a key for codes and a counter.
pub record IsStore (mac : List ℕ) (counter : ℕ) (bytes : List ℕ) (files : List StoredFile) : Type 0 where
  pub spelled : store_bytes mac counter files ≡ bytes
  pub is_table : IsTable files
  pub counter_fits : counter < 2 ^ 64

-- Contents.

-- a page that was shown: its newest bytes, the ciphertext last shown of it, and under which vector
pub record PageContent : Type 0 where
  pub plain : List ℕ
  pub iv : List ℕ
  pub cipher : List ℕ

-- a file with the contents of its pages: none of a page that was never shown
pub record FileContents : Type 0 where
  pub domain : ℕ
  pub number : ℕ
  pub pages : List (Option PageContent)

-- what a table knows of contents
abbrev pub meta_of : PageContent → Meta
meta_of c = record { iv = c.iv; digest = sha256 c.cipher }

abbrev pub stored_file : FileContents → StoredFile
stored_file f = record { domain = f.domain; number = f.number; pages = map (option_map meta_of) f.pages }

abbrev pub table_of : List FileContents → List StoredFile
table_of files = map stored_file files

-- a page's ciphertext is that of its newest bytes, which are a page
pub record IsSealed (key : List ℕ) (c : PageContent) : Type 0 where
  pub plain : IsBytes 4096 c.plain
  pub cipher : c.cipher ≡ cbc key c.iv c.plain

abbrev pub IsSealedIfShown : List ℕ → Option PageContent → Type 0
IsSealedIfShown key None = Unit {0}
IsSealedIfShown key (Some c) = IsSealed key c

-- under the key of the file's domain
abbrev pub HasSealedPages : Keys → FileContents → Type 0
HasSealedPages keys f = All (IsSealedIfShown (domain_key keys f.domain)) f.pages

-- Under these keys the table stands for these contents.
pub record StandsForFiles (keys : Keys) (table : List StoredFile) (files : List FileContents) : Type 0 where
  pub tells : table ≡ table_of files
  pub sealed : All (HasSealedPages keys) files
