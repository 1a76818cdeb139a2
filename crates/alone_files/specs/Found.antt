-- The cloaked files of an earlier run, as a disk has them: a page is the first block that has its digest, deciphered.
use Rattle.std.specs.Prelude.{ℕ, ◌≡◌, ◌≢◌, ◌<◌, ◌/◌, Bool, true, false, List, [], length, slice_index_or, Option, Some, None, is_some}
use Rattle.sha2.specs.Sha256.{sha256}
use Rattle.cloak_base.specs.declared.names.Meta.{Meta}
use Rattle.cloak_model.specs.HostCalls.{block_at}
use Rattle.cloak_model.specs.StoredFiles.{FileContents, IsSealed, PageContent, StoredFile}

-- A page.

-- the first block of a disk that has this digest, if one has it
abbrev pub IsFirstBlock : (disk digest : List ℕ) → Option (List ℕ) → Type 0
IsFirstBlock disk digest None = (k : ℕ) → k < length disk / 4096 → sha256 (block_at disk k) ≢ digest
IsFirstBlock disk digest (Some block) =
    (at : ℕ) × ((at < length disk / 4096) × ((block ≡ block_at disk at) × ((sha256 block ≡ digest)
    × ((k : ℕ) → k < at → sha256 (block_at disk k) ≢ digest))))

-- what a disk has of a page of which this is known
abbrev pub IsContent : (key disk : List ℕ) → Meta → Option PageContent → Type 0
IsContent key disk m None = IsFirstBlock disk m.digest None
IsContent key disk m (Some c) = IsFirstBlock disk m.digest (Some c.cipher) × ((c.iv ≡ m.iv) × IsSealed key c)

-- nothing of a page that was never shown
abbrev pub IsFoundPage : (key disk : List ℕ) → Option Meta → Option PageContent → Type 0
IsFoundPage key disk None content = content ≡ None
IsFoundPage key disk (Some m) content = IsContent key disk m content

-- The first pages of a file, n of them.
pub record AreFoundPages (key disk : List ℕ) (n : ℕ) (known : List (Option Meta)) (contents : List (Option PageContent)) :
    Type 0 where
  pub count : length contents ≡ n
  pub each : (k : ℕ) → k < n → IsFoundPage key disk (slice_index_or known k None) (slice_index_or contents k None)

-- each page that was shown has a content, or one has none
abbrev pub AreWhole : Bool → ℕ → List (Option Meta) → List (Option PageContent) → Type 0
AreWhole true n known contents =
    (k : ℕ) → k < n → is_some (slice_index_or contents k None) ≡ is_some (slice_index_or known k None)
AreWhole false n known contents =
    (k : ℕ) × ((k < n) × ((slice_index_or contents k None ≡ None) × (is_some (slice_index_or known k None) ≡ true)))

-- Files.

-- A file, and what a disk has of its pages, if it is of domain d.
pub record IsFoundFile (d : ℕ) (key disk : List ℕ) (s : StoredFile) (f : FileContents) : Type 0 where
  pub domain : f.domain ≡ s.domain
  pub number : f.number ≡ s.number
  pub pages : s.domain ≡ d → AreFoundPages key disk (length s.pages) s.pages f.pages

-- a file of domain d is whole, or there is one that is not
abbrev pub IsWholeFile : ℕ → Bool → StoredFile → FileContents → Type 0
IsWholeFile d true s f = s.domain ≡ d → AreWhole true (length s.pages) s.pages f.pages
IsWholeFile d false s f = (s.domain ≡ d) × AreWhole false (length s.pages) s.pages f.pages

abbrev pub no_file : StoredFile
no_file = record { domain = 0; number = 0; pages = [] }

abbrev pub no_contents : FileContents
no_contents = record { domain = 0; number = 0; pages = [] }

-- The first files of a table, n of them.
pub record AreFoundFiles (d : ℕ) (key disk : List ℕ) (n : ℕ) (table : List StoredFile) (files : List FileContents) :
    Type 0 where
  pub count : length files ≡ n
  pub each : (k : ℕ) → k < n →
      IsFoundFile d key disk (slice_index_or table k no_file) (slice_index_or files k no_contents)

abbrev pub AreWholeFiles : ℕ → Bool → ℕ → List StoredFile → List FileContents → Type 0
AreWholeFiles d true n table files =
    (k : ℕ) → k < n → IsWholeFile d true (slice_index_or table k no_file) (slice_index_or files k no_contents)
AreWholeFiles d false n table files =
    (k : ℕ) × ((k < n) × IsWholeFile d false (slice_index_or table k no_file) (slice_index_or files k no_contents))

-- These are the files of a table, as far as they are of domain d, and whether all of its pages were found.
pub record IsFound (d : ℕ) (key disk : List ℕ) (table : List StoredFile) (files : List FileContents) (whole : Bool) :
    Type 0 where
  pub found : AreFoundFiles d key disk (length table) table files
  pub whole_so : AreWholeFiles d whole (length table) table files
