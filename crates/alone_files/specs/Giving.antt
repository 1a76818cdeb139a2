-- What becomes of a program that is given files before its first item.
use Rattle.std.specs.Prelude.{ℕ, ◌≡◌, ◌<◌, Bool, List, [], ◌∷◌, length, slice_index_or, Option, is_some, Result, Ok, Err, IsErr}
use Rattle.cloak_base.specs.declared.names.Meta.{Meta}
use Rattle.cloak_model.specs.DomainAlone.{with_file, with_files, with_given_pages}
use Rattle.cloak_model.specs.Files.{file_resource}
use Rattle.cloak_model.specs.Parts.{DomainPart}
use Rattle.cloak_model.specs.StoredFiles.{FileContents, PageContent, StoredFile}
use Rattle.alone_views.specs.DomainBeginning.{BeginsWith}
use Rattle.alone_views.specs.declared.domain.DomainAlone.{DomainAlone}
use Rattle.alone_files.specs.Found.{AreFoundFiles, AreFoundPages, AreWhole, AreWholeFiles, IsContent, IsFound, IsFoundFile, IsWholeFile, no_file}
use Rattle.alone_files.specs.declared.giving.FilesFault.{FilesFault}
use Rattle.alone_files.specs.declared.giving.FilesFault.TheVariants.{NoMemory, NoRoom}

-- A program that began as a part begins as the one that is told of it.
abbrev pub Becomes : DomainAlone → DomainAlone → (DomainPart → DomainPart) → ℕ → Type 0
Becomes old new told d =
    (schedule : List ℕ) (p : DomainPart) → BeginsWith d schedule old p → BeginsWith d schedule new (told p)

abbrev pub with_pages : ℕ → ℕ → List (Option PageContent) → DomainPart → DomainPart
with_pages resource page contents p = record p { plain = with_given_pages resource page contents p.plain }

-- A page was given, if it was found.
pub record GivesPage (key disk : List ℕ) (m : Meta) (resource page : ℕ) (old new : DomainAlone) (given : Bool) : Type 0
  where
    pub content : Option PageContent
    pub found : IsContent key disk m content
    pub answer : given ≡ is_some content
    pub becomes : (d : ℕ) → Becomes old new (with_pages resource page (content ∷ [])) d

-- The first n pages of a file were given.
pub record GivesPages (key disk : List ℕ) (n : ℕ) (known : List (Option Meta)) (resource : ℕ) (old new : DomainAlone)
    (whole : Bool) : Type 0 where
  pub contents : List (Option PageContent)
  pub found : AreFoundPages key disk n known contents
  pub whole_so : AreWhole whole n known contents
  pub becomes : (d : ℕ) → Becomes old new (with_pages resource 0 contents) d

-- A file was given to the program of domain d, if it is of that.
pub record GivesFile (d : ℕ) (key disk : List ℕ) (s : StoredFile) (old new : DomainAlone) (whole : Bool) : Type 0 where
  pub file : FileContents
  pub found : IsFoundFile d key disk s file
  pub whole_so : IsWholeFile d whole s file
  pub becomes : Becomes old new (with_file d file) d

-- there is no room for a file of domain d
pub record LacksRoomFor (d : ℕ) (s : StoredFile) (p : DomainPart) : Type 0 where
  pub own : s.domain ≡ d
  pub refused : IsErr (file_resource s.number (length s.pages) p.domain.control.resources).answer

abbrev pub GivesOne : ℕ → (key disk : List ℕ) → StoredFile → DomainAlone → DomainAlone → Result Bool FilesFault → Type 0
GivesOne d key disk s old new (Ok whole) = GivesFile d key disk s old new whole
GivesOne d key disk s old new (Err NoRoom) =
    (schedule : List ℕ) (p : DomainPart) → BeginsWith d schedule old p → LacksRoomFor d s p
GivesOne d key disk s old new (Err NoMemory) = ⊥

-- The first n files of a table were given.
pub record GivesFiles (d : ℕ) (key disk : List ℕ) (n : ℕ) (table : List StoredFile) (old new : DomainAlone)
    (whole : Bool) : Type 0 where
  pub files : List FileContents
  pub found : AreFoundFiles d key disk n table files
  pub whole_so : AreWholeFiles d whole n table files
  pub becomes : Becomes old new (with_files d files) d

-- Once the first n files of a table were given to a program of domain d, there is no room for the next.
pub record LacksRoom (d : ℕ) (key disk : List ℕ) (table : List StoredFile) (p : DomainPart) : Type 0 where
  pub n : ℕ
  pub within : n < length table
  pub files : List FileContents
  pub found : AreFoundFiles d key disk n table files
  pub lacks : LacksRoomFor d (slice_index_or table n no_file) (with_files d files p)

-- All files of a table were given, or why not.
abbrev pub Gives : ℕ → (key disk : List ℕ) → List StoredFile → DomainAlone → DomainAlone → Result Bool FilesFault → Type 0
Gives d key disk table old new (Ok whole) =
    (files : List FileContents) × (IsFound d key disk table files whole × Becomes old new (with_files d files) d)
Gives d key disk table old new (Err NoRoom) =
    (schedule : List ℕ) (p : DomainPart) → BeginsWith d schedule old p → LacksRoom d key disk table p
Gives d key disk table old new (Err NoMemory) = Unit {0}
