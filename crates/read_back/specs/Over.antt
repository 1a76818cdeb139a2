-- A program that begins with the cloaked files of an earlier run, as they are read back: its pages are found on the disk
-- of the bundle.
use Rattle.std.specs.Prelude.{ℕ, ◌≡◌, ◌≢◌, ◌<◌, Bool, List, [], length, slice_index_or, Option, Some, IfSome, Result, Ok, Err}
use Rattle.io_traits.specs.Told.{Rose, Tells}
use Rattle.cloak_model.specs.declared.image.Bundle.{Bundle}
use Rattle.cloak_model.specs.declared.image.Program.{Program}
use Rattle.cloak_model.specs.DomainAlone.{started_part, with_files}
use Rattle.cloak_model.specs.Parts.{DomainPart}
use Rattle.cloak_model.specs.StoredFiles.{FileContents, StoredFile}
use Rattle.cloak_model.specs.StoreFault.{store_fault}
use Rattle.command_words.specs.Command as spec
use Rattle.command_parts.specs.declared.refusal.Refusal.{Refusal}
use Rattle.command_parts.specs.declared.refusal.Refusal.TheVariants as refusal
use Rattle.command_parts.specs.Order.{FromOldFilesOn}
use Rattle.command_parts.specs.Storing.{IsOld, IsSecret, Secret, secret_length}
use Rattle.alone_files.specs.Found.{IsFound}
use Rattle.alone_files.specs.Giving.{LacksRoom}
use Rattle.read_back.specs.Viewing.{Begins}
use Rattle.read_back.specs.declared.over.ProgramOver.{ProgramOver}

-- the key of a program's pages
abbrev pub program_key : Secret → Program → List ℕ
program_key secret p = slice_index_or secret.keys p.key []

-- What is read of an earlier run: the secret, the table of the store file, the files of a program as the disk has their
-- pages, and whether all of these were found.
pub record OldRead : Type 0 where
  pub secret : Secret
  pub table : List StoredFile
  pub files : List FileContents
  pub whole : Bool

-- The files of these names are so, for program d of a bundle.
pub record IsOldRead (held : List ℕ → Option (List ℕ)) (old : spec.OldFiles) (b : Bundle) (d : ℕ) (p : Program)
    (read : OldRead) : Type 0 where
  pub secret : IsSecret (held old.secret_name) read.secret
  pub table : IsOld (held old.old_name) read.secret.mac old.counter read.table
  pub found : IsFound d (program_key read.secret p) b.kernel.disk read.table read.files read.whole

-- the program as it begins
abbrev pub part_over : ℕ → Program → OldRead → DomainPart
part_over d p read = with_files d read.files (started_part d p)

-- The program begins so.
pub record OpensOver (held : List ℕ → Option (List ℕ)) (old : spec.OldFiles) (b : Bundle) (d : ℕ) (p : Program)
    (over : ProgramOver) : Type 0 where
  pub read : OldRead
  pub is : IsOldRead held old b d p read
  pub whole : over.whole ≡ read.whole
  pub begins : Begins d b.kernel (part_over d p read) over.program

-- Once the secret is one and the store file a table under it, there is no room for a file of the program.
pub record LacksRoomOver (held : List ℕ → Option (List ℕ)) (old : spec.OldFiles) (b : Bundle) (d : ℕ) (p : Program) :
    Type 0 where
  pub secret : Secret
  pub is_secret : IsSecret (held old.secret_name) secret
  pub table : List StoredFile
  pub is_table : IsOld (held old.old_name) secret.mac old.counter table
  pub lacks : LacksRoom d (program_key secret p) b.kernel.disk table (started_part d p)

-- Why it does not, with the count of reading faults before and after, and the file of which reading failed last.
abbrev pub LacksOver : (List ℕ → Option (List ℕ)) → spec.OldFiles → Bundle → ℕ → Program → ℕ → ℕ → Option (List ℕ) →
    Refusal → Type 0
LacksOver held old b d p before now unread refusal.ReadFault =
    Rose before now × ((name : List ℕ) × (Tells unread name × FromOldFilesOn held old name))
LacksOver held old b d p before now unread refusal.NoMemory = now ≡ before
LacksOver held old b d p before now unread refusal.ShortSecret =
    (now ≡ before) × IfSome (held old.secret_name) (λ bytes. length bytes < secret_length)
LacksOver held old b d p before now unread (refusal.BadStore fault) =
    (now ≡ before) × ((old.counter ≢ 0) × ((secret : Secret) × (IsSecret (held old.secret_name) secret
    × IfSome (held old.old_name) (λ bytes. store_fault secret.mac old.counter bytes ≡ Some fault))))
LacksOver held old b d p before now unread (refusal.NoRoom domain) =
    (now ≡ before) × ((domain ≡ d) × LacksRoomOver held old b d p)
LacksOver held old b d p before now unread _ = ⊥

abbrev pub OpensOverAs : (List ℕ → Option (List ℕ)) → spec.OldFiles → Bundle → ℕ → Program → ℕ → ℕ → Option (List ℕ) →
    Result ProgramOver Refusal → Type 0
OpensOverAs held old b d p before now unread (Ok over) = (now ≡ before) × OpensOver held old b d p over
OpensOverAs held old b d p before now unread (Err r) = LacksOver held old b d p before now unread r
