-- A table of files, as rows and their pages.
use Rattle.std.specs.Prelude.{ℕ, ◌≡◌, ◌+◌, ◌≤◌, List, [], ◌∷◌, length, take, drop, Option}
use Rattle.cloak_base.specs.declared.names.Meta.{Meta}
use Rattle.cloak_model.specs.StoredFiles.{StoredFile}
use Rattle.protect_meta.specs.declared.file_table.FileRow.{FileRow}

-- a file has these pages
abbrev pub file_of : FileRow → List (Option Meta) → StoredFile
file_of r pages = record { domain = r.domain; number = r.number; pages = pages }

-- each file has the pages after those of the files before it
abbrev pub files_of : List FileRow → List (Option Meta) → List StoredFile
files_of [] pages = []
files_of (r ∷ rows) pages = file_of r (take r.count pages) ∷ files_of rows (drop r.count pages)

-- the pages of the first row begin at a place, those of each other one after those before it, and the last end here
abbrev pub FollowFrom : ℕ → List FileRow → ℕ → Type 0
FollowFrom at [] end = at ≡ end
FollowFrom at (r ∷ rows) end = (r.first ≡ at) × FollowFrom (at + r.count) rows end

-- there is room for 4096 pages, and this many of them belong to files
pub record IsLaidOut (rows : List FileRow) (used : ℕ) (pages : List (Option Meta)) : Type 0 where
  pub follow : FollowFrom 0 rows used
  pub room : length pages ≡ 4096
  pub few : used ≤ 4096
