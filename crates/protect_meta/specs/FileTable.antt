-- A table of files, as a list.
use Rattle.std.specs.Prelude.{ℕ, List, [], Option, slice_index_or, slice_set}
use Rattle.cloak_base.specs.declared.names.Meta.{Meta}
use Rattle.cloak_model.specs.StoredFiles.{StoredFile}

-- the file at a place, which is there
abbrev pub file_at : List StoredFile → ℕ → StoredFile
file_at files i = slice_index_or files i (record { domain = 0; number = 0; pages = [] })

-- what is known of a page of a file is this
abbrev pub with_meta : ℕ → ℕ → Option Meta → List StoredFile → List StoredFile
with_meta i page m files =
    let f = file_at files i in slice_set files i (record f { pages = slice_set f.pages page m })
