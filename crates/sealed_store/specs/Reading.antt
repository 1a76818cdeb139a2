-- What stands in the body of a store file that has no fault, and the fields of one file of it.
use Rattle.std.specs.Prelude.{ℕ, zero, suc, ◌+◌, List, [], ◌∷◌, take, drop, replicate, Option, Some, None, if◌then◌else◌}
use Rattle.cloak_base.specs.declared.names.Meta.{Meta}
use Rattle.cloak_model.specs.Fields.{number, parts, after_parts}
use Rattle.cloak_model.specs.StoredFiles.{StoredFile}
use Rattle.cloak_model.specs.StoreFault.{StoreField, FilesBefore, ruled_at, is_shown, page_fields, after_page, domain_rises, number_rises, pages_fit}

-- what is known of a page
abbrev pub page_in : List ℕ → ℕ → Option Meta
page_in body at =
    if is_shown body at
    then Some (record { iv = take 16 (drop (at + 1) body); digest = take 32 (drop (at + 17) body) })
    else None

-- a file of which no page was shown
abbrev pub new_file : ℕ → ℕ → ℕ → StoredFile
new_file domain name n = record { domain = domain; number = name; pages = replicate n None }

-- n pages
unfoldable pub pages_in : List ℕ → ℕ → ℕ → List (Option Meta)
pages_in body zero at = []
pages_in body (suc n) at = page_in body at ∷ pages_in body n (after_page body at)

abbrev pub file_in : List ℕ → ℕ → StoredFile
file_in body at = record {
  domain = number body at;
  number = number body (at + 4);
  pages = pages_in body (number body (at + 8)) (at + 12);
}

-- the offset after a file
abbrev pub after_file : List ℕ → ℕ → ℕ
after_file body at = after_parts (after_page body) (number body (at + 8)) (at + 12)

-- n files
unfoldable pub files_in : List ℕ → ℕ → ℕ → List StoredFile
files_in body zero at = []
files_in body (suc n) at = file_in body at ∷ files_in body n (after_file body at)

-- the fields of a file, with what stands before it
abbrev pub file_fields : List ℕ → FilesBefore → ℕ → List StoreField
file_fields body before at =
    let d = number body at in
    let name = number body (at + 4) in
    let count = number body (at + 8) in
    ruled_at at 4 (domain_rises before.last d)
    ∷ ruled_at (at + 4) 4 (number_rises before.last d name)
    ∷ ruled_at (at + 8) 4 (pages_fit before.pages count)
    ∷ parts (page_fields body) (after_page body) count (at + 12)
