-- The first fault of a file that is no store file under a key for codes and a counter. The tests stand in their order.
use Rattle.std.specs.Prelude.{ℕ, zero, suc, ◌+◌, ◌-◌, ◌==◌, not, ◌&&◌, ◌||◌, Bool, true, List, [], ◌∷◌, ◌++◌, length, take, drop, slice_index, codes, Option, Some, None, nat_lt, nat_le, if◌then◌else◌}
use Rattle.std.specs.Int.{w64, from_le_bytes}
use Rattle.std.specs.Str.{bytes_eq}
use Rattle.cloak_model.specs.Fields as grammar
use Rattle.cloak_model.specs.Fields.{first_of, first_in, number, parts, after_parts}
use Rattle.cloak_model.specs.Hmac.{hmac}
use Rattle.cloak_model.specs.declared.fault.StoreFault.{StoreFault}
use Rattle.cloak_model.specs.declared.fault.StoreFault.TheVariants.{Short, BadMagic, Seal, Counter, Form}

-- the length of the longest store file: 64 files with 4096 pages in all, of which each was shown
abbrev pub largest_store : ℕ
largest_store = 201524

abbrev pub StoreField : Type 0
StoreField = grammar.Field StoreFault

-- a field that is not whole, or whose value breaks its rule, is named by its offset

abbrev pub any_at : ℕ → ℕ → StoreField
any_at at size = grammar.free at size (Form at)

abbrev pub ruled_at : ℕ → ℕ → Bool → StoreField
ruled_at at size right = grammar.ruled at size (Form at) right (Form at)

-- Pages: whether the page was shown, and of one that was, vector and digest.

abbrev pub is_shown : List ℕ → ℕ → Bool
is_shown body at = slice_index body at == 1

abbrev pub page_fields : List ℕ → ℕ → List StoreField
page_fields body at =
    ruled_at at 1 (nat_lt (slice_index body at) 2)
    ∷ (if is_shown body at then any_at (at + 1) 16 ∷ any_at (at + 17) 32 ∷ [] else [])

abbrev pub after_page : List ℕ → ℕ → ℕ
after_page body at = at + (if is_shown body at then 49 else 1)

-- Files: domain, number, count of pages, pages. A file that does not rise from the one before it is named by its domain
-- if that is smaller, and else by its number.

-- what stands before a file: domain and number of the last one, if there is one, and the pages of all
pub record FilesBefore : Type 0 where
  pub last : Option (ℕ × ℕ)
  pub pages : ℕ

abbrev pub domain_rises : Option (ℕ × ℕ) → ℕ → Bool
domain_rises None d = nat_lt d 4
domain_rises (Some last) d = nat_lt d 4 && nat_le last.0 d

abbrev pub number_rises : Option (ℕ × ℕ) → ℕ → ℕ → Bool
number_rises None d n = true
number_rises (Some last) d n = nat_lt last.0 d || nat_lt last.1 n

-- 1 to 1024 pages, and at most 4096 with those of the files before it
abbrev pub pages_fit : ℕ → ℕ → Bool
pages_fit before n = nat_le 1 n && (nat_le n 1024 && nat_le (before + n) 4096)

-- n files from an offset on
unfoldable pub files_fields : List ℕ → ℕ → FilesBefore → ℕ → List StoreField
files_fields body zero before at = []
files_fields body (suc n) before at =
    let d = number body at in
    let name = number body (at + 4) in
    let count = number body (at + 8) in
    ruled_at at 4 (domain_rises before.last d)
    ∷ ruled_at (at + 4) 4 (number_rises before.last d name)
    ∷ ruled_at (at + 8) 4 (pages_fit before.pages count)
    ∷ (parts (page_fields body) (after_page body) count (at + 12)
    ++ files_fields body n (record { last = Some (d, name); pages = before.pages + count })
    (after_parts (after_page body) count (at + 12)))

-- the offset after n files
unfoldable pub files_end : List ℕ → ℕ → ℕ → ℕ
files_end body zero at = at
files_end body (suc n) at = files_end body n (after_parts (after_page body) (number body (at + 8)) (at + 12))

abbrev pub none_before : FilesBefore
none_before = record { last = None; pages = 0 }

-- The form: count of files, files, and nothing more.

abbrev pub form_fields : List ℕ → List StoreField
form_fields body = ruled_at 16 4 (nat_le (number body 16) 64) ∷ files_fields body (number body 16) none_before 20

unfoldable pub form_fault : List ℕ → Option StoreFault
form_fault body =
    first_of (first_in body (form_fields body))
    (let end = files_end body (number body 16) 20 in if end == length body then None else Some (Form end))

-- The tests.

-- the number in the eight bytes from an offset on
abbrev pub long_at : List ℕ → ℕ → ℕ
long_at file at = from_le_bytes w64 (take 8 (drop at file))

-- all but the code, and the code
abbrev pub body_of : List ℕ → List ℕ
body_of file = take (length file - 32) file

abbrev pub code_of : List ℕ → List ℕ
code_of file = drop (length file - 32) file

-- none of a store file; of a file that is too long nothing is read
unfoldable pub store_fault : List ℕ → ℕ → List ℕ → Option StoreFault
store_fault mac counter file =
    if nat_lt largest_store (length file) then Some (Form largest_store) else
    if nat_lt (length file) 52 then Some (Short (length file)) else
    if not (bytes_eq (take 8 file) (codes "CLOAKSTO")) then Some BadMagic else
    if not (bytes_eq (code_of file) (hmac mac (body_of file))) then Some Seal else
    if not (long_at file 8 == counter) then Some (Counter (long_at file 8)) else
    form_fault (body_of file)
