-- How a run begins: fresh, or over the cloaked files of an earlier run (this project's rules).
use Rattle.std.specs.Prelude.{ℕ, ◌+◌, List, [], ◌∷◌, length, slice_get, slice_set, All, Option, Some, None, Result, Ok, Err}
use Rattle.cloak_base.specs.Random.{Random}
use Rattle.cloak_base.specs.Pages.{with_page}
use Rattle.cloak_base.specs.declared.names.PageId.{PageId}
use Rattle.cloak_model.specs.declared.image.Bundle.{Bundle}
use Rattle.cloak_model.specs.declared.resource.MapFault.{MapFault}
use Rattle.cloak_model.specs.Resources.{Resources}
use Rattle.cloak_model.specs.Files.{file_resource}
use Rattle.cloak_model.specs.Sealing.{Chained}
use Rattle.cloak_model.specs.Ledger.{Keys}
use Rattle.cloak_model.specs.Cloaking.{CloakedMemory}
use Rattle.cloak_model.specs.DomainState.{Domain, with_resources}
use Rattle.cloak_model.specs.Parts.{Joint}
use Rattle.cloak_model.specs.StoredFiles.{PageContent, FileContents, IsTable, table_of, HasSealedPages}
use Rattle.cloak_model.specs.Opening.{Lack, NoRoom, NoPageDraw, RunEdge, groups, opening, opening_items, place_programs, started_joint, started_memory}

-- Pages.

-- a page goes on with this content: its newest bytes, and what was last shown of it
abbrev pub with_content : PageId → Option PageContent → CloakedMemory → CloakedMemory
with_content q None m = m
with_content q (Some c) m = record m {
  plain = with_page m.plain q c.plain;
  ledger = record m.ledger {
    recorded = with_page m.ledger.recorded q (Some c.cipher);
    iv = with_page m.ledger.iv q (Some c.iv);
  };
}

-- pages of a resource of a domain, of which the first has this number
unfoldable pub with_contents : ℕ → ℕ → ℕ → List (Option PageContent) → CloakedMemory → CloakedMemory
with_contents d resource page [] m = m
with_contents d resource page (c ∷ contents) m =
    with_contents d resource (page + 1) contents
    (with_content (record { domain = d; resource = resource; page = page }) c m)

-- Files.

abbrev pub and_then : {A B E : Type 0} → (A → Result B E) → Result A E → Result B E
and_then next (Ok a) = next a
and_then next (Err e) = Err e

-- a domain gets the pages of a file as a resource, unless that was refused
unfoldable pub file_given : FileContents → Domain → Joint → Result ℕ MapFault → Resources → Result Joint Lack
file_given f domain j (Err fault) resources = Err (NoRoom f.domain)
file_given f domain j (Ok n) resources =
    Ok (record j {
      domains = slice_set j.domains f.domain (with_resources resources domain);
      memory = with_contents f.domain n 0 f.pages j.memory;
    })

-- A file is made by the rule of the hypercall FILE, if there is its domain.
unfoldable pub file_added : FileContents → Joint → Option Domain → Result Joint Lack
file_added f j None = Err (NoRoom f.domain)
file_added f j (Some domain) =
    let made = file_resource f.number (length f.pages) domain.control.resources in
    file_given f domain j made.answer made.resources

-- in order, up to the first for which there is no room
unfoldable pub files_added : List FileContents → Joint → Result Joint Lack
files_added [] j = Ok j
files_added (f ∷ files) j = and_then (files_added files) (file_added f j (slice_get j.domains f.domain))

-- The opening over files.

-- with the memory in which the programs' pages were placed, if each found a draw; want of room goes before that
unfoldable pub opened_over : Bundle → List FileContents → Joint → Option CloakedMemory → Result RunEdge Lack
opened_over b files bare None = and_then (λ j. Err NoPageDraw) (files_added files bare)
opened_over b files bare (Some m) =
    and_then (λ j. Ok (record { joint = j; items = opening_items b.programs m.ram })) (files_added files (started_joint b m))

-- four keys by their numbers, for the programs of an image
abbrev pub stored_keys : Bundle → List (List ℕ) → Keys
stored_keys b keys = record { numbered = keys; group = groups b.programs; seal = Chained }

-- The keys are handed in, and each program page takes one draw.
unfoldable pub opening_stored : Bundle → List (List ℕ) → Random → List FileContents → Result RunEdge Lack
opening_stored b keys stream files =
    let m = started_memory b.kernel (stored_keys b keys) stream in
    opened_over b files (started_joint b m) (place_programs 0 b.programs m)

-- Both.

-- What a run begins with beside its image.
pub data Beginning : Type 0 where
  -- a random stream, whose first draws are the keys
  Fresh : Random → Beginning
  -- four keys by their numbers, a random stream for all else, and the files of an earlier run
  Stored : List (List ℕ) → Random → List FileContents → Beginning

-- The joint machine as the run begins, or why there is none.
abbrev pub opening_from : Bundle → Beginning → Result RunEdge Lack
opening_from b (Fresh stream) = opening b stream
opening_from b (Stored keys stream files) = opening_stored b keys stream files

-- what the files hold under these keys: a table can tell of it, and each ciphertext is that of its page
pub record AreContents (keys : Keys) (files : List FileContents) : Type 0 where
  pub table : IsTable (table_of files)
  pub sealed : All (HasSealedPages keys) files

-- the files of the beginning are so; a fresh one has none
abbrev pub IsBeginning : Bundle → Beginning → Type 0
IsBeginning b (Fresh stream) = Unit {0}
IsBeginning b (Stored keys stream files) = AreContents (stored_keys b keys) files
