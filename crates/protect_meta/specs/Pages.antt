-- Pages by their numbers. A domain has 16 resources, a resource 1024 pages.
use Rattle.std.specs.Prelude.{ℕ, ◌+◌, ◌*◌, ◌<◌, Bool, ◌&&◌, nat_lt, List, Option, None, slice_index_or}
use Rattle.std.specs.Prelude.{if◌then◌else◌}
use Rattle.cloak_base.specs.declared.names.PageId.{PageId}

-- there is such a page if there are this many domains
pub record IsIn (domains : ℕ) (p : PageId) : Type 0 where
  pub domain : p.domain < domains
  pub resource : p.resource < 16
  pub page : p.page < 1024

-- the test of it
unfoldable pub is_page : ℕ → PageId → Bool
is_page domains p = nat_lt p.domain domains && (nat_lt p.resource 16 && nat_lt p.page 1024)

-- all pages in a row: those of a domain together, in it those of a resource together
abbrev pub page_index : ℕ → ℕ → ℕ → ℕ
page_index domain resource page = (domain * 16 + resource) * 1024 + page

-- what stands for a page in a row with a place for each page of this many domains; nothing if there is no such page
unfoldable pub value_in_row : {A : Type 0} → ℕ → List (Option A) → PageId → Option A
value_in_row domains row p =
    if is_page domains p then slice_index_or row (page_index p.domain p.resource p.page) None else None
