-- Which pages are owed to frames: a row with a place for each page of the programs, which tells whether it is owed.
use Rattle.std.specs.Prelude.{ℕ, ◌≡◌, ◌+◌, ◌*◌, Bool, false, List, length, slice_index_or}
use Rattle.std.specs.List.{list_any}
use Rattle.cloak_base.specs.Pages.{same_page}
use Rattle.cloak_base.specs.declared.names.PageId.{PageId}
use Rattle.frozen_state.specs.Ranges.{IsPage}

-- the place of a page in the row
abbrev pub place_of : PageId → ℕ
place_of q = (q.domain * 16 + q.resource) * 1024 + q.page

-- The row tells of each page whether it is one of these.
pub record TellsOwed (programs : ℕ) (row : List Bool) (pages : List PageId) : Type 0 where
  pub long : length row ≡ programs * 16384
  pub each : (q : PageId) → IsPage programs q →
      slice_index_or row (place_of q) false ≡ list_any (same_page q) pages
