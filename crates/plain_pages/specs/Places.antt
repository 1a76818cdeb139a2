-- The bytes of a program's pages: 16 resources of 1024 pages, one resource after another.
use Rattle.std.specs.Prelude.{ℕ, ◌≤◌, ◌-◌, nat_lt, List, ◌++◌, length, replicate, if◌then◌else◌}
use Rattle.cloak_base.specs.Pages.{zero_page}
use Rattle.cloak_model.specs.declared.image.Program.{Program}
use Rattle.cloak_model.specs.Opening.{program_page}

-- this many pages at least: those that are kept, and zeros
abbrev pub pages_to : List (List ℕ) → ℕ → List (List ℕ)
pages_to kept count = kept ++ replicate (count - length kept) zero_page

-- no more pages are kept than there are, and all of them would find room
pub record HasRoom (kept room : ℕ) : Type 0 where
  pub few : kept ≤ 16384
  pub enough : 16384 ≤ room

-- the page at a place among all, as a program starts: one of its own, or zeros
abbrev pub page_at_start : Program → ℕ → List ℕ
page_at_start p place = if nat_lt place p.start.pages then program_page p.bytes place else zero_page
