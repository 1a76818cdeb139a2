-- A map from pages, as a row.
use Rattle.std.specs.Prelude.{ℕ, ◌≡◌, List, Option}
use Rattle.cloak_base.specs.declared.names.PageId.{PageId}
use Rattle.protect_meta.specs.Pages.{value_in_row}

-- how many domains there are, and what stands for their pages in a row
pub record PageRow (A : Type 0) : Type 0 where
  pub domains : ℕ
  pub row : List (Option A)

-- what stands for a page; none if nothing does, and if there is no such page
unfoldable pub at_page : {A : Type 0} → PageRow A → PageId → Option A
at_page t p = value_in_row t.domains t.row p

-- These values stand for the pages now, and there are as many domains as before.
pub record HasValues {A : Type 0} (old new : PageRow A) (values : PageId → Option A) : Type 0 where
  pub values_are : (p : PageId) → at_page new p ≡ values p
  pub domains_stay : new.domains ≡ old.domains
