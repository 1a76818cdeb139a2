-- A table of metadata, as a map from pages.
use Rattle.std.specs.Prelude.{ℕ, Option}
use Rattle.cloak_base.specs.declared.names.PageId.{PageId}
use Rattle.cloak_base.specs.declared.names.Meta.{Meta}
use Rattle.protect_meta.specs.PageRow.{PageRow, at_page}

abbrev pub MetaRow : Type 0
MetaRow = PageRow Meta

-- the metadata of a page; none if it has none, and if there is no such page
abbrev pub meta_at : MetaRow → PageId → Option Meta
meta_at t = at_page t

-- how many domains a table has room for
abbrev pub domains_of : MetaRow → ℕ
domains_of t = t.domains
