-- Where each page is, as a map from pages to frames.
use Rattle.std.specs.Prelude.{Option}
use Rattle.cloak_base.specs.declared.names.Frame.{Frame}
use Rattle.cloak_base.specs.declared.names.PageId.{PageId}
use Rattle.protect_meta.specs.PageRow.{PageRow, at_page}

abbrev pub HomeTable : Type 0
HomeTable = PageRow Frame

-- the frame that was noted for a page; none if there is no such page
abbrev pub home_at : HomeTable → PageId → Option Frame
home_at t = at_page t
