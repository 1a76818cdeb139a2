use Rattle.protect_meta.specs.PageRow.{at_page}
use Rattle.protect_meta.proofs.Rows.{value_at_first, only_none}
use Rattle.protect_meta.proofs.page_map.PageMap.open.Goals as goal

pub returns-clause-empty : goal.returns-clause-empty
unfolding at_page
returns-clause-empty g c = value_at_first _ _ (c.in_ok-row.ensures.items_if_clones_equal (only_none _ (λ m h. h)))
