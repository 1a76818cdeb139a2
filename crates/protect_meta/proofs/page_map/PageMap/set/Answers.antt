use Rattle.std.proofs.Common.{refl}
use Rattle.protect_meta.specs.Pages.{IsIn}
use Rattle.protect_meta.specs.PageRow.{at_page}
use Rattle.protect_meta.proofs.Rows.{value_after_set}
use Rattle.protect_meta.proofs.page_map.PageMap.set.Goals as goal

pub returns : goal.returns
unfolding at_page
returns g c =
    let there : IsIn c.self.inside.domains c.args.q = rw (← c.self.view_is) at c.requires.page in
    rw (← c.self.view_is, c.page_index-at.ensures)
    (record { values_are = value_after_set _ _ _ _ c.self.invariant there; domains_stay = refl })
