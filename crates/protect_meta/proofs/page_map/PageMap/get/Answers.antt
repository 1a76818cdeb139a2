use Rattle.std.proofs.Common.{◌<◌, ◌∙◌, None, sym, length, arith}
use Rattle.std.proofs.lemmas.List.{get_or_read}
use Rattle.protect_meta.specs.PageRow.{at_page}
use Rattle.protect_meta.specs.Pages.{IsIn}
use Rattle.protect_meta.proofs.Rows.{value_of_page}
use Rattle.protect_meta.proofs.page_map.PageMap.get.Goals as goal

pub returns : goal.returns
unfolding at_page
returns g c =
    let there : IsIn c.self.inside.domains c.args.q = rw (← c.self.view_is) at c.requires.page in
    let low : c.page_index.result < length c.self.inside.row.items =
    rw c.page_index.ensures (omega (arith, c.self.invariant)) in
    let read = rw c.page_index.ensures at (get_or_read _ _ _ low c.index.ensures None) in
    rw (← c.self.view_is) (read ∙ sym (value_of_page _ _ _ there))
