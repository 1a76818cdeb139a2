use Rattle.std.proofs.Common.{◌+◌, ◌-◌, ap, arith, refl}
use Rattle.protect_meta.specs.PageRow.{PageRow, at_page}
use Rattle.protect_meta.proofs.Rows.{Span, value_after_copy}
use Rattle.protect_meta.proofs.page_map.PageMap.copy_range.Goals as goal

pub returns : goal.returns
unfolding at_page
returns g c =
    let e = ap (λ (t : PageRow _). t.domains) c.self.view_is in
    let source : Span c.args.domain c.args.from = record {
      first = c.page_index-first.result;
      count = 1024;
      starts = c.page_index-first.ensures;
      all = refl;
      resource_is = c.requires.from;
    } in
    let target : Span c.args.domain c.args.to = record {
      first = c.page_index.result;
      count = (c.page_index-first.result + 1024) - c.page_index-first.result;
      starts = c.page_index.ensures;
      all = omega arith;
      resource_is = c.requires.to;
    } in
    rw (← c.self.view_is)
    (record {
      values_are = value_after_copy _ source target _ _ (omega arith) c.copy_within.ensures.by_index;
      domains_stay = refl;
    })
