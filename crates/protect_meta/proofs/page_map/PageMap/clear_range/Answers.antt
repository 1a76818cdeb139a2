use Rattle.std.proofs.Common.{◌+◌, ◌<◌, arith, length, refl, ap}
use Rattle.protect_meta.specs.PageRow.{PageRow, at_page}
use Rattle.protect_meta.proofs.Rows.{Span, value_after_clear, cleared_start, cleared_more}
use Rattle.protect_meta.proofs.page_map.PageMap.clear_range.Goals as goal

pub loop-i-init : goal.loop-i-init
loop-i-init g c = record { domains = refl; cleared = cleared_start _ _ }

pub loop-i-preserved : goal.loop-i-preserved
loop-i-preserved g c =
    let e = ap (λ (t : PageRow _). t.domains) c.self.view_is in
    let long = c.loop-i.invariant.cleared.long in
    let inside : c.page_index-first.result + c.loop-i.i < length c.loop-i.self-inside.row.items =
    omega (arith, c.self.invariant) in
    record {
      domains = c.loop-i.invariant.domains;
      cleared = cleared_more _ _ _ _ inside c.loop-i.invariant.cleared;
    }

pub invariant_of-self : goal.invariant_of-self
invariant_of-self g c =
    let long = c.loop-i.invariant.cleared.long in
    omega (arith, c.self.invariant)

pub returns : goal.returns
unfolding at_page
returns g c =
    let span : Span c.args.domain c.args.resource = record {
      first = c.page_index-first.result;
      count = c.loop-i.i;
      starts = c.page_index-first.ensures;
      all = omega arith;
      resource_is = c.requires.resource;
    } in
    rw (← c.self.view_is)
    (record {
      values_are = rw c.loop-i.invariant.domains (value_after_clear _ span _ _ c.loop-i.invariant.cleared);
      domains_stay = c.loop-i.invariant.domains;
    })
