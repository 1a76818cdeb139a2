use Rattle.std.proofs.Common.{◌∙◌, ◌<◌, ◌+◌, None, length, replicate, ap, sym, subst, length-set, arith}
use Rattle.cloak_model.specs.Resources.{Resources, all_pages}
use Rattle.domain_page.proofs.Made.{Filled, can_put, put_more, put_none, put_free}
use Rattle.domain_page.proofs.making.put_all.Goals.{in-Some+else-not-can_put, in_default}
use Rattle.domain_page.proofs.making.put_all.Goals as goal

pub returns-then-not-can_put-clause-can : goal.returns-then-not-can_put-clause-can
returns-then-not-can_put-clause-can c = λ can.
    sym c.if-not-can_put.true
    ∙ c.can_put.ensures.1
    (can_put c.args.held.now c.loop-n.n c.in-Some.one c.loop-n.r c.args.r.now can c.loop-n.invariant.filled c.loop-n.invariant.spaces c.in-Some.is
    (omega (arith, c.told-held)))

pub put_resource-requires-clause-free : goal.put_resource-requires-clause-free
put_resource-requires-clause-free c = put_free c.args.held.now c.loop-n.r.held c.loop-n.n c.loop-n.invariant.filled

pub loop-n-preserved : goal.loop-n-preserved
loop-n-preserved c =
    let low : c.loop-n.n < 16 = c.loop-n-test.true in
    let inv = c.loop-n.invariant in
    elim c.match-held-n.branch [
      | in-Some+else-not-can_put w ↦
          let is = w.r-is ∙ w.put_resource.ensures.value in
          let can = w.can_put.ensures.0 w.if-not-can_put.false in
          record {
            pages = omega (arith, w.pages-is, w.put_resource.ensures.pages, ap all_pages w.r-is, inv.pages);
            few = omega (arith, w.pages-is, can.few, inv.pages);
            spaces = ap (λ (r : Resources). r.spaces) is ∙ inv.spaces;
            count = ap (λ (r : Resources). length r.held) is ∙ (length-set c.loop-n.r.held c.loop-n.n _ ∙ inv.count);
            filled = subst (λ (r : Resources). Filled c.args.held.now (replicate 16 None) (c.loop-n.n + 1) r.held) (sym is)
                (put_more c.args.held.now c.loop-n.r.held c.loop-n.n w.in-Some.one (omega (arith, inv.count)) (omega (arith, c.told-held)) low w.in-Some.is inv.filled);
          }
      | in_default w ↦
          record {
            pages = w.pages-is ∙ (inv.pages ∙ ap all_pages (sym w.r-is));
            few = omega (arith, w.pages-is, inv.few);
            spaces = ap (λ (r : Resources). r.spaces) w.r-is ∙ inv.spaces;
            count = ap (λ (r : Resources). length r.held) w.r-is ∙ inv.count;
            filled = subst (λ (r : Resources). Filled c.args.held.now (replicate 16 None) (c.loop-n.n + 1) r.held) (sym w.r-is)
                (put_none c.args.held.now c.loop-n.r.held c.loop-n.n (omega (arith, inv.count)) (omega (arith, c.told-held)) low w.in_default.is inv.filled);
          }
    ]
