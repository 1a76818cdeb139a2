use Rattle.std.proofs.Common.{◌≡◌, ◌∙◌, ◌<◌, ◌+◌, None, map, length, replicate, get_or, ap, sym, subst, length-set, arith}
use Rattle.std.specs.Prelude.{is_some}
use Rattle.std.proofs.lemmas.List.{get_or_default}
use Rattle.cloak_model.specs.Resources.{Resources}
use Rattle.domain_page.specs.Making.{emptied}
use Rattle.domain_page.proofs.Made.{Filled, open_more, open_none}
use Rattle.domain_page.proofs.making.opened.Goals.{then-is_some, else-is_some}
use Rattle.domain_page.proofs.making.opened.Goals as goal

pub loop-space-preserved : goal.loop-space-preserved
loop-space-preserved c =
    let low : c.loop-space.space < 8 = c.loop-space-test.true in
    let inv = c.loop-space.invariant in
    let long = c.type_inv.spaces in
    let there : is_some (get_or c.args.spaces.now c.loop-space.space None) ≡ c.is_some.result =
    ap is_some (get_or_default c.args.spaces.now c.loop-space.space None c.index-spaces-space.result (omega (arith, long))) ∙ sym c.is_some.ensures in
    elim c.if-is_some.branch [
      | then-is_some w ↦
          let is = w.r-is ∙ w.open_space.ensures.value in
          record {
            held = ap (λ (r : Resources). r.held) is ∙ inv.held;
            count = ap (λ (r : Resources). length r.spaces) is ∙ (length-set c.loop-space.r.spaces c.loop-space.space _ ∙ inv.count);
            filled = subst (λ (r : Resources). Filled (map emptied c.args.spaces.now) (replicate 8 None) (c.loop-space.space + 1) r.spaces) (sym is)
                (open_more c.args.spaces.now c.loop-space.r.spaces c.loop-space.space inv.count long low (there ∙ w.if-is_some.true) inv.filled);
          }
      | else-is_some w ↦
          record {
            held = ap (λ (r : Resources). r.held) w.r-is ∙ inv.held;
            count = ap (λ (r : Resources). length r.spaces) w.r-is ∙ inv.count;
            filled = subst (λ (r : Resources). Filled (map emptied c.args.spaces.now) (replicate 8 None) (c.loop-space.space + 1) r.spaces) (sym w.r-is)
                (open_none c.args.spaces.now c.loop-space.r.spaces c.loop-space.space inv.count long low (there ∙ w.if-is_some.false) inv.filled);
          }
    ]
