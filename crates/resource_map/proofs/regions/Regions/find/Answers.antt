use Rattle.std.proofs.Common.{ap, ◌∙◌, sym, subst}
use Rattle.std.specs.Prelude.{AllPairs, find}
use Rattle.cloak_model.specs.Resources.{is_inside}
use Rattle.resource_map.specs.Kept.{EndsBelow}
use Rattle.resource_map.proofs.RegionLists.{find_stops}
use Rattle.resource_map.proofs.regions.Regions.find.Goals as goal

pub returns-then-va-g-clause-value : goal.returns-then-va-g-clause-value
returns-then-va-g-clause-value c =
    let items = c.as_slice-g-items.ensures.value in
    let apart = subst (AllPairs EndsBelow) (sym items) c.self.invariant.1 in
    sym (find_stops c.args.va c.as_slice-g-items.result.now c.loop-g.g-index _ c.loop-g-test.true apart c.if-va-g.true)
    ∙ (c.loop-g.invariant ∙ ap (find (is_inside c.args.va)) (items ∙ c.self.view_is))
