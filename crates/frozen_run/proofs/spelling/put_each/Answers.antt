use Rattle.std.proofs.Common.{◌∙◌}
use Rattle.frozen_run.proofs.WritingFacts.{gives_each}
use Rattle.frozen_run.proofs.spelling.put_each.Goals as goal

pub loop-item-preserved : goal.loop-item-preserved
loop-item-preserved g c = record {
  same_shelf = c.put_to.ensures.same_shelf ∙ c.loop-item.invariant.same_shelf;
  gives = gives_each _ _ _ _ c.loop-item-test.true c.item-item.is c.loop-item.invariant.gives c.put_to.ensures.gives;
}
