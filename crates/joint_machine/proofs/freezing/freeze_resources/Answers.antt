use Rattle.std.proofs.Common.{◌∙◌, refl, arith}
use Rattle.joint_machine.proofs.Freezes.{none_of_resources, resource_added}
use Rattle.joint_machine.proofs.freezing.freeze_resources.Goals as goal

pub loop-resource-init : goal.loop-resource-init
loop-resource-init c = record {
  capacity = refl;
  few = omega arith;
  added = none_of_resources c.args.pager.now.table c.args.domain c.args.frozen.now.items;
}

pub loop-resource-preserved : goal.loop-resource-preserved
loop-resource-preserved c =
    let at = c.loop-resource.invariant in
    let done = c.freeze_pages.ensures in record {
      capacity = done.capacity ∙ at.capacity;
      few = (let a = at.few in let b = done.few in omega (arith, a, b));
      added =
          resource_added c.args.pager.now.table c.args.domain c.loop-resource.resource c.args.frozen.now.items
          c.loop-resource.frozen.items c.freeze_pages.new.frozen.items at.added done.added;
    }
