use Rattle.std.proofs.Common.{◌∙◌, refl, arith}
use Rattle.joint_machine.proofs.Freezes.{none_of_resource, page_added}
use Rattle.joint_machine.proofs.freezing.freeze_pages.Goals as goal

pub loop-page-init : goal.loop-page-init
loop-page-init c = record {
  capacity = refl;
  few = omega arith;
  added = none_of_resource c.args.pager.now.table c.args.domain c.args.resource c.args.frozen.now.items;
}

pub loop-page-preserved : goal.loop-page-preserved
loop-page-preserved c =
    let at = c.loop-page.invariant in
    let done = c.freeze_page.ensures in record {
      capacity = done.capacity ∙ at.capacity;
      few = (let a = at.few in let b = done.few in omega (arith, a, b));
      added =
          page_added c.args.pager.now.table c.args.domain c.args.resource c.loop-page.page c.args.frozen.now.items
          c.loop-page.frozen.items c.freeze_page.new.frozen.items at.added done.added;
    }
