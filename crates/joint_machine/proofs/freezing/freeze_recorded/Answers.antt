use Rattle.std.proofs.Common.{◌∙◌, refl, arith, ap, length}
use Rattle.joint_machine.proofs.Freezes.{domain_added, none_of_all}
use Rattle.joint_machine.proofs.freezing.freeze_recorded.Goals as goal

pub loop-domain-init : goal.loop-domain-init
loop-domain-init c = record {
  capacity = refl;
  few = (let none = ap length c.requires.empty in omega (arith, none));
  added = c.requires.empty ∙ none_of_all c.args.pager.now.table;
}

pub loop-domain-preserved : goal.loop-domain-preserved
loop-domain-preserved c =
    let at = c.loop-domain.invariant in
    let done = c.freeze_resources.ensures in record {
      capacity = done.capacity ∙ at.capacity;
      few = (let a = at.few in let b = done.few in omega (arith, a, b));
      added =
          domain_added c.args.pager.now.table c.loop-domain.domain c.loop-domain.frozen.items
          c.freeze_resources.new.frozen.items at.added done.added;
    }
