use Rattle.joint_machine.proofs.ThawedParts.{hart_thawed}
use Rattle.joint_machine.proofs.thawing.thaw_hart.Goals as goal

pub returns : goal.returns
returns c marks h is shown =
    hart_thawed marks h c.args.from.now c.args.number c.thaw_csrs.result is shown c.thaw_csrs.ensures
