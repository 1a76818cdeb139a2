use Rattle.joint_machine.proofs.Started.{started_next}
use Rattle.joint_machine.proofs.starting.start_domains.Goals as goal

pub loop-number-preserved : goal.loop-number-preserved
loop-number-preserved c =
    started_next c.loop-number.domains.items c.push.new.self.items c.open.result c.loop-number.number
    c.index-programs-number.result c.args.programs.now c.loop-number.invariant c.in_ok-push.ensures.items
    c.open.ensures.starts c.open.ensures.number c.loop-number-test.true c.index-programs-number.is
