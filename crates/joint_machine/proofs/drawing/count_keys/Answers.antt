use Rattle.joint_machine.proofs.Drawn.{counts_none}
use Rattle.joint_machine.proofs.drawing.count_keys.Goals as goal

pub loop-p-init : goal.loop-p-init
loop-p-init c = counts_none c.args.programs.now
