use Rattle.std.proofs.Common.{arith}
use Rattle.guest_kernel.proofs.Drawn.{rounds_are}
use Rattle.guest_kernel.proofs.drawing.rounds.Goals as goal

pub returns : goal.returns
returns c = rounds_are c.args.n c.args.program _ _ c.harts.ensures (c.requires.drawn _ (omega arith))
