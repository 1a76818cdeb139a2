use Rattle.std.proofs.Common.{arith}
use Rattle.guest_kernel.proofs.Drawn.{early_turn, later_turn}
use Rattle.guest_kernel.proofs.drawing.hart_of_turn.Goals as goal

pub returns-then-turn-harts : goal.returns-then-turn-harts
returns-then-turn-harts c = early_turn c.args.n c.args.turn _ c.harts-harts.ensures c.if-turn-harts.true

pub returns-else-turn-harts : goal.returns-else-turn-harts
returns-else-turn-harts c =
    later_turn c.args.n c.args.turn _ _ c.harts-harts.ensures c.if-turn-harts.false
    (c.requires.drawn _ (omega arith))
