use Rattle.std.proofs.Common.{◌≡◌}
use Rattle.std.specs.Prelude.{map}
use Rattle.cloak_model.specs.Opening.{numbers_below}
use Rattle.guest_kernel.specs.Drawing.{hart_of_turn}
use Rattle.guest_kernel.proofs.generating.schedule.Given as goal

-- the turns so far
abbrev pub invariant-loop-turn : goal.invariant-loop-turn
invariant-loop-turn l = l.out.items ≡ map (hart_of_turn l.fn.n) (numbers_below l.turn)
