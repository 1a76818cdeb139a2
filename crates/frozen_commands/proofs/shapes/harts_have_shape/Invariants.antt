use Rattle.std.proofs.Common.{take}
use Rattle.std.specs.Prelude.{All}
use Rattle.frozen_run.specs.Shapes.{HasHartShape}
use Rattle.frozen_commands.proofs.shapes.harts_have_shape.Given as goal

abbrev pub invariant-loop-hart : goal.invariant-loop-hart
invariant-loop-hart l = All HasHartShape (take l.hart-index l.harts)
