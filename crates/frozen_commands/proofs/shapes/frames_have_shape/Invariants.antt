use Rattle.std.proofs.Common.{take}
use Rattle.std.specs.Prelude.{All}
use Rattle.frozen_run.specs.Shapes.{HasFrameShape}
use Rattle.frozen_commands.proofs.shapes.frames_have_shape.Given as goal

abbrev pub invariant-loop-frame : goal.invariant-loop-frame
invariant-loop-frame l = All HasFrameShape (take l.frame-index l.frames)
