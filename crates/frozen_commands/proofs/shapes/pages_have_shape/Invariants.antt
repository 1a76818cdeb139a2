use Rattle.std.proofs.Common.{take}
use Rattle.std.specs.Prelude.{All}
use Rattle.frozen_run.specs.Shapes.{HasRecordedShape}
use Rattle.frozen_commands.proofs.shapes.pages_have_shape.Given as goal

abbrev pub invariant-loop-page : goal.invariant-loop-page
invariant-loop-page l = All HasRecordedShape (take l.page-index l.pages)
