use Rattle.std.proofs.Common.{subst, arith}
use Rattle.std.proofs.lemmas.List.{take_all}
use Rattle.std.proofs.lemmas.List.Elements.{All-more}
use Rattle.std.specs.Prelude.{All}
use Rattle.frozen_run.specs.Shapes.{HasFrameShape}
use Rattle.frozen_commands.proofs.shapes.frames_have_shape.Goals as goal

pub loop-frame-preserved : goal.loop-frame-preserved
loop-frame-preserved c =
    All-more HasFrameShape c.args.frames.now c.loop-frame.frame-index _ c.loop-frame-test.true
    c.loop-frame.invariant c.frame_has_shape.ensures

pub returns : goal.returns
returns c =
    subst (All HasFrameShape) (take_all c.loop-frame.frame-index c.args.frames.now (omega (arith, c.loop-frame-test.false)))
    c.loop-frame.invariant
