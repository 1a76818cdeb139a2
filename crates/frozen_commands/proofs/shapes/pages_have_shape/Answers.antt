use Rattle.std.proofs.Common.{subst, arith}
use Rattle.std.proofs.lemmas.List.{take_all}
use Rattle.std.proofs.lemmas.List.Elements.{All-more}
use Rattle.std.specs.Prelude.{All}
use Rattle.frozen_run.specs.Shapes.{HasRecordedShape}
use Rattle.frozen_commands.proofs.shapes.pages_have_shape.Goals as goal

pub loop-page-preserved : goal.loop-page-preserved
loop-page-preserved c =
    All-more HasRecordedShape c.args.pages.now c.loop-page.page-index _ c.loop-page-test.true
    c.loop-page.invariant c.recorded_has_shape.ensures

pub returns : goal.returns
returns c =
    subst (All HasRecordedShape) (take_all c.loop-page.page-index c.args.pages.now (omega (arith, c.loop-page-test.false)))
    c.loop-page.invariant
