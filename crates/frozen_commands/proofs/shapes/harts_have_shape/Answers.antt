use Rattle.std.proofs.Common.{subst, arith}
use Rattle.std.proofs.lemmas.List.{take_all}
use Rattle.std.proofs.lemmas.List.Elements.{All-more}
use Rattle.std.specs.Prelude.{All}
use Rattle.frozen_run.specs.Shapes.{HasHartShape}
use Rattle.frozen_commands.proofs.shapes.harts_have_shape.Goals as goal

pub loop-hart-preserved : goal.loop-hart-preserved
loop-hart-preserved c =
    All-more HasHartShape c.args.harts.now c.loop-hart.hart-index c.hart-item.result c.loop-hart-test.true
    c.loop-hart.invariant (subst HasHartShape c.hart-item.is c.hart_has_shape.ensures)

pub returns : goal.returns
returns c =
    subst (All HasHartShape) (take_all c.loop-hart.hart-index c.args.harts.now (omega (arith, c.loop-hart-test.false)))
    c.loop-hart.invariant
