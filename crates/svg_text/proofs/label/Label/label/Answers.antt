use Rattle.std.proofs.Common.{sym, arith}
use Rattle.std.proofs.lemmas.Grind.{common_steps}
use Rattle.svg_text.specs.Labels.{signs_of}
use Rattle.svg_text.proofs.Putting.{put_more, put_nothing, signs_few}
use Rattle.svg_text.proofs.label.Label.label.Goals as goal

pub loop-c-init : goal.loop-c-init
loop-c-init c = sym (put_nothing (signs_of c.args.self.now) (signs_few c.args.self.now))

pub loop-c-preserved : goal.loop-c-preserved
loop-c-preserved c =
    put_more _ _ _ _ _ _ c.loop-c.invariant c.sign.ensures (grind (arith, common_steps))
