use Rattle.std.proofs.Common.{sym, arith}
use Rattle.std.proofs.lemmas.Grind.{common_steps}
use Rattle.svg_text.specs.Labels.{signs_of}
use Rattle.svg_text.proofs.Putting.{put_more, put_nothing, signs_few}
use Rattle.svg_text.proofs.label.Label.text.Goals as goal

pub loop-byte-init : goal.loop-byte-init
loop-byte-init c = sym (put_nothing (signs_of c.args.self.now) (signs_few c.args.self.now))

pub loop-byte-preserved : goal.loop-byte-preserved
loop-byte-preserved c =
    put_more _ _ _ _ _ _ c.loop-byte.invariant c.sign.ensures (grind (arith, common_steps))
