use Rattle.std.proofs.Common.{Bool, false, arith}
use Rattle.std.proofs.lemmas.Grind.{common_steps}
use Rattle.resource_map.proofs.Places.{places-more}
use Rattle.resource_map.proofs.copying.numbers.Goals as goal

pub loop-n-preserved : goal.loop-n-preserved
loop-n-preserved c =
    let more = places-more (λ (mark : Bool). mark) c.args.marks.now c.loop-n.n false (omega (arith, c.told-marks)) in
    grind (arith, common_steps)
