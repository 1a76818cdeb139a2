use Rattle.std.proofs.Common.{refl}
use Rattle.std.proofs.lemmas.Grind.{put_three}
use Rattle.run_story.proofs.story.write_none.Goals as goal

pub returns : goal.returns
returns g c = λ plain ok.
    let first = c.in_ok-write.ensures.writes plain refl in
    let second = c.in_ok-write_end_reason.ensures first.plain refl in
    let third = c.write_str.ensures.writes second.plain ok in
    put_three g.W.Write.write_str_gives _ _ _ _ _ _ _ _ first second third refl
