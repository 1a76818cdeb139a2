use Rattle.std.proofs.Common.{◌++◌, ℕ, List, [], ◌∷◌, ap, refl, codes, decimal}
use Rattle.std.proofs.lemmas.Grind.{put_two}
use Rattle.run_story.proofs.Joined.{joined}
use Rattle.run_story.proofs.story.write_some.Goals as goal

pub returns : goal.returns
returns g c = λ plain ok.
    let first = c.in_ok-write.ensures.writes plain refl in
    let second = c.write-2.ensures.writes first.plain ok in
    put_two g.W.Write.write_str_gives _ _ _ _ _ _ first second
    (ap (λ (t : List ℕ). t ++ (codes "resumes that were refused: " ++ decimal c.args.refused ++ codes ".\n"))
    (joined (codes "The run has ") (decimal c.args.steps ∷ codes " steps; programs that ended: "
    ∷ decimal c.args.ended ∷ codes "; " ∷ [])))
