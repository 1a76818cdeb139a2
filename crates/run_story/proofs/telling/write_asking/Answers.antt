use Rattle.std.proofs.Common.{◌++◌, ℕ, List, [], ◌∷◌, ap, refl, codes, decimal}
use Rattle.std.proofs.lemmas.Grind.{put_two}
use Rattle.run_story.proofs.Joined.{joined}
use Rattle.run_story.proofs.telling.write_asking.Goals as goal

pub returns : goal.returns
returns g c = λ plain ok.
    let first = c.in_ok-write.ensures.writes plain refl in
    let second = c.write-2.ensures.writes first.plain ok in
    put_two g.W.Write.write_str_gives _ _ _ _ _ _ first second
    (ap (λ (t : List ℕ). t ++ (codes "asked to resume context " ++ decimal c.args.ctx ++ codes ".\n"))
    (joined (codes "A violation at step ") (decimal c.args.step ∷ codes ": the kernel, on hart "
    ∷ decimal c.args.hart ∷ codes ", " ∷ [])))
