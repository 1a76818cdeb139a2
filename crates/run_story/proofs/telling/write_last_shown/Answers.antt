use Rattle.std.proofs.Common.{◌++◌, ℕ, List, [], ◌∷◌, ap, refl, codes, decimal}
use Rattle.std.proofs.lemmas.Grind.{put_two}
use Rattle.hex.specs.Hex.{encode_lower}
use Rattle.run_story.specs.Passages.{page_name}
use Rattle.run_story.proofs.Joined.{joined}
use Rattle.run_story.proofs.telling.write_last_shown.Goals as goal

pub returns : goal.returns
returns g c = λ plain ok.
    let first = c.in_ok-write.ensures.writes plain refl in
    let second = c.write-2.ensures.writes first.plain ok in
    put_two g.W.Write.write_str_gives _ _ _ _ _ _ first second
    (ap (λ (t : List ℕ). t ++ (codes "as ciphertext with the digest " ++ encode_lower c.args.showing.digest))
    (joined (page_name c.args.showing.page) (codes " was last shown, in frame " ∷ decimal c.args.showing.frame
    ∷ codes ", " ∷ [])))
