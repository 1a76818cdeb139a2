use Rattle.std.proofs.Common.{◌++◌, List, ℕ, [], ◌∷◌, ap, refl, codes}
use Rattle.std.proofs.lemmas.Grind.{put_three}
use Rattle.cloak_model.specs.Report.{hexadecimal}
use Rattle.run_story.specs.Passages.{frame_name, table_changed}
use Rattle.run_story.proofs.Joined.{joined}
use Rattle.run_story.proofs.telling.write_leads.Goals as goal

pub returns : goal.returns
returns g c = λ plain ok.
    let first = c.in_ok-write_table_changed.ensures plain refl in
    let second = c.in_ok-write_word.ensures first.plain refl in
    let third = c.write.ensures.writes second.plain ok in
    put_three g.W.Write.write_str_gives _ _ _ _ _ _ _ _ first second third
    (ap (λ (t : List ℕ). table_changed c.args.ctx ++ (hexadecimal c.args.address ++ t))
    (joined (codes " led to ") (frame_name c.args.from ∷ codes ", and now leads to " ∷ frame_name c.args.to ∷ [])))
