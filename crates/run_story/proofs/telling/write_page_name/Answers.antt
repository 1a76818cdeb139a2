use Rattle.std.proofs.Common.{[], ◌∷◌, codes, decimal}
use Rattle.std.proofs.Output.{has_written_of_eq}
use Rattle.run_story.proofs.Joined.{joined}
use Rattle.run_story.proofs.telling.write_page_name.Goals as goal

pub returns : goal.returns
returns g c = λ plain ok.
    has_written_of_eq _ _ _ _ _
    (joined (codes "page ") (decimal c.args.page.page ∷ codes " of resource " ∷ decimal c.args.page.resource
    ∷ codes " of program " ∷ decimal c.args.page.domain ∷ []))
    (c.write.ensures.writes plain ok)
