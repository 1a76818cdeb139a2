use Rattle.std.proofs.Common.{[], ◌∷◌, codes, decimal}
use Rattle.std.proofs.Output.{has_written_of_eq}
use Rattle.run_story.proofs.Joined.{joined}
use Rattle.run_story.proofs.telling.write_running.Goals as goal

pub returns : goal.returns
returns g c = λ plain ok.
    has_written_of_eq _ _ _ _ _
    (joined (codes "A violation at step ") (decimal c.args.step ∷ codes ": context " ∷ decimal c.args.ctx
    ∷ codes ", on hart " ∷ decimal c.args.hart ∷ codes ", " ∷ []))
    (c.write.ensures.writes plain ok)
