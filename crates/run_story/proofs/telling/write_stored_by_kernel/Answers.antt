use Rattle.std.proofs.Common.{[], ◌∷◌, codes, decimal}
use Rattle.std.proofs.Output.{has_written_of_eq}
use Rattle.run_story.specs.Passages.{change_text}
use Rattle.run_story.proofs.Joined.{joined}
use Rattle.run_story.proofs.telling.write_stored_by_kernel.Goals as goal

pub returns : goal.returns
returns g c = λ plain ok.
    has_written_of_eq _ _ _ _ _
    (joined (codes "the kernel, on hart ") (decimal c.args.hart ∷ codes ", stored to frame " ∷ decimal c.args.frame
    ∷ codes ": " ∷ change_text c.args.change ∷ []))
    (c.write.ensures.writes plain ok)
