use Rattle.std.proofs.Common.{◌∙◌, ap}
use Rattle.cloak_model.specs.Contexts.{Context}
use Rattle.run_trace.specs.ProgramTrace.{pages_reached}
use Rattle.run_trace.proofs.ProgramAdds.{ahead_as}
use Rattle.run_trace.proofs.program_ahead.context_ahead.Goals as goal

pub returns : goal.returns
returns c number turns s stands fits =
    let reads = c.word_of-word.ensures number turns s stands fits in
    ahead_as c.context_sight.ensures (ap (λ (x : Context). x.phase) c.c.view_is) reads (c.pages_reached.ensures number turns s stands fits
    ∙ ap (pages_reached s.part c.args.c.now) reads)
