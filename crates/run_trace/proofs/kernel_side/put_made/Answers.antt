use Rattle.std.proofs.Common.{◌∙◌}
use Rattle.kernel_report.proofs.PutFacts.{text_is}
use Rattle.run_trace.proofs.KernelAdds.{made_as}
use Rattle.run_trace.proofs.kernel_side.put_made.Goals as goal

pub returns-in-None : goal.returns-in-None
returns-in-None g c turns s next stands ended = rw c.in-None.is c.text.ensures

pub returns-in-Some : goal.returns-in-Some
returns-in-Some g c turns s next stands ended =
    let told = rw c.in-Some.is at ended in
    rw c.in-Some.is (text_is c.put_hart_step.ensures (made_as _ s next _ _ _ (c.sight_at-now.ensures turns next stands)
    (c.frames.ensures.seen turns next stands) (c.ending.ensures ∙ told)))
