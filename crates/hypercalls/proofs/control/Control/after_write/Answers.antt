use Rattle.std.proofs.Common.{List, Option, ap, sym}
use Rattle.cloak_model.specs.Contexts.{Context}
use Rattle.cloak_model.specs.DomainState.{Control}
use Rattle.thread_context.proofs.Reserving.{same_contexts}
use Rattle.hypercalls.proofs.control.Control.after_write.Goals as goal

pub returns-else-self-clause-contexts : goal.returns-else-self-clause-contexts
returns-else-self-clause-contexts c =
    let d : Control = record { number = c.self.inside.number; contexts = c.self.inside.contexts; resources = c.self.inside.resources; ended = c.self.inside.ended } in
    rw (← c.self.view_is, c.in-Some.is)
    (ap (λ (contexts : List (Option Context)). record d { contexts = contexts }) (sym (same_contexts c.in-Some.word c.self.inside.contexts (c.self.invariant.1 c.if-self.false))))
