use Rattle.std.proofs.Common.{◌≡◌, ◌∙◌, Option, Ok, ap, sym, subst}
use Rattle.std.specs.Prelude.{IsSome}
use Rattle.cloak_model.specs.Contexts.{Context, context_at}
use Rattle.cloak_model.specs.DomainState.{Control}
use Rattle.hypercalls.proofs.Fitted.{fits_forked}
use Rattle.hypercalls.proofs.Forking.{copied, stays_there, fork_follows, refused_follows, stopped_follows}
use Rattle.hypercalls.proofs.control.Control.fork_call.Goals as goal

pub invariant_of-self-in-Child : goal.invariant_of-self-in-Child
invariant_of-self-in-Child g c =
    let d : Control = record { number = c.self.inside.number; contexts = c.self.inside.contexts; resources = c.self.inside.resources; ended = c.self.inside.ended } in
    let used = subst (λ (k : Control). IsSome (context_at k.contexts c.args.slot)) (sym c.self.view_is) c.requires.used in (
      fits_forked d _ _ _ c.self.invariant.0 (c.fork_space.ensures.in_use c.self.invariant.0.spaces)
          (copied d _ _ c.args.slot c.fork_space.result c.in-Child.ctx c.in-Child.is used c.fork_space.ensures.forked c.fork_space.ensures.full),
      λ never. cc,
    )

pub answer-requires-in-Child : goal.answer-requires-in-Child
answer-requires-in-Child g c =
    let d : Control = record { number = c.self.inside.number; contexts = c.self.inside.contexts; resources = c.self.inside.resources; ended = c.self.inside.ended } in
    let used = subst (λ (k : Control). IsSome (context_at k.contexts c.args.slot)) (sym c.self.view_is) c.requires.used in
    subst (λ (o : Option Context). IsSome o)
    (sym (stays_there d _ _ c.args.slot c.fork_space.result c.in-Child.ctx c.in-Child.is used c.fork_space.ensures.forked c.fork_space.ensures.full)) used

pub returns-in-Child-clause-follows : goal.returns-in-Child-clause-follows
returns-in-Child-clause-follows g c =
    let d : Control = record { number = c.self.inside.number; contexts = c.self.inside.contexts; resources = c.self.inside.resources; ended = c.self.inside.ended } in
    let used = subst (λ (k : Control). IsSome (context_at k.contexts c.args.slot)) (sym c.self.view_is) c.requires.used in
    rw (← c.self.view_is)
    (fork_follows d _ _ c.args.slot c.fork_space.result c.in-Child.ctx c.in-Child.is used c.fork_space.ensures.forked c.fork_space.ensures.full
    g.M.PageSide.stands_for _ _ _ _ c.answer-in-Child.ensures.answers c.fork_space.ensures.follows)

pub returns-in-Refused-clause-follows : goal.returns-in-Refused-clause-follows
returns-in-Refused-clause-follows g c =
    let d : Control = record { number = c.self.inside.number; contexts = c.self.inside.contexts; resources = c.self.inside.resources; ended = c.self.inside.ended } in
    let used = subst (λ (k : Control). IsSome (context_at k.contexts c.args.slot)) (sym c.self.view_is) c.requires.used in
    rw (← c.self.view_is)
    (refused_follows g.M.PageSide.stands_for _ _ d c.args.slot _ _ used c.fork_space.result c.in-Refused.fault _ c.in-Refused.is
    (c.fork_space.ensures.refused_unchanged _ c.in-Refused.is) (rw c.fault_word.ensures at c.answer.ensures.answers) c.fork_space.ensures.follows)

pub returns-in-Stopped-clause-follows : goal.returns-in-Stopped-clause-follows
returns-in-Stopped-clause-follows g c =
    let d : Control = record { number = c.self.inside.number; contexts = c.self.inside.contexts; resources = c.self.inside.resources; ended = c.self.inside.ended } in
    let used = subst (λ (k : Control). IsSome (context_at k.contexts c.args.slot)) (sym c.self.view_is) c.requires.used in
    rw (← c.self.view_is)
    (stopped_follows g.M.PageSide.stands_for _ _ d c.args.slot _ _ used c.fork_space.result c.in-Stopped.is
    (c.fork_space.ensures.stopped_unchanged c.in-Stopped.is) c.fork_space.ensures.follows)
