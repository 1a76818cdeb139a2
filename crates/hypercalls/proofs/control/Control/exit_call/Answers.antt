use Rattle.std.proofs.Common.{rules, subst, sym}
use Rattle.std.specs.Prelude.{IsSome}
use Rattle.cloak_model.specs.Contexts.{context_at}
use Rattle.cloak_model.specs.DomainState.{Control}
use Rattle.cloak_model.specs.Hypercalls as hypercalls
use Rattle.hypercalls.proofs.Forking.{end_follows}
use Rattle.hypercalls.proofs.Fitted.{fits_ended, fits_same}
use Rattle.hypercalls.proofs.control.Control.exit_call.Goals.{in-Kept, in-SpaceGone, in-Stopped}
use Rattle.hypercalls.proofs.control.Control.exit_call.Goals as goal

pub invariant_of-self : goal.invariant_of-self
invariant_of-self g c = elim c.match-end_context.branch [
  | in-Kept w ↦ (fits_ended _ _ _ _ c.args.slot c.self.invariant.0 (c.end_context.ensures.in_use c.self.invariant.0.spaces) (c.end_context.ensures.kept_leaves w.in-Kept.is), λ never. cc)
  | in-SpaceGone w ↦ (fits_ended _ _ _ _ c.args.slot c.self.invariant.0 (c.end_context.ensures.in_use c.self.invariant.0.spaces) (c.end_context.ensures.gone_leaves _ w.in-SpaceGone.is), λ never. cc)
  | in-Stopped w ↦ (fits_same _ _ _ c.self.invariant.0 (c.end_context.ensures.stopped_unchanged w.in-Stopped.is), λ never. cc)
]

pub returns-clause-follows : goal.returns-clause-follows
unfolding hypercalls.end_told
returns-clause-follows g c =
    let d : Control = record { number = c.self.inside.number; contexts = c.self.inside.contexts; resources = c.self.inside.resources; ended = c.self.inside.ended } in
    let used = subst (λ (k : Control). IsSome (context_at k.contexts c.args.slot)) (sym c.self.view_is) c.requires.used in
    rw (← c.self.view_is)
    (end_follows g.M.PageSide.stands_for _ _ d c.args.slot _ _ used c.end_context.result _
    (elim c.match-end_context.branch [
      | in-Kept w ↦ rw (w.in-Kept.is, w.result-is) (search rules)
      | in-SpaceGone w ↦ rw (w.in-SpaceGone.is, w.result-is) (search rules)
      | in-Stopped w ↦ rw (w.in-Stopped.is, w.result-is) (search rules)
    ]) c.end_context.ensures.follows)
