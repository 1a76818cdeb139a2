-- The end of a run of which nothing was written, and what was shown of it in part.
use Rattle.std.proofs.Common.{◌≡◌, ◌+◌, ℕ, List, [], ◌∷◌, ◌++◌, length, take, refl, ◌∙◌, ap, subst}
use Rattle.std.proofs.Common.{arith, length-append, Option, Some, None}
use Rattle.std.specs.Prelude.{unwrap_or}
use Rattle.cloak_base.specs.declared.causes.Stop.{Stop}
use Rattle.cloak_base.specs.declared.causes.Stop.TheVariants as stop
use Rattle.io_traits.specs.Told.{Grows, GrowsByFront, Tells}
use Rattle.cloak_model.specs.declared.image.Bundle.{Bundle}
use Rattle.cloak_model.specs.Exchange.{Piece}
use Rattle.cloak_model.specs.Joint.{Moment}
use Rattle.cloak_model.specs.Opening.{RunEdge}
use Rattle.cloak_model.specs.Run.{any_refused, cause_of, closing, first_moment, joint_after, last_stop, run_of, turns_from}
use Rattle.cloak_machine.specs.declared.end.RunEnd.{RunEnd}
use Rattle.cloak_machine.specs.declared.machine.Machine.{Machine}
use Rattle.cloak_machine.specs.Ending.{short_report}
use Rattle.cloak_machine.specs.Standing.{FinishesAs, StandsForMoment}
use Rattle.run_command.specs.Running.{IsEndOf, MadeAll}
use Rattle.record_law.specs.Steps.{moment_after}

-- the end of a machine that made all steps of a run
pub end_of : {E : Type 0} {gave : E → E → List Piece → Type 0} {e f : E} (b : Bundle) (steps : ℕ) (o : RunEdge)
    (machine : Machine) (stopped : Option Stop) (cause : Stop) (end : RunEnd) →
    MadeAll machine stopped (first_moment b o.joint) (turns_from steps (first_moment b o.joint)) →
    cause ≡ unwrap_or stopped stop.Budget →
    ((m : Moment) → StandsForMoment machine m → FinishesAs gave e f end cause m (closing m.joint)) →
    IsEndOf end (run_of b steps o)
unfolding run_of
end_of {E} {gave} {e} {f} b steps o machine stopped cause end all unwrapped each =
    let turns = turns_from steps (first_moment b o.joint) in
    let ends = each (moment_after (first_moment b o.joint) turns) all.stands in
    let closed = closing (joint_after o.joint turns) in
    let stop_is : end.stop ≡ cause_of closed.joint (last_stop None turns) =
    ends.stop ∙ ap (λ (s : Stop). cause_of closed.joint (Some s))
    (unwrapped ∙ ap (λ (s : Option Stop). unwrap_or s stop.Budget) all.last) in
    let count : 0 + length turns ≡ length turns = omega arith in
    record {
      stop = stop_is;
      refused = λ i. any_refused (ends.ended i) (ends.refused i);
      short = ends.short ∙ (λ i. short_report (stop_is i) (count i) closed.joint);
    }
