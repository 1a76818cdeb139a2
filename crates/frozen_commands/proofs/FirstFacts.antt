-- The first steps of a run, by how they ended.
use Rattle.std.proofs.Common.{◌≡◌, ◌∙◌, ℕ, Bool, true, false, List, refl, sym, ap, subst, Option, Some, None}
use Rattle.std.specs.Prelude.{is_some, unwrap_or}
use Rattle.cloak_base.specs.declared.causes.Stop.{Stop}
use Rattle.cloak_base.specs.declared.causes.Stop.TheVariants as stop
use Rattle.cloak_machine.specs.declared.machine.Machine.{Machine}
use Rattle.cloak_machine.specs.Standing.{StandsForMoment}
use Rattle.cloak_model.specs.declared.image.Bundle.{Bundle}
use Rattle.cloak_model.specs.Exchange.{Piece, Emits}
use Rattle.cloak_model.specs.Joint.{Moment}
use Rattle.cloak_model.specs.Opening.{RunEdge}
use Rattle.cloak_model.specs.Run.{Run, closing, first_moment, last_stop, run_of, turns_from}
use Rattle.frozen_state.specs.Continuing.{first_pieces}
use Rattle.command_parts.specs.declared.status.Status.{Status}
use Rattle.command_parts.specs.declared.status.Status.TheVariants as status
use Rattle.run_command.specs.Running.{BeginsRun, EndsRun}
use Rattle.run_command.proofs.RunFacts.{writes-front, writes-whole}
use Rattle.frozen_commands.specs.declared.first.First.TheVariants as first
use Rattle.frozen_commands.specs.Freezing.{WritesFirst, due_if, is_stopped}

-- nothing more was given once the outlet failed, whether a step would have stopped the run or not
front_if : {E : Type 0} {gave : E → E → List Piece → Type 0} {failed : Bool} {e f : E} {machine : Machine}
    {stopped : Option Stop} (stops : Bool) (b : Bundle) (steps : ℕ) (o : RunEdge) →
    BeginsRun gave failed e f machine stopped b o (turns_from steps (first_moment b o.joint)) → failed ≡ true →
    ((ps : List Piece) → Emits gave f f ps) → Emits gave e f (due_if stops (run_of b steps o))
unfolding run_of first_pieces
front_if {E} {gave} {failed} {e} {f} {machine} {stopped} true b steps o begins broken none =
    let front = writes-front status.Done b steps o begins broken none in front.emits
front_if {E} {gave} {failed} {e} {f} {machine} {stopped} false b steps o begins broken none = begins.emits

pub first_front : {E : Type 0} {gave : E → E → List Piece → Type 0} {failed : Bool} {e f : E} {machine : Machine}
    {stopped : Option Stop} (b : Bundle) (steps : ℕ) (o : RunEdge) →
    BeginsRun gave failed e f machine stopped b o (turns_from steps (first_moment b o.joint)) → failed ≡ true →
    ((ps : List Piece) → Emits gave f f ps) → WritesFirst gave e f first.Failed b (run_of b steps o)
first_front {E} {gave} {failed} {e} {f} {machine} {stopped} b steps o begins broken none =
    record { emits = front_if (is_stopped (run_of b steps o)) b steps o begins broken none; ended = tt }

-- no step stopped the run
pub first_reached : {E : Type 0} {gave : E → E → List Piece → Type 0} {failed : Bool} {e f : E} {machine : Machine}
    {stopped : Option Stop} (b : Bundle) (steps : ℕ) (o : RunEdge) →
    BeginsRun gave failed e f machine stopped b o (turns_from steps (first_moment b o.joint)) → failed ≡ false →
    stopped ≡ None → WritesFirst gave e f (first.Reached machine) b (run_of b steps o)
unfolding run_of first_pieces
first_reached {E} {gave} {failed} {e} {f} {machine} {stopped} b steps o begins well none =
    let all = begins.made well in
    let last : last_stop None (turns_from steps (first_moment b o.joint)) ≡ None = sym all.last ∙ none in
    let goes : is_stopped (run_of b steps o) ≡ false = ap (λ (s : Option Stop). is_some s) last in
    record {
      emits = subst (λ (x : Bool). Emits gave e f (due_if x (run_of b steps o))) (sym goes) begins.emits;
      ended = (goes, all.stands);
    }

-- a step stopped it
pub first_ended : {E : Type 0} {gave : E → E → List Piece → Type 0} {failed : Bool} {e f h : E} {machine : Machine}
    {stopped : Option Stop} {cause : Stop} {given : Status} (b : Bundle) (steps : ℕ) (o : RunEdge) →
    BeginsRun gave failed e f machine stopped b o (turns_from steps (first_moment b o.joint)) → failed ≡ false →
    stopped ≡ Some cause →
    ((m : Moment) → StandsForMoment machine m → EndsRun gave f h given cause m.steps (closing m.joint)) →
    WritesFirst gave e h (first.Ended given) b (run_of b steps o)
unfolding run_of
first_ended {E} {gave} {failed} {e} {f} {h} {machine} {stopped} {cause} {given} b steps o begins well is ends =
    let all = begins.made well in
    let last : last_stop None (turns_from steps (first_moment b o.joint)) ≡ Some cause = sym all.last ∙ is in
    let stops : is_stopped (run_of b steps o) ≡ true = ap (λ (s : Option Stop). is_some s) last in
    let whole = writes-whole {failed = false} b steps o begins well
    (sym (ap (λ (s : Option Stop). unwrap_or s stop.Budget) is)) ends in
    record {
      emits = subst (λ (x : Bool). Emits gave e h (due_if x (run_of b steps o))) (sym stops) whole.emits;
      ended = (stops, whole.status refl);
    }

-- of which nothing is told, as the outlet failed at the end
pub first_unended : {E : Type 0} {gave : E → E → List Piece → Type 0} {e f : E} {given : Status} {b : Bundle} {r : Run} →
    WritesFirst gave e f (first.Ended given) b r → WritesFirst gave e f first.Failed b r
first_unended {E} {gave} {e} {f} {given} {b} {r} writes = record { emits = writes.emits; ended = tt }
