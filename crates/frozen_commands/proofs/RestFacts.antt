-- The rest of a run.
use Rattle.std.proofs.Common.{◌≡◌, ◌∙◌, ◌+◌, ℕ, suc, Bool, true, false, List, [], ◌∷◌, ◌++◌, length, refl, sym, ap, subst, append_assoc, arith, codes, Option, Some, None}
use Rattle.std.specs.Prelude.{unwrap_or}
use Rattle.cloak_base.specs.declared.causes.Stop.{Stop}
use Rattle.cloak_base.specs.declared.causes.Stop.TheVariants as stop
use Rattle.cloak_machine.specs.declared.machine.Machine.{Machine}
use Rattle.cloak_machine.specs.Standing.{StandsForMoment}
use Rattle.cloak_model.specs.declared.image.Bundle.{Bundle}
use Rattle.cloak_model.specs.Items as item
use Rattle.cloak_model.specs.Exchange.{Piece, shown, item_pieces, Emits}
use Rattle.cloak_model.specs.Joint.{Moment}
use Rattle.cloak_model.specs.Parts.{Joint}
use Rattle.cloak_model.specs.Report.{report}
use Rattle.cloak_model.specs.Run.{any_refused, cause_of, closing, joint_after, last_stop, turns_from, turns_pieces}
use Rattle.frozen_state.specs.Continuing.{due_after, next_moment, pieces_after, run_on, without_past}
use Rattle.command_parts.specs.declared.status.Status.{Status}
use Rattle.run_command.specs.Running.{EndsRun, RunsSteps, last_pieces, status_of}
use Rattle.cloak_model.specs.Run.{NoClash, NoClashYet}
use Rattle.run_command.proofs.RunFacts.{emits_as}
use Rattle.cloak_model.proofs.Emitting.{emits_then}
use Rattle.joint_machine.proofs.Clashed.{closing_unclashed}
use Rattle.frozen_commands.specs.Thawing.{WritesRest}
use Rattle.record_law.specs.Steps.{moment_after}

-- none clashed in its steps, if none did up to its closing
pub rest_unclashed : (b : Bundle) (n : ℕ) (j : Joint) (steps : ℕ) → NoClash (run_on b n j steps) →
    NoClashYet (joint_after (next_moment b n j).joint (turns_from steps (next_moment b n j)))
unfolding run_on next_moment
rest_unclashed b n j steps none =
    closing_unclashed (joint_after (without_past j) (turns_from steps (next_moment b n j))) none

-- the pieces of its steps, and those after them, are what is due
pieces_of_rest : (b : Bundle) (n : ℕ) (j : Joint) (steps : ℕ) →
    let turns = turns_from steps (next_moment b n j) in
    let closed = closing (joint_after (without_past j) turns) in
    turns_pieces (suc n) turns ++ last_pieces (cause_of closed.joint (last_stop None turns)) (n + length turns) closed
    ≡ due_after n (run_on b n j steps)
unfolding due_after pieces_after run_on
pieces_of_rest b n j steps =
    let turns = turns_from steps (next_moment b n j) in
    let closed = closing (joint_after (without_past j) turns) in
    let cause = cause_of closed.joint (last_stop None turns) in
    let last = item_pieces (item.Close (n + length turns) ∷ (closed.items ++ item.End ∷ [])) in
    let line = shown (codes "\n") in
    let text = shown (report cause (n + length turns) closed.joint) in
    let first : suc n ≡ n + 1 = omega arith in
    ap (λ (k : ℕ). turns_pieces k turns ++ (last ++ (line ∷ text ∷ []))) first
    ∙ sym (append_assoc (turns_pieces (n + 1) turns) (last ++ line ∷ []) (text ∷ [])
    ∙ ap (λ (ps : List Piece). turns_pieces (n + 1) turns ++ ps) (append_assoc last (line ∷ []) (text ∷ [])))

-- the outlet failed before its steps were over, and is given the rest in vain
pub rest_front : {E : Type 0} {gave : E → E → List Piece → Type 0} {failed : Bool} {e f : E} {machine : Machine}
    {stopped : Option Stop} (given : Status) (b : Bundle) (n : ℕ) (j : Joint) (steps : ℕ) →
    RunsSteps gave failed e f machine stopped (next_moment b n j) (turns_from steps (next_moment b n j)) → failed ≡ true →
    ((ps : List Piece) → Emits gave f f ps) → WritesRest gave failed e f given n (run_on b n j steps)
unfolding next_moment
rest_front {E} {gave} {failed} {e} {f} {machine} {stopped} given b n j steps runs broken none = record {
  emits = emits_as (pieces_of_rest b n j steps) (emits_then runs.emits (none _));
  status = λ unfailed. absurd (let clash : true ≡ false = sym broken ∙ unfailed in cc);
}

-- its steps were made, and its end was written
pub rest_whole : {E : Type 0} {gave : E → E → List Piece → Type 0} {mid_failed failed : Bool} {e f g : E}
    {machine : Machine} {stopped : Option Stop} {cause : Stop} {given : Status} (b : Bundle) (n : ℕ) (j : Joint)
    (steps : ℕ) →
    RunsSteps gave mid_failed e f machine stopped (next_moment b n j) (turns_from steps (next_moment b n j)) →
    mid_failed ≡ false → cause ≡ unwrap_or stopped stop.Budget →
    ((m : Moment) → StandsForMoment machine m → EndsRun gave f g given cause m.steps (closing m.joint)) →
    WritesRest gave failed e g given n (run_on b n j steps)
unfolding run_on next_moment
rest_whole {E} {gave} {mid_failed} {failed} {e} {f} {g} {machine} {stopped} {cause} {given} b n j steps runs well
    unwrapped ends =
    let turns = turns_from steps (next_moment b n j) in
    let all = runs.made well in
    let end = ends (moment_after (next_moment b n j) turns) all.stands in
    let closed = closing (joint_after (without_past j) turns) in
    let same : cause_of closed.joint (Some cause) ≡ cause_of closed.joint (last_stop None turns) =
    ap (λ (s : Stop). cause_of closed.joint (Some s))
    (unwrapped ∙ ap (λ (s : Option Stop). unwrap_or s stop.Budget) all.last) in
    record {
      emits = emits_as (pieces_of_rest b n j steps) (emits_then runs.emits
          (emits_as (λ k. last_pieces (same k) (n + length turns) closed) end.emits));
      status = λ unfailed. end.status
          ∙ ap (λ (s : Stop). status_of s (any_refused closed.joint.ended closed.joint.refused)) same;
    }
