-- A run over an outlet.
use Rattle.std.specs.Prelude.{ℕ, suc, ◌≡◌, ◌+◌, Bool, true, false, List, [], ◌∷◌, ◌++◌, length, codes, Option, Some}
use Rattle.std.specs.Prelude.{None}
use Rattle.cloak_base.specs.declared.causes.Stop.{Stop}
use Rattle.cloak_base.specs.declared.causes.Stop.TheVariants as stop
use Rattle.cloak_model.specs.Items as item
use Rattle.cloak_model.specs.Exchange.{Piece, recorded, shown, record_magic, Emits, item_pieces}
use Rattle.cloak_model.specs.declared.image.Bundle.{Bundle}
use Rattle.cloak_model.specs.Opening.{RunEdge}
use Rattle.cloak_model.specs.Report.{report}
use Rattle.cloak_model.specs.Parts.{Joint}
use Rattle.cloak_model.specs.Joint.{Moment, Turn}
use Rattle.cloak_model.specs.Run.{Run, first_moment, last_stop, turns_pieces, cause_of, due, any_refused, is_refused}
use Rattle.cloak_machine.specs.declared.end.RunEnd.{RunEnd}
use Rattle.cloak_machine.specs.declared.machine.Machine.{Machine}
use Rattle.cloak_machine.specs.Ending.{end_is_refused, end_short_report, short_report}
use Rattle.cloak_machine.specs.Standing.{StandsForMoment}
use Rattle.command_parts.specs.declared.status.Status.{Status}
use Rattle.command_parts.specs.declared.status.Status.TheVariants as status
use Rattle.record_law.specs.Steps.{moment_after}

-- all of these steps were made, and the last of them stopped the run for this cause, if it did
pub record MadeAll (machine : Machine) (stopped : Option Stop) (m : Moment) (turns : List Turn) : Type 0 where
  pub last : stopped ≡ last_stop None turns
  pub stands : StandsForMoment machine (moment_after m turns)

-- the pieces of these steps were given, and all of them were made unless the outlet failed
pub record RunsSteps {E : Type 0} (gave : E → E → List Piece → Type 0) (failed : Bool) (e e' : E) (machine : Machine)
    (stopped : Option Stop) (m : Moment) (turns : List Turn) : Type 0 where
  pub emits : Emits gave e e' (turns_pieces (suc m.steps) turns)
  pub made : failed ≡ false → MadeAll machine stopped m turns

-- the pieces of a run that was opened so, up to the last of these steps
abbrev pub first_pieces : RunEdge → List Turn → List Piece
first_pieces o turns = recorded record_magic ∷ (item_pieces o.items ++ turns_pieces 1 turns)

-- these were given, and all of the steps were made unless the outlet failed
pub record BeginsRun {E : Type 0} (gave : E → E → List Piece → Type 0) (failed : Bool) (e e' : E) (machine : Machine)
    (stopped : Option Stop) (b : Bundle) (o : RunEdge) (turns : List Turn) : Type 0 where
  pub emits : Emits gave e e' (first_pieces o turns)
  pub made : failed ≡ false → MadeAll machine stopped (first_moment b o.joint) turns

-- the pieces after the steps of a run that ended so
abbrev pub last_pieces : Stop → ℕ → RunEdge → List Piece
last_pieces cause steps closed =
    item_pieces (item.Close steps ∷ (closed.items ++ item.End ∷ []))
    ++ (shown (codes "\n") ∷ shown (report cause steps closed.joint) ∷ [])

-- the end of a machine is that of a run
pub record IsEndOf (end : RunEnd) (r : Run) : Type 0 where
  pub stop : end.stop ≡ r.stop
  pub refused : end_is_refused end ≡ is_refused r
  pub short : end_short_report end ≡ short_report r.stop (length r.turns) r.closed.joint

-- the status of a run that no missing draw stopped, by whether a domain ended or a resuming was refused of which none was
-- left to end
abbrev pub unless_refused : Bool → Status
unless_refused true = status.Violation
unless_refused false = status.Done

-- the status of a run that this stopped
abbrev pub status_of : Stop → Bool → Status
status_of (stop.Halt value) refused = unless_refused refused
status_of stop.Budget refused = unless_refused refused
status_of stop.NoRandom refused = status.NoRandom

-- the status of a run
abbrev pub run_status : Run → Status
run_status r = status_of r.stop (is_refused r)

-- a status that some run has
abbrev pub IsStatusOfStop : Status → Type 0
IsStatusOfStop given = (cause : Stop) × (refused : Bool) × (given ≡ status_of cause refused)

-- The end of a run that this stopped after this many steps, and that closed so, was emitted, and its status returned.
pub record EndsRun {E : Type 0} (gave : E → E → List Piece → Type 0) (e e' : E) (given : Status) (stopped : Stop)
    (steps : ℕ) (closed : RunEdge) : Type 0 where
  pub emits : Emits gave e e' (last_pieces (cause_of closed.joint (Some stopped)) steps closed)
  pub status : given
      ≡ status_of (cause_of closed.joint (Some stopped)) (any_refused closed.joint.ended closed.joint.refused)

-- what is due of a run was given, and the answer is its status unless the outlet failed
pub record WritesRun {E : Type 0} (gave : E → E → List Piece → Type 0) (failed : Bool) (e e' : E) (given : Status)
    (r : Run) : Type 0 where
  pub emits : Emits gave e e' (due r)
  pub status : failed ≡ false → given ≡ run_status r
