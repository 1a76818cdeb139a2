-- A run that is frozen after n steps and thawed for k more is the run over n + k steps.
use Rattle.std.specs.Prelude.{ℕ, ◌≡◌, ◌+◌, List, [], ◌∷◌, ◌++◌, codes, length, map, Some, None}
use Rattle.std.specs.List.{concat}
use Rattle.cloak_base.specs.declared.causes.Stop.{Stop}
use Rattle.cloak_model.specs.declared.image.Bundle.{Bundle}
use Rattle.cloak_model.specs.DomainState.{Domain}
use Rattle.cloak_model.specs.Exchange.{shown, recorded_bytes, shown_bytes}
use Rattle.cloak_model.specs.Joint.{Turn}
use Rattle.cloak_model.specs.Opening.{RunEdge}
use Rattle.cloak_model.specs.Parts.{Joint}
use Rattle.cloak_model.specs.Report.{stop_line, number_line, refusal_lines, digest_line, harts_lines}
use Rattle.cloak_model.specs.Run.{Run, joint_after, last_stop, run_of, due, record_bytes, report_of, is_refused}
use Rattle.frozen_state.specs.Continuing.{first_turns, IsFrozenAfter, first_pieces, run_on, pieces_after, report_after, due_after}
use Rattle.thaw_law.specs.Past.{IsAfter, loads_of, closed_with_past}

-- Two reports with the same lines, but for the console and the loads.
pub record AreAlike (s s' : Stop) (n n' : ℕ) (j j' : Joint) : Type 0 where
  pub stop : stop_line s ≡ stop_line s'
  pub steps : number_line (codes "steps ") n ≡ number_line (codes "steps ") n'
  pub draws : number_line (codes "draws ") j.memory.ledger.draws
      ≡ number_line (codes "draws ") j'.memory.ledger.draws
  pub refusals : refusal_lines j.ended j.refused ≡ refusal_lines j'.ended j'.refused
  pub ram : digest_line (codes "ram ") (concat j.memory.ram) ≡ digest_line (codes "ram ") (concat j'.memory.ram)
  pub disk : digest_line (codes "disk ") j.disk ≡ digest_line (codes "disk ") j'.disk
  pub harts : harts_lines 0 j.harts ≡ harts_lines 0 j'.harts
  -- number and state of each program
  pub programs : map (λ (d : Domain). d.control) j.domains ≡ map (λ (d : Domain). d.control) j'.domains

-- the run, with console and loads of a machine put before those at its end
abbrev pub with_closed_past : Joint → Run → Run
with_closed_past before r =
    record r { closed = closed_with_past before.console (loads_of before) r.closed }

-- The run is its first part, of n steps, which left this machine, and then the rest.
pub record IsFirstAndRest (o : RunEdge) (n : ℕ) (first : List Turn) (before : Joint) (rest whole : Run) : Type 0 where
  -- The record is that of the first part, and then that of the rest.
  pub file : record_bytes whole ≡ recorded_bytes (first_pieces o first) ++ recorded_bytes (due_after n rest)
  -- What is shown is what the first part shows, and then what the rest shows, up to the report.
  pub output : shown_bytes (due whole)
      ≡ shown_bytes (first_pieces o first) ++ (shown_bytes (pieces_after n rest) ++ report_of whole)
  -- Record and output are written in this order.
  pub pieces : due whole ≡ first_pieces o first ++ (pieces_after n rest ++ shown (report_of whole) ∷ [])
  -- Both stop for one cause, and either both or neither were refused something: so their status is one.
  pub stop : whole.stop ≡ rest.stop
  pub refused : is_refused whole ≡ is_refused rest
  pub steps : length whole.turns ≡ n + length rest.turns
  -- The machine at the end is that of the rest, but that console and loads are those of the first part, followed by
  -- those of the rest. So the report of the rest differs in these alone.
  pub joint : IsAfter before rest.closed.joint whole.closed.joint
  pub report : report_of whole ≡ report_after n (with_closed_past before rest)
  pub lines : AreAlike whole.stop rest.stop (length whole.turns) (n + length rest.turns) whole.closed.joint
      rest.closed.joint

-- A run that was frozen after n steps, and then thawed.
abbrev pub RunsAreFirstAndRest : Type 0
RunsAreFirstAndRest =
    (b : Bundle) (o : RunEdge) (n k : ℕ) → IsFrozenAfter b o n →
    let before = joint_after o.joint (first_turns b o n) in
    IsFirstAndRest o n (first_turns b o n) before (run_on b n before k) (run_of b (n + k) o)

-- If one of the first n steps stopped it, there is no rest: it is the run over n steps, and is over.
abbrev pub StoppedRunsAreWhole : Type 0
StoppedRunsAreWhole =
    (b : Bundle) (o : RunEdge) (n k : ℕ) (cause : Stop) → last_stop None (first_turns b o n) ≡ Some cause →
    run_of b (n + k) o ≡ run_of b n o
