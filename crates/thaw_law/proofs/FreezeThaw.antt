-- A run that is frozen and thawed.
use Rattle.std.proofs.Common.{◌≡◌, ◌∙◌, ℕ, ◌+◌, List, [], ◌∷◌, ◌++◌, map, length, length-append, append_assoc, Option, None, codes, refl, sym, ap, subst, arith}
use Rattle.std.proofs.lemmas.List.{length-map}
use Rattle.cloak_base.specs.declared.causes.Stop.{Stop}
use Rattle.cloak_model.specs.declared.image.Bundle.{Bundle}
use Rattle.cloak_model.specs.Items as item
use Rattle.cloak_model.specs.DomainState.{Domain}
use Rattle.cloak_model.specs.Exchange.{Piece, recorded, shown, record_magic, item_pieces, recorded_bytes, shown_bytes}
use Rattle.cloak_model.specs.Joint.{Moment, Turn}
use Rattle.cloak_model.specs.Opening.{RunEdge}
use Rattle.cloak_model.specs.Parts.{Joint}
use Rattle.cloak_model.specs.Report.{report, number_line}
use Rattle.cloak_model.specs.Run.{Run, turns_from, joint_after, last_stop, turns_pieces, closing, cause_of, first_moment, run_of, run_of_turns, due, record_bytes, report_of}
use Rattle.record_law.proofs.Writing.{writes_its_record}
use Rattle.frozen_state.specs.Continuing.{first_turns, IsFrozenAfter, first_pieces, without_past, next_moment, run_on, pieces_after, report_after, due_after}
use Rattle.thaw_law.specs.Past.{PastLoads, with_loads, with_past, turn_with_past, closed_with_past, loads_of}
use Rattle.thaw_law.specs.FreezeThaw.{IsFirstAndRest, RunsAreFirstAndRest, StoppedRunsAreWhole}
use Rattle.cloak_model.proofs.Pieces.{recorded_bytes-append, shown_bytes-append, recorded-last, shown-last}
use Rattle.record_law.proofs.Pieces.{joint_after-append, last_stop-append, turns_pieces-append}
use Rattle.thaw_law.proofs.Runs.{is_after, joint_after_past, last_stop_after, turns_restored, restored, closing_keeps_past}
use Rattle.thaw_law.proofs.Runs as past
use Rattle.thaw_law.proofs.TwoParts.{runs_go_on, stopped_runs_stay}

-- The run of both parts, told by the rest.

abbrev later_turn : Joint → Turn → Turn
later_turn before t = turn_with_past before.console (loads_of before) t

abbrev joined : RunEdge → List Turn → Joint → Run → Run
joined o first before rest = record {
  opened = o;
  turns = first ++ map (later_turn before) rest.turns;
  stop = rest.stop;
  closed = closed_with_past before.console (loads_of before) rest.closed;
}

-- What is read off it.

same_controls : (loads : List PastLoads) (domains : List Domain) →
    map (λ (d : Domain). d.control) (with_loads loads domains) ≡ map (λ (d : Domain). d.control) domains
same_controls [] domains = refl
same_controls (past ∷ loads) [] = refl
same_controls (past ∷ loads) (d ∷ domains) = λ i. d.control ∷ same_controls loads domains i

regrouped : (magic : Piece) (items first rest close : List Piece) (line report : Piece) →
    magic ∷ (items ++ ((first ++ rest) ++ (close ++ (line ∷ report ∷ []))))
    ≡ (magic ∷ (items ++ first)) ++ ((rest ++ (close ++ line ∷ [])) ++ report ∷ [])
regrouped magic items first rest close line report = simp append_assoc

module _ (o : RunEdge) (n : ℕ) (first : List Turn) (before : Joint) (rest : Run) (count : length first ≡ n) where
  abbrev whole : Run
  whole = joined o first before rest

  steps_added : length whole.turns ≡ n + length rest.turns
  steps_added =
      let both = length-append first (map (later_turn before) rest.turns) in
      let same = length-map rest.turns (later_turn before) in
      omega (arith, both, same, count)

  turns_in_parts : turns_pieces 1 whole.turns ≡ turns_pieces 1 first ++ turns_pieces (n + 1) rest.turns
  turns_in_parts =
      turns_pieces-append 1 first (map (later_turn before) rest.turns)
      ∙ ap (λ (ps : List Piece). turns_pieces 1 first ++ ps)
      (past.pieces_after before.console (loads_of before) (1 + length first) rest.turns
      ∙ ap (λ k. turns_pieces k rest.turns) (let e : 1 + length first ≡ n + 1 = omega (arith, count) in e))

  abbrev closed_pieces : ℕ → List Piece
  closed_pieces steps = item_pieces (item.Close steps ∷ (rest.closed.items ++ item.End ∷ []))

  pieces_in_parts : due whole ≡ first_pieces o first ++ (pieces_after n rest ++ shown (report_of whole) ∷ [])
  unfolding due first_pieces pieces_after
  pieces_in_parts =
      let end : List Piece = shown (codes "\n") ∷ shown (report_of whole) ∷ [] in
      ap (λ (steps : List Piece).
      recorded record_magic ∷ (item_pieces o.items ++ (steps ++ (closed_pieces (length whole.turns) ++ end))))
      turns_in_parts
      ∙ ap (λ (count : ℕ). recorded record_magic ∷ (item_pieces o.items
      ++ ((turns_pieces 1 first ++ turns_pieces (n + 1) rest.turns) ++ (closed_pieces count ++ end)))) steps_added
      ∙ regrouped (recorded record_magic) (item_pieces o.items) (turns_pieces 1 first) (turns_pieces (n + 1) rest.turns)
      (closed_pieces (n + length rest.turns)) (shown (codes "\n")) (shown (report_of whole))

  file_in_parts : record_bytes whole ≡ recorded_bytes (first_pieces o first) ++ recorded_bytes (due_after n rest)
  unfolding due_after
  file_in_parts =
      sym (writes_its_record whole)
      ∙ ap recorded_bytes pieces_in_parts
      ∙ recorded_bytes-append (first_pieces o first) (pieces_after n rest ++ shown (report_of whole) ∷ [])
      ∙ ap (λ (l : List ℕ). recorded_bytes (first_pieces o first) ++ l)
      (recorded-last (pieces_after n rest) (report_of whole)
      ∙ sym (recorded-last (pieces_after n rest) (report_after n rest)))

  output_in_parts : shown_bytes (due whole)
      ≡ shown_bytes (first_pieces o first) ++ (shown_bytes (pieces_after n rest) ++ report_of whole)
  output_in_parts =
      ap shown_bytes pieces_in_parts
      ∙ shown_bytes-append (first_pieces o first) (pieces_after n rest ++ shown (report_of whole) ∷ [])
      ∙ ap (λ (l : List ℕ). shown_bytes (first_pieces o first) ++ l)
      (shown-last (pieces_after n rest) (report_of whole))

  first_and_rest : IsFirstAndRest o n first before rest whole
  first_and_rest = record {
    file = file_in_parts;
    output = output_in_parts;
    pieces = pieces_in_parts;
    stop = refl;
    refused = refl;
    steps = steps_added;
    joint = is_after before rest.closed.joint whole.closed.joint refl;
    report = ap (λ steps. report rest.stop steps whole.closed.joint) steps_added;
    lines = record {
      stop = refl;
      steps = ap (number_line (codes "steps ")) steps_added;
      draws = refl;
      refusals = refl;
      ram = refl;
      disk = refl;
      harts = refl;
      programs = same_controls (loads_of before) rest.closed.joint.domains;
    };
  }

-- The run is that of both parts.

module _ (b : Bundle) (o : RunEdge) (n k : ℕ) (on : IsFrozenAfter b o n) where
  abbrev first : List Turn
  first = first_turns b o n

  abbrev before : Joint
  before = joint_after o.joint first

  abbrev rest : Run
  rest = run_on b n before k

  abbrev later : List Turn
  later = turns_from k (next_moment b n before)

  count : length first ≡ n
  count = (runs_go_on n k (first_moment b o.joint) on).count

  -- the moment after the first part
  abbrev middle : Moment
  middle = record { schedule = b.kernel.schedule; steps = n; joint = before }

  all_turns : turns_from (n + k) (first_moment b o.joint) ≡ first ++ map (later_turn before) later
  unfolding next_moment
  all_turns =
      let steps : 0 + length first ≡ n = omega (arith, count) in
      (runs_go_on n k (first_moment b o.joint) on).turns
      ∙ ap (λ (s : ℕ). first ++ turns_from k (record middle { steps = s })) steps
      ∙ ap (λ (turns : List Turn). first ++ turns) (turns_restored k middle)

  joint_is : joint_after o.joint (first ++ map (later_turn before) later)
      ≡ with_past before.console (loads_of before) (joint_after (without_past before) later)
  joint_is =
      joint_after-append o.joint first (map (later_turn before) later)
      ∙ ap (λ (j : Joint). joint_after j (map (later_turn before) later)) (sym (restored before))
      ∙ joint_after_past before.console (loads_of before) (without_past before) later

  stop_is : last_stop None (first ++ map (later_turn before) later) ≡ last_stop None later
  stop_is =
      last_stop-append None first (map (later_turn before) later)
      ∙ ap (λ (s : Option Stop). last_stop s (map (later_turn before) later)) on
      ∙ last_stop_after before.console (loads_of before) None later

  closed_is : closing (joint_after o.joint (first ++ map (later_turn before) later))
      ≡ closed_with_past before.console (loads_of before) (closing (joint_after (without_past before) later))
  closed_is =
      ap closing joint_is
      ∙ closing_keeps_past before.console (loads_of before) (joint_after (without_past before) later)

  run_is : run_of b (n + k) o ≡ joined o first before rest
  unfolding run_of run_on
  run_is =
      let turns = first ++ map (later_turn before) later in
      let same : run_of_turns o turns ≡ joined o first before rest = λ i. record {
        opened = o;
        turns = turns;
        stop = cause_of (closed_is i).joint (stop_is i);
        closed = closed_is i;
      } in
      ap (run_of_turns o) all_turns ∙ same

  run_is_first_and_rest : IsFirstAndRest o n first before rest (run_of b (n + k) o)
  run_is_first_and_rest =
      subst (λ (r : Run). IsFirstAndRest o n first before rest r) (sym run_is)
      (first_and_rest o n first before rest count)

pub runs_are_first_and_rest : RunsAreFirstAndRest
runs_are_first_and_rest b o n k on = run_is_first_and_rest b o n k on

pub stopped_runs_are_whole : StoppedRunsAreWhole
unfolding run_of
stopped_runs_are_whole b o n k cause over =
    ap (run_of_turns o) (stopped_runs_stay n k (first_moment b o.joint) cause over)
