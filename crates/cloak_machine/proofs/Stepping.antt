-- A step of the machine, its opening and its closing, out of what the joint machine says of them.
use Rattle.std.proofs.Common.{◌≡◌, ◌<◌, ◌∙◌, ℕ, ◌+◌, ◌%◌, ◌^◌, Bool, List, [], ◌∷◌, ◌++◌, length}
use Rattle.std.proofs.Common.{All, Ok, refl, sym, ap, subst, slice_index, arith, codes, if◌then◌else◌}
use Rattle.std.proofs.Common.{Option, map, option_map, slice_get, unwrap_or}
use Rattle.std.proofs.lemmas.List.Concat.{concat_is}
use Rattle.std.proofs.lemmas.List.Folds.{flat_map-map}
use Rattle.std.proofs.lemmas.Option.{slice_get-map}
use Rattle.std.specs.List.{concat, flat_map}
use Rattle.cloak_base.specs.declared.causes.Stop.{Stop}
use Rattle.cloak_base.specs.declared.causes.Stop.TheVariants as cause
use Rattle.cloak_model.specs.declared.image.Bundle.{Bundle}
use Rattle.cloak_model.specs.Items as item
use Rattle.cloak_model.specs.DomainState.{Domain, domain_line}
use Rattle.cloak_model.specs.Exchange.{Piece, Emits, item_pieces, shown_each}
use Rattle.cloak_model.specs.Joint.{Moment, Turn, joint_step, next_hart}
use Rattle.cloak_model.specs.Beginning.{Beginning, opening_from}
use Rattle.cloak_model.specs.Opening.{RunEdge}
use Rattle.cloak_model.specs.Parts.{Joint, kernel_part}
use Rattle.cloak_model.specs.Report.{stop_line, number_line, refusal_lines, kernel_lines}
use Rattle.cloak_model.specs.Run.{closing, first_moment}
use Rattle.joint_machine.specs.Standing.{StandsForJoint, TakesTurn, ShowsAs, step_in, shown_byte}
use Rattle.joint_machine.specs.declared.joint.Joint.{Joint as Machines}
use Rattle.joint_machine.specs.declared.turned.Turned.{Turned}
use Rattle.cloak_model.proofs.Emitting.{emits_then, emits_items}
use Rattle.kernel_report.specs.Console.{ConsoleShows}
use Rattle.kernel_report.specs.KernelText.{kernel_text}
use Rattle.kernel_report.proofs.KernelSaid.{IsSaid, kernel_text-is}
use Rattle.shadow_fold.specs.Events.{after_step, asked_in, asked_with_end}
use Rattle.shadow_fold.specs.Fold.{Fold, after_events}
use Rattle.shadow_fold.specs.Reads.{SpendsFor, events_in, looks_in, reads_due}
use Rattle.cloaked_side.specs.Tracking.{AreMapped, Tracks, GoesBy, spent_in}
use Rattle.cloaked_side.proofs.Spending.{maps_same, spends_looks}
use Rattle.look_law.proofs.Steps.{step_looks_twice}
use Rattle.joint_machine.proofs.Mapped.{none_mapped}
use Rattle.space_law.specs.Mapping.{mapped_in}
use Rattle.cloaked_side.specs.declared.memory.Memory.{Memory}
use Rattle.cloak_machine.specs.Counting.{CountsAccesses}
use Rattle.cloak_machine.specs.Lines.{lines_kept}
use Rattle.cloak_machine.specs.Standing.{StandsForMoment, MakesTurn, EndsAs, FinishesAs, HaveFewLoads}
use Rattle.cloak_machine.specs.Turns.{IsAt}
use Rattle.kernel_report.specs.declared.console.Console.{Console}
use Rattle.cloak_machine.specs.declared.end.RunEnd.{RunEnd}
use Rattle.cloak_machine.specs.declared.machine.Machine.{Machine}
use Rattle.cloak_machine.specs.declared.schedule.Schedule.{Schedule}
use Rattle.cloak_machine.proofs.Opening.{begun}
use Rattle.cloak_machine.proofs.Turning.{goes}

-- Opening.

-- the machine of an opening, before its first step
pub first_stands : (machine : Machine) (b : Bundle) (from : Beginning) (o : RunEdge) → opening_from b from ≡ Ok o →
    StandsForJoint machine.joint o.joint → machine.schedule.turns.items ≡ b.kernel.schedule →
    machine.schedule.place ≡ 0 → machine.steps ≡ 0 → ConsoleShows machine.console [] →
    machine.joint.memory.shadows.live ≡ [] → StandsForMoment machine (first_moment b o.joint)
first_stands machine b from o opens joint schedule place steps console empty =
    let is = begun b from o opens in record {
      schedule = sym schedule;
      place = place ∙ sym (zero_mod (length machine.schedule.turns.items));
      steps = sym steps;
      joint = joint;
      console = subst (λ (bytes : List ℕ). ConsoleShows machine.console bytes) (sym is.console) console;
      loads = is.loads;
      mapped = none_mapped (mapped_in o.joint) machine.joint.memory empty;
    }
  where
    zero_mod : (n : ℕ) → 0 % n ≡ 0
    zero_mod n = grind arith

-- the same machine once it showed what the kernel is shown
pub still_first : (old new : Machine) (b : Bundle) (o : RunEdge) → StandsForMoment old (first_moment b o.joint) →
    StandsForJoint new.joint o.joint → new.schedule ≡ old.schedule → new.steps ≡ old.steps →
    new.console ≡ old.console → new.joint.memory.shadows ≡ old.joint.memory.shadows →
    StandsForMoment new (first_moment b o.joint)
still_first old new b o stands joint schedule steps console shadows = record {
  schedule = stands.schedule ∙ ap (λ (x : Schedule). x.turns.items) (sym schedule);
  place = subst (λ (x : Schedule). IsAt x 0) (sym schedule) stands.place;
  steps = stands.steps ∙ sym steps;
  joint = joint;
  console = subst (λ (x : Console). ConsoleShows x o.joint.console) (sym console) stands.console;
  loads = stands.loads;
  mapped = maps_same old.joint.memory new.joint.memory shadows (mapped_in o.joint) stands.mapped;
}

-- one that begins to count
pub counting_first : (old new : Machine) (m : Moment) → StandsForMoment old m → StandsForJoint new.joint m.joint →
    new.schedule ≡ old.schedule → new.steps ≡ old.steps → new.console ≡ old.console →
    new.joint.memory.shadows.live ≡ [] → StandsForMoment new m
counting_first old new m stands joint schedule steps console empty = record {
  schedule = stands.schedule ∙ ap (λ (x : Schedule). x.turns.items) (sym schedule);
  place = subst (λ (x : Schedule). IsAt x m.steps) (sym schedule) stands.place;
  steps = stands.steps ∙ sym steps;
  joint = joint;
  console = subst (λ (x : Console). ConsoleShows x m.joint.console) (sym console) stands.console;
  loads = stands.loads;
  mapped = none_mapped (mapped_in m.joint) new.joint.memory empty;
}

-- A step.

-- the turn that the schedule tells is the next step of the run
pub next_turn : (machine : Machine) (m : Moment) (number : ℕ) → StandsForMoment machine m →
    number ≡ slice_index machine.schedule.turns.items machine.schedule.place → step_in m.joint number ≡ joint_step m
unfolding joint_step
next_turn machine m number stands told = ap (step_in m.joint)
    (told ∙ ap (slice_index machine.schedule.turns.items) stands.place
    ∙ ap (λ (turns : List ℕ). slice_index turns (m.steps % length turns)) (sym stands.schedule))

-- so it is of its hart
pub next_number : (machine : Machine) (m : Moment) (number : ℕ) → StandsForMoment machine m →
    number ≡ slice_index machine.schedule.turns.items machine.schedule.place → number ≡ next_hart m
next_number machine m number stands told =
    told ∙ ap (slice_index machine.schedule.turns.items) stands.place
    ∙ ap (λ (turns : List ℕ). slice_index turns (m.steps % length turns)) (sym stands.schedule)

-- the counts go on with the fold after the step
pub counts_behind : (old new : Machine) (m : Moment) (number : ℕ) (s : Fold) → number ≡ next_hart m → CountsAccesses old s →
    new.joint.memory.counting ≡ old.joint.memory.counting →
    GoesBy old.joint.memory new.joint.memory (asked_with_end m.joint number) → CountsAccesses new (after_step m s)
unfolding after_step
counts_behind old new m number s is counts same goes = record {
  counting = same ∙ counts.counting;
  tracks = subst (λ (n : ℕ). let a = asked_with_end m.joint n in
      Tracks new.joint.memory (after_events a.space (events_in a) s)) is (goes.tracks s counts.tracks);
}

-- and the reads are those that are due
pub reads_behind : (old new : Memory) (m : Moment) (number : ℕ) → number ≡ next_hart m →
    GoesBy old new (asked_with_end m.joint number) →
    SpendsFor 2 0 (reads_due (asked_in m)) (spent_in old) (spent_in new)
reads_behind old new m number is goes =
    spends_looks (step_looks_twice m)
    (subst (λ (n : ℕ). let a = asked_with_end m.joint n in
    SpendsFor (looks_in a.events) 0 (reads_due a) (spent_in old) (spent_in new)) is goes.spends)

-- What a step left of a machine.
pub record Leaves (old new : Machine) (m : Moment) (given : Turned) (t : Turn) : Type 0 where
  pub turns : new.schedule.turns.items ≡ old.schedule.turns.items
  pub place : IsAt new.schedule (m.steps + 1)
  pub steps : new.steps ≡ old.steps + 1
  pub joint : StandsForJoint new.joint t.joint
  pub console : ConsoleShows new.console (m.joint.console ++ shown_byte given.console)
  pub mapped : AreMapped (mapped_in t.joint) new.joint.memory

stands_after : (old new : Machine) (m : Moment) (number : ℕ) (given : Turned) → StandsForMoment old m →
    shown_byte given.console ≡ (step_in m.joint number).console → Leaves old new m given (step_in m.joint number) →
    StandsForMoment new (record { schedule = m.schedule; steps = m.steps + 1; joint = (step_in m.joint number).joint })
stands_after old new m number given stands byte left =
    let went = goes m.joint number in record {
      schedule = stands.schedule ∙ sym left.turns;
      place = left.place;
      steps = ap (λ n. n + 1) stands.steps ∙ sym left.steps;
      joint = left.joint;
      console = subst (λ (bytes : List ℕ). ConsoleShows new.console bytes)
          (ap (λ (bytes : List ℕ). m.joint.console ++ bytes) byte ∙ sym went.console) left.console;
      loads = went.loads.few m.steps stands.loads;
      mapped = left.mapped;
    }

-- a whole step
pub step_made : {E : Type 0} {gave : E → E → List Piece → Type 0} {e f g h : E} (old new : Machine) (m : Moment)
    (number : ℕ) (given : Turned) → StandsForMoment old m → step_in m.joint number ≡ joint_step m →
    Emits gave e f (item_pieces (item.Step (old.steps + 1) ∷ [])) →
    TakesTurn gave f g new.joint given (step_in m.joint number) →
    Emits gave g h (shown_each (shown_byte given.console)) →
    new.schedule.turns.items ≡ old.schedule.turns.items → IsAt new.schedule (m.steps + 1) →
    new.steps ≡ old.steps + 1 → ConsoleShows new.console (m.joint.console ++ shown_byte given.console) →
    AreMapped (mapped_in (step_in m.joint number).joint) new.joint.memory →
    MakesTurn gave e h new given.stop m (joint_step m)
step_made {E} {gave} {e} {f} {g} {h} old new m number given stands next marker takes shows turns place steps console mapped =
    let t = step_in m.joint number in
    let first : Emits gave e f (item_pieces (item.Step (m.steps + 1) ∷ [])) =
    subst (λ n. Emits gave e f (item_pieces (item.Step (n + 1) ∷ []))) (sym stands.steps) marker in
    let last : Emits gave g h (shown_each t.console) =
    subst (λ (bytes : List ℕ). Emits gave g h (shown_each bytes)) takes.console shows in
    subst (λ (x : Turn). MakesTurn gave e h new given.stop m x) next (record {
      emits = emits_then (emits_items (item.Step (m.steps + 1) ∷ []) t.items first takes.emits) last;
      answer = takes.stop;
      stands = stands_after old new m number given stands takes.console (record {
        turns = turns;
        place = place;
        steps = steps;
        joint = takes.stands;
        console = console;
        mapped = mapped;
      });
    })

-- Closing.

-- a closing changes no program
pub few_closed : (j : Joint) (n : ℕ) → HaveFewLoads n j.domains → n < 2 ^ 32 →
    All (λ (d : Domain). length d.loads < 2 ^ 64) (closing j).joint.domains
unfolding closing
few_closed j n few low k d inside = let here = few k d inside in omega (arith, here, low)

-- the console is known to the closed machine
pub closed_console : (j : Joint) → (closing j).joint.console ≡ j.console
unfolding closing
closed_console j = refl

-- What is reported as a run closes.
pub ended_as : {end : RunEnd} {stopped : Stop} (steps : ℕ) (closed : Joint) (missed : Bool) →
    missed ≡ closed.memory.ledger.missed → end.stop ≡ (if missed then cause.NoRandom else stopped) →
    end.steps ≡ steps → end.draws ≡ closed.memory.ledger.draws → end.ended ≡ closed.ended →
    end.refused ≡ closed.refused → IsSaid end.lines (kernel_part closed) →
    lines_kept end.domains ≡ map domain_line closed.domains → EndsAs end stopped steps closed
ended_as {end} {stopped} steps closed missed miss stop same draws ended refused said lines =
    let kernel : kernel_text end.lines ≡ kernel_lines (kernel_part closed) = kernel_text-is end.lines _ said in
    let texts : concat (lines_kept end.domains) ≡ flat_map domain_line closed.domains =
    ap concat lines ∙ concat_is (map domain_line closed.domains)
    ∙ flat_map-map (λ (l : List ℕ). l) domain_line closed.domains in
    record {
      steps = same;
      draws = draws;
      ended = ended;
      refused = refused;
      stop = stop ∙ ap (λ (b : Bool). if b then cause.NoRandom else stopped) miss;
      report = λ i. stop_line end.stop ++
          (number_line (codes "steps ") (same i) ++ (number_line (codes "draws ") (draws i)
          ++ (refusal_lines (ended i) (refused i) ++ (kernel i ++ texts i))));
      short = λ i. stop_line end.stop ++
          (number_line (codes "steps ") (same i) ++ (number_line (codes "draws ") (draws i)
          ++ (refusal_lines (ended i) (refused i) ++ texts i)));
      lines = λ d program there. ap (λ (l : List (List ℕ)). unwrap_or (slice_get l d) []) lines
          ∙ ap (λ (l : Option (List ℕ)). unwrap_or l [])
          (slice_get-map domain_line closed.domains d ∙ ap (option_map domain_line) there);
    }

-- What is emitted and reported.
pub finishes_as : {E : Type 0} {gave : E → E → List Piece → Type 0} {e f g h : E} {joint : Machines} {machine : Machine}
    {end : RunEnd} {stopped : Stop} (m : Moment) → StandsForMoment machine m →
    Emits gave e f (item_pieces (item.Close machine.steps ∷ [])) → ShowsAs gave f g joint (closing m.joint) →
    Emits gave g h (item_pieces (item.End ∷ [])) → EndsAs end stopped machine.steps (closing m.joint).joint →
    FinishesAs gave e h end stopped m (closing m.joint)
finishes_as {E} {gave} {e} {f} {g} {h} {joint} {machine} {end} {stopped} m stands close shows last ends =
    let o = closing m.joint in
    let first : Emits gave e f (item_pieces (item.Close m.steps ∷ [])) =
    subst (λ n. Emits gave e f (item_pieces (item.Close n ∷ []))) (sym stands.steps) close in
    let said : EndsAs end stopped m.steps o.joint =
    subst (λ n. EndsAs end stopped n o.joint) (sym stands.steps) ends in
    record {
      emits = emits_items (item.Close m.steps ∷ []) (o.items ++ item.End ∷ []) first
          (emits_items o.items (item.End ∷ []) shows.emits last);
      steps = said.steps;
      draws = said.draws;
      ended = said.ended;
      refused = said.refused;
      stop = said.stop;
      report = said.report;
      short = said.short;
      lines = said.lines;
    }
