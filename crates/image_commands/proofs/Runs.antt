-- What is shown of a run of which nothing is written.
use Rattle.std.proofs.Common.{◌≡◌, ℕ, Bool, true, false, List, ◌++◌, sym, ap, subst, inl, Result, Ok}
use Rattle.std.specs.Result.{result_map_both}
use Rattle.cloak_base.specs.Random.{numbered}
use Rattle.cloak_base.specs.declared.causes.Stop.{Stop}
use Rattle.cloak_base.specs.declared.causes.Stop.TheVariants as stop
use Rattle.io_traits.specs.Told.{Grows, GrowsByFront}
use Rattle.cloak_model.specs.Opening.{Lack, RunEdge, opening}
use Rattle.cloak_model.specs.Run.{Run, run_of}
use Rattle.cloak_machine.specs.declared.end.RunEnd.{RunEnd}
use Rattle.cloak_machine.specs.declared.machine.Machine.{Machine}
use Rattle.cloak_machine.specs.Ending.{end_is_refused, end_short_report}
use Rattle.cloak_machine.specs.Standing.{OpensMachine}
use Rattle.guest_kernel.specs.Generated.{generated}
use Rattle.guest_kernel.specs.Summary.{summary_line}
use Rattle.command_parts.specs.Outside.{Output}
use Rattle.command_parts.specs.declared.status.Status.{Status}
use Rattle.command_parts.specs.declared.status.Status.TheVariants as status
use Rattle.run_command.specs.Running.{IsEndOf, status_of, unless_refused}
use Rattle.cloak_model.specs.Run.{NoClash}
use Rattle.run_command.proofs.OutletFacts.{fixed_front}
use Rattle.image_commands.specs.Demonstrating.{DemoAnswers, HasDemonstrated, demo_lines}
use Rattle.image_commands.specs.Showing.{IsShownInPart}

-- the lines of a run, from the end of its machine
lines_of_end : (n : ℕ) (end : RunEnd) (r : Run) → IsEndOf end r → summary_line n ++ end_short_report end ≡ demo_lines n r
lines_of_end n end r is = ap (λ (text : List ℕ). summary_line n ++ text) is.short

answers_unless : {O : Type 0} {n steps : ℕ} {before after : Output O} (refused : Bool) →
    HasDemonstrated n steps (unless_refused refused) before after →
    DemoAnswers n steps before after (unless_refused refused)
answers_unless {O} {n} {steps} {before} {after} true has = has
answers_unless {O} {n} {steps} {before} {after} false has = has

answers_stop : {O : Type 0} {n steps : ℕ} {before after : Output O} (cause : Stop) (refused : Bool) →
    HasDemonstrated n steps (status_of cause refused) before after →
    DemoAnswers n steps before after (status_of cause refused)
answers_stop {O} {n} {steps} {before} {after} stop.NoRandom refused has = has
answers_stop {O} {n} {steps} {before} {after} _ refused has = answers_unless refused has

-- the run of an image that was opened so
run_is : (n : ℕ) {machine : Machine} (steps : ℕ) (opens : OpensMachine (generated n) (numbered n) machine) →
    result_map_both (run_of (generated n) steps) (λ (lack : Lack). lack)
    (opening (generated n) (numbered n)) ≡ Ok (run_of (generated n) steps opens.opened)
run_is n {machine} steps opens =
    ap (λ (opened : Result RunEdge Lack). result_map_both (run_of (generated n) steps) (λ lack. lack) opened) opens.opens

-- all lines were shown
pub shows_all : {O : Type 0} (n : ℕ) {machine : Machine} (end : RunEnd) (before after : Output O) {given : Status}
    (steps : ℕ) (opens : OpensMachine (generated n) (numbered n) machine) →
    (NoClash (run_of (generated n) steps opens.opened) → IsEndOf end (run_of (generated n) steps opens.opened)) →
    Grows before.taken after.taken (summary_line n ++ end_short_report end) → after.faults ≡ before.faults →
    given ≡ status_of end.stop (end_is_refused end) → DemoAnswers n steps before after given
shows_all {O} n {machine} end before after {given} steps opens is grows faults answer =
    let r = run_of (generated n) steps opens.opened in
    subst (λ (x : Status). DemoAnswers n steps before after x) (sym answer)
    (answers_stop end.stop (end_is_refused end) (record {
      made = r;
      is_run = run_is n steps opens;
      status = λ none. let same = is none in (λ i. status_of (same.stop i) (same.refused i));
      lines = λ none.
          subst (λ (text : List ℕ). Grows before.taken after.taken text) (lines_of_end n end r (is none)) grows;
      grows = (summary_line n ++ end_short_report end, grows);
      faults = faults;
    }))

-- a front of the lines was shown
pub shows_front : {O : Type 0} (n : ℕ) {machine : Machine} (end : RunEnd) (before after : Output O)
    (steps : ℕ) (opens : OpensMachine (generated n) (numbered n) machine) →
    (NoClash (run_of (generated n) steps opens.opened) → IsEndOf end (run_of (generated n) steps opens.opened)) →
    IsShownInPart before after (summary_line n ++ end_short_report end) →
    DemoAnswers n steps before after status.WriteFault
shows_front {O} n {machine} end before after steps opens is shown =
    let r = run_of (generated n) steps opens.opened in
    let front = fixed_front before.taken after.taken (summary_line n ++ end_short_report end) shown.front_shown in
    inl (record {
      made = r;
      is_run = run_is n steps opens;
      lines = λ none.
          subst (λ (text : List ℕ). GrowsByFront before.taken after.taken text) (lines_of_end n end r (is none))
          shown.front_shown;
      grows = (_, front.1);
      faults = shown.faults;
    })
