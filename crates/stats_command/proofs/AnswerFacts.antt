-- What `stats` returns.
use Rattle.std.proofs.Common.{◌≡◌, ◌<◌, ◌-◌, ◌^◌, ◌∙◌, ℕ, Bool, true, false, List, None, refl, sym, subst, inl, inr}
use Rattle.cloak_base.specs.declared.causes.Stop.{Stop}
use Rattle.cloak_base.specs.declared.causes.Stop.TheVariants as stop
use Rattle.cloak_model.specs.declared.image.Bundle.{Bundle}
use Rattle.cloak_model.specs.Opening.{RunEdge}
use Rattle.cloak_model.specs.Run.{run_of}
use Rattle.command_words.specs.Command as spec
use Rattle.cloak_machine.specs.declared.machine.Machine.{Machine}
use Rattle.io_traits.specs.Told.{Grows, GrowsByFront}
use Rattle.command_parts.specs.declared.refusal.Refusal.{Refusal}
use Rattle.command_parts.specs.declared.refusal.Refusal.TheVariants as refusal
use Rattle.command_parts.specs.declared.status.Status.{Status}
use Rattle.command_parts.specs.declared.status.Status.TheVariants as status
use Rattle.command_parts.specs.NoRun.{NoRun, IsRefused}
use Rattle.command_parts.specs.Outside.{OnlyRead, Outside, Output, Raised}
use Rattle.command_parts.specs.Refusal.{status_of_refusal}
use Rattle.command_parts.specs.Refusing.{Refuses}
use Rattle.command_parts.proofs.FaultFacts.{raised}
use Rattle.run_command.proofs.OutletFacts.{fixed_front}
use Rattle.run_command.specs.Preparing.{IsPrepared}
use Rattle.run_command.specs.Running.{IsStatusOfStop, status_of, unless_refused}
use Rattle.cloak_model.specs.Run.{NoClash}
use Rattle.stats_command.specs.declared.counting.Counted.{Counted}
use Rattle.stats_command.specs.Answering.{AsksStats, HasStats, StatsAnswers}
use Rattle.stats_command.specs.Counting.{IsCountOf}
use Rattle.stats_command.specs.Showing.{ShowsStats, run_lines, stats_lines}

-- What is shown of a run.

-- the lines of a run, from what was counted
lines_counted : (counted : Counted) (b : Bundle) (steps : ℕ) (o : RunEdge) → IsCountOf counted b steps o →
    stats_lines counted.stop counted.counts ≡ run_lines b steps o
lines_counted counted b steps o is = λ i. stats_lines (is.stop i) (is.counts i)

-- all lines were shown
pub shows_lines : {O : Type 0} (counted : Counted) (b : Bundle) (steps : ℕ) (o : RunEdge) (before after : Output O)
    (answer : Status) → (NoClash (run_of b steps o) → IsCountOf counted b steps o) →
    Grows before.taken after.taken (stats_lines counted.stop counted.counts) → after.faults ≡ before.faults →
    answer ≡ status_of counted.stop counted.refused → ShowsStats b steps o before after answer
shows_lines {O} counted b steps o before after answer is grows faults given = inl (record {
  some_stop = (counted.stop, counted.refused, given);
  status = λ none. let same = is none in given ∙ (λ i. status_of (same.stop i) (same.refused i));
  lines = λ none.
      subst (λ (text : List ℕ). Grows before.taken after.taken text) (lines_counted counted b steps o (is none)) grows;
  grows = (stats_lines counted.stop counted.counts, grows);
  faults = faults;
})

-- a front of them was shown
pub shows_front : {O : Type 0} (counted : Counted) (b : Bundle) (steps : ℕ) (o : RunEdge) (before after : Output O)
    (answer : Status) → (NoClash (run_of b steps o) → IsCountOf counted b steps o) →
    GrowsByFront before.taken after.taken (stats_lines counted.stop counted.counts) →
    Raised before.faults after.faults → answer ≡ status.WriteFault → ShowsStats b steps o before after answer
shows_front {O} counted b steps o before after answer is front faults given = inr (record {
  write_fault = given;
  lines = λ none.
      subst (λ (text : List ℕ). GrowsByFront before.taken after.taken text)
      (lines_counted counted b steps o (is none)) front;
  grows = (
    _,
    (fixed_front before.taken after.taken (stats_lines counted.stop counted.counts) front).1,
  );
  faults = faults;
})

-- A line that refuses.

answers_refused : {S O : Type 0} (asked : spec.Asked) (r : Refusal) (before after : Outside S O) →
    IsRefused asked (status_of_refusal r) before after → StatsAnswers asked before after (status_of_refusal r)
answers_refused asked (refusal.Usage fault) before after refused = refused
answers_refused asked (refusal.BadBundle fault) before after refused = refused
answers_refused asked refusal.ReadFault before after refused = refused
answers_refused asked refusal.NoMemory before after refused = refused
answers_refused asked refusal.NoKey before after refused = inl refused
answers_refused asked refusal.NoPageDraw before after refused = inl refused
answers_refused asked refusal.NoSuchDomain before after refused = refused
answers_refused asked refusal.ShortSecret before after refused = refused
answers_refused asked (refusal.BadStore fault) before after refused = refused
answers_refused asked (refusal.NoRoom domain) before after refused = refused
answers_refused asked (refusal.BadState fault) before after refused = refused
answers_refused asked (refusal.ChangedDomain domain) before after refused = refused
answers_refused asked (refusal.ChangedFrame frame) before after refused = refused

-- what is returned if there is no run
pub answers_no_run : {S O : Type 0} {asked : spec.Asked} {r : Refusal} {before after : Outside S O} {given : Status} →
    NoRun asked r before.files after.files → before.output.faults < 2 ^ 64 - 1 →
    Refuses before.output after.output r given → StatsAnswers asked before after given
answers_no_run {S} {O} {asked} {r} {before} {after} {given} none low (inl shows) =
    subst (λ (x : Status). StatsAnswers asked before after x) (sym shows.answer)
    (answers_refused asked r before after
    (record { refused = r; status = refl; no_run = none; line = shows.line_shown; faults = shows.faults }))
answers_no_run {S} {O} {asked} {r} {before} {after} {given} none low (inr front) =
    subst (λ (x : Status). StatsAnswers asked before after x) (sym front.answer)
    (inl (record { refused = r; no_run = none; line = front.front_shown; faults = raised front.faults low }))

-- A run that was made.

answers_unless : {S O : Type 0} (asked : spec.Asked) (before after : Outside S O) (refused : Bool) →
    HasStats asked (unless_refused refused) before after → StatsAnswers asked before after (unless_refused refused)
answers_unless asked before after true has = has
answers_unless asked before after false has = has

answers_stop : {S O : Type 0} (asked : spec.Asked) (before after : Outside S O) (cause : Stop) (refused : Bool) →
    HasStats asked (status_of cause refused) before after → StatsAnswers asked before after (status_of cause refused)
answers_stop asked before after (stop.Halt value) refused has = answers_unless asked before after refused has
answers_stop asked before after stop.Budget refused has = answers_unless asked before after refused has
answers_stop asked before after stop.NoRandom refused has = inr has

answers_some_stop : {S O : Type 0} (asked : spec.Asked) (before after : Outside S O) (given : Status) →
    IsStatusOfStop given → HasStats asked given before after → StatsAnswers asked before after given
answers_some_stop {S} {O} asked before after given some has =
    subst (λ (s : Status). StatsAnswers asked before after s) (sym some.2)
    (answers_stop asked before after some.0 some.1
    (subst (λ (s : Status). HasStats asked s before after) some.2 has))

-- what the words ask for if a machine was prepared
asks_stats : {asked : spec.Asked} {held : List ℕ → _} {steps : ℕ} {machine : Machine} →
    IsPrepared asked held None steps machine → AsksStats asked held
asks_stats {asked} {held} {steps} {machine} prepared = record {
  steps = steps;
  bundle = prepared.bundle;
  stream = prepared.stream;
  asks = prepared.asks;
  opened = prepared.opened;
  opens = prepared.opens;
}

pub answers_shown : {S O : Type 0} {asked : spec.Asked} {steps : ℕ} {machine : Machine} (before after : Outside S O)
    (given : Status) (prepared : IsPrepared asked before.files.held None steps machine) →
    OnlyRead before.files after.files →
    ShowsStats prepared.bundle steps prepared.opened before.output after.output given →
    StatsAnswers asked before after given
unfolding asks_stats
answers_shown {S} {O} {asked} {steps} {machine} before after given prepared reads (inl shows) =
    answers_some_stop asked before after given shows.some_stop (record {
      asks = asks_stats prepared;
      status = shows.status;
      lines = shows.lines;
      grows = shows.grows;
      files = reads;
      faults = shows.faults;
    })
answers_shown {S} {O} {asked} {steps} {machine} before after given prepared reads (inr front) =
    subst (λ (s : Status). StatsAnswers asked before after s) (sym front.write_fault) (inr (record {
      asks = asks_stats prepared;
      lines = front.lines;
      grows = front.grows;
      files = reads;
      faults = front.faults;
    }))
