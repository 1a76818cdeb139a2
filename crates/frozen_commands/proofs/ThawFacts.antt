-- What `thaw` returns, by what was written.
use Rattle.std.proofs.Common.{◌≡◌, ◌<◌, ◌≤◌, ◌-◌, ◌^◌, ◌∙◌, ◌⊎◌, ℕ, Bool, true, false, List, [], refl, sym, subst, inl, inr, Option, Some, None, Result, OnErr, is_err}
use Rattle.cloak_base.specs.declared.causes.Failed.{Failed}
use Rattle.cloak_base.specs.declared.causes.Stop.{Stop}
use Rattle.cloak_base.specs.declared.causes.Stop.TheVariants as stop
use Rattle.cloak_machine.specs.declared.machine.Machine.{Machine}
use Rattle.cloak_machine.specs.Standing.{StandsForMoment}
use Rattle.cloak_model.specs.declared.image.Bundle.{Bundle}
use Rattle.cloak_model.specs.Exchange.{Piece, recorded, shown_bytes}
use Rattle.cloak_model.specs.Parts.{Joint}
use Rattle.command_words.specs.Command as spec
use Rattle.frozen_state.specs.Continuing.{next_moment, run_on}
use Rattle.io_traits.specs.Told.{Counts, OtherFiles, SameFiles, Tells}
use Rattle.io_traits.proofs.ToldFacts.{Grows-none}
use Rattle.command_parts.specs.declared.refusal.Refusal.{Refusal}
use Rattle.command_parts.specs.declared.refusal.Refusal.TheVariants as refusal
use Rattle.command_parts.specs.declared.status.Status.{Status}
use Rattle.command_parts.specs.declared.status.Status.TheVariants as status
use Rattle.command_parts.specs.NoRun.{IsRefused, NoRun}
use Rattle.command_parts.specs.Outside.{FilesOutside, OnlyRead, Output, Outside}
use Rattle.command_parts.specs.Refusal.{status_of_refusal}
use Rattle.command_parts.specs.Refusing.{Refuses}
use Rattle.command_parts.specs.Thawing.{ThawSources}
use Rattle.command_parts.proofs.FaultFacts.{raised}
use Rattle.run_command.specs.Outlet.{WroteAll, WroteFront, pieces_left}
use Rattle.run_command.specs.Running.{IsStatusOfStop, status_of}
use Rattle.cloak_model.specs.Run.{NoClash}
use Rattle.run_command.proofs.BegunFacts.{AreLow, HasBegunRecord, at_pieces, fault_since, grows_from}
use Rattle.frozen_commands.specs.ThawAnswering.{HasThawed, KeepsThawedFiles, ThawAnswers, Thaws}
use Rattle.frozen_commands.specs.Thawing.{IsThawed, RecordsRest}
use Rattle.frozen_commands.proofs.WholeFacts.{is_whole_run}
use Rattle.frozen_commands.proofs.WrittenFacts.{begins_no_record, has_written, is_cut_off}

-- A line that refuses.

answers_refused : {S O : Type 0} (asked : spec.Asked) (r : Refusal) (before after : Outside S O) →
    IsRefused asked (status_of_refusal r) before after → ThawAnswers asked before after (status_of_refusal r)
answers_refused asked refusal.NoKey before after refused = inl refused
answers_refused asked refusal.NoPageDraw before after refused = inl refused
answers_refused asked _ before after refused = refused

-- what is answered if there is no run
pub answers_no_run : {S O : Type 0} {asked : spec.Asked} {r : Refusal} {before after : Outside S O} {given : Status} →
    NoRun asked r before.files after.files → before.output.faults < 2 ^ 64 - 1 →
    Refuses before.output after.output r given → ThawAnswers asked before after given
answers_no_run {S} {O} {asked} {r} {before} {after} {given} none low (inl shows) =
    subst (λ (x : Status). ThawAnswers asked before after x) (sym shows.answer)
    (answers_refused asked r before after
    (record { refused = r; status = refl; no_run = none; line = shows.line_shown; faults = shows.faults }))
answers_no_run {S} {O} {asked} {r} {before} {after} {given} none low (inr front) =
    subst (λ (x : Status). ThawAnswers asked before after x) (sym front.answer)
    (inl (record { refused = r; no_run = none; line = front.front_shown; faults = raised front.faults low }))

pub same_files : (names : spec.ThawNames) (answer : Status) (held held' : List ℕ → Option (List ℕ)) →
    SameFiles held held' → KeepsThawedFiles names answer held held'
same_files names status.Done held held' same = λ other one. same other
same_files names status.Violation held held' same = λ other one. same other
same_files names status.WriteFault held held' same = λ other one. same other
same_files names status.NoRandom held held' same = λ other one. same other
same_files names _ held held' same = same

-- A machine that goes on.

-- What is asked for, with the machine that goes on.
pub record Asks {S O : Type 0} (names : spec.ThawNames) (steps : ℕ) (randomness : spec.Randomness) (machine : Machine)
    (before : Outside S O) : Type 0 where
  pub is : IsThawed names steps randomness before.files.held machine
  pub low : AreLow before

thaws : {S O : Type 0} {names : spec.ThawNames} {steps : ℕ} {randomness : spec.Randomness} {machine : Machine}
    {before : Outside S O} (after : Outside S O) (asks : Asks names steps randomness machine before)
    (Becomes : spec.ThawNames → ℕ → ThawSources → Type 0) → Becomes names steps asks.is.sources →
    Thaws (spec.Thaw names steps randomness) before after Becomes
thaws {S} {O} {names} {steps} {randomness} {machine} {before} after asks Becomes becomes = record {
  names = names;
  steps = steps;
  randomness = randomness;
  thaw = refl;
  sources = asks.is.sources;
  asks = asks.is.asks;
  few = asks.is.few;
  passes = let t = asks.is.thaws in
      record { keys = t.keys; rest = t.rest; drawn = t.drawn; thawable = t.thawable };
  whole = λ whole had. is_whole_run asks.is.asks.bundle.is.in_grammar asks.is.image_bytes asks.is.stream_bytes
      asks.is.few had;
  becomes = becomes;
}

-- What is answered, and which files stay.
abbrev pub Answered : {S O : Type 0} → spec.ThawNames → ℕ → spec.Randomness → Outside S O → Outside S O → Status → Type 0
Answered names steps randomness before after given =
    ThawAnswers (spec.Thaw names steps randomness) before after given
    × KeepsThawedFiles names given before.files.held after.files.held

-- The record could not be begun.
pub not_begun : {S O : Type 0} {names : spec.ThawNames} {steps : ℕ} {randomness : spec.Randomness} {machine : Machine}
    (before now after : FilesOutside S) (out : Output O) (r : Result Unit Failed) →
    Asks {S = S} {O = O} names steps randomness machine (record { files = before; output = out }) → OnlyRead before now →
    OnErr r ((after.held names.record_name ≡ now.held names.record_name) ⊎ Tells (after.held names.record_name) []) →
    OtherFiles names.record_name now.held after.held → Counts now.writing after.writing r →
    after.reading ≡ now.reading → is_err r ≡ true →
    Answered {S = S} {O = O} names steps randomness (record { files = before; output = out })
    (record { files = after; output = out }) status.WriteFault
not_begun {S} {O} {names} {steps} {randomness} {machine} before now after out r asks read file others writing reading ill =
    let none = begins_no_record names.record_name before now after out r read asks.low file others writing ill in (
      inr (record {
        thaws = thaws (record { files = after; output = out }) asks _ (inl none, none.others);
        grows = ([], Grows-none _);
        reading = reading ∙ read.reading;
        fault = (recorded [], (none.writing, refl));
      }),
      none.others,
    )

-- what is told of the rest of each machine that can go on
abbrev pub EachRest : {S O : Type 0} → spec.ThawNames → ℕ → Machine → Outside S O → Outside S O → Option Status → Type 0
EachRest names steps machine mid after given =
    (b : Bundle) (n : ℕ) (j : Joint) → StandsForMoment machine (next_moment b n j) → NoClash (run_on b n j steps) →
    RecordsRest names.record_name mid after given n (run_on b n j steps)

-- Writing broke off in the rest.
pub rest_failed : {S O : Type 0} {names : spec.ThawNames} {steps : ℕ} {randomness : spec.Randomness} {machine : Machine}
    {before mid after : Outside S O} {pieces : List Piece} → Asks names steps randomness machine before →
    HasBegunRecord names.record_name before mid → WroteFront names.record_name mid after pieces →
    EachRest names steps machine mid after None → Answered names steps randomness before after status.WriteFault
rest_failed {S} {O} {names} {steps} {randomness} {machine} {before} {mid} {after} {pieces} asks begun front each =
    let s = asks.is.sources in
    let others : OtherFiles names.record_name before.files.held after.files.held =
    λ other apart. front.wrote.others other apart ∙ begun.others other apart in (
      inr (record {
        thaws = thaws after asks _ (
          inr (λ j on none. let rest = each s.bundle s.state.steps j (asks.is.thaws.stands j on) none in
              is_cut_off asks.low begun rest.writes),
          others,
        );
        grows = (shown_bytes (pieces_left front.cut), grows_from before mid _ _ begun.output front.wrote.output);
        reading = front.wrote.reading ∙ begun.reading;
        fault = (front.cut.piece, fault_since after front.cut.piece asks.low begun front.fault);
      }),
      others,
    )

-- The rest was written.

has_thawed : {S O : Type 0} (names : spec.ThawNames) (steps : ℕ) (randomness : spec.Randomness)
    (before after : Outside S O) (cause : Stop) (refused : Bool) →
    HasThawed (spec.Thaw names steps randomness) (status_of cause refused) before after →
    OtherFiles names.record_name before.files.held after.files.held →
    Answered names steps randomness before after (status_of cause refused)
has_thawed names steps randomness before after (stop.Halt value) true thawed others = (thawed, others)
has_thawed names steps randomness before after (stop.Halt value) false thawed others = (thawed, others)
has_thawed names steps randomness before after stop.Budget true thawed others = (thawed, others)
has_thawed names steps randomness before after stop.Budget false thawed others = (thawed, others)
has_thawed names steps randomness before after stop.NoRandom refused thawed others = (inr thawed, others)

pub rest_written : {S O : Type 0} {names : spec.ThawNames} {steps : ℕ} {randomness : spec.Randomness} {machine : Machine}
    {before mid after : Outside S O} {pieces : List Piece} {given : Status} → Asks names steps randomness machine before →
    HasBegunRecord names.record_name before mid → WroteAll names.record_name mid after pieces → IsStatusOfStop given →
    EachRest names steps machine mid after (Some given) → Answered names steps randomness before after given
rest_written {S} {O} {names} {steps} {randomness} {machine} {before} {mid} {after} {pieces} {given} asks begun all some
    each =
    let s = asks.is.sources in
    let at = at_pieces begun all in
    subst (λ (x : Status). Answered names steps randomness before after x) (sym some.2)
    (has_thawed names steps randomness before after some.0 some.1 (record {
      thaws = thaws after asks _ (
        λ j on none. let rest = each s.bundle s.state.steps j (asks.is.thaws.stands j on) none in
            record { status = sym some.2 ∙ rest.status; written = has_written begun rest.writes },
        at.others,
      );
      some_stop = (some.0, some.1, refl);
      grows = at.grows;
      nothing_rose = at.nothing_rose;
    }) at.others)
