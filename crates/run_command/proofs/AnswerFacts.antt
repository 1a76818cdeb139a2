-- What the commands return.
use Rattle.std.proofs.Common.{◌≡◌, ◌<◌, ◌-◌, ◌^◌, ℕ, Bool, true, false, List, [], refl, sym, ◌∙◌, ap, subst, inl}
use Rattle.std.proofs.Common.{inr, Option, Some, Result}
use Rattle.cloak_base.specs.declared.causes.Stop.{Stop}
use Rattle.cloak_base.specs.declared.causes.Stop.TheVariants as stop
use Rattle.cloak_machine.specs.declared.machine.Machine.{Machine}
use Rattle.io_traits.specs.declared.shelf.Shelf as shelves
use Rattle.io_traits.specs.declared.sink.Sink as sinks
use Rattle.io_traits.specs.Told.{Tells, Grows, Rose, SameFiles, OtherFiles}
use Rattle.io_traits.proofs.ToldFacts.{Tells_after, Rose-after}
use Rattle.command_words.specs.Command as spec
use Rattle.cloak_model.specs.Exchange.{Piece, recorded, shown, recorded_bytes, shown_bytes}
use Rattle.std.specs.Result.{result_map_both}
use Rattle.cloak_model.specs.Beginning.{Fresh}
use Rattle.cloak_model.specs.Opening.{RunEdge, Lack}
use Rattle.cloak_model.specs.Run.{Run, run_of, due}
use Rattle.command_parts.specs.declared.refusal.Refusal.{Refusal}
use Rattle.command_parts.specs.declared.refusal.Refusal.TheVariants as refusal
use Rattle.command_parts.specs.declared.status.Status.{Status}
use Rattle.command_parts.specs.declared.status.Status.TheVariants as status
use Rattle.run_command.specs.declared.outlet.Outlet.{Outlet}
use Rattle.command_parts.specs.Outside.{Raised, Output, Outside, OnlyRead, outside}
use Rattle.run_command.specs.Outlet.{pieces_left, FailedAt, WroteAll, WroteFront, Writes, Gave}
use Rattle.command_parts.specs.Refusal.{status_of_refusal}
use Rattle.run_command.specs.Running.{IsStatusOfStop, run_status, status_of, unless_refused}
use Rattle.cloak_model.specs.Run.{NoClash}
use Rattle.run_command.specs.Preparing.{IsPrepared}
use Rattle.run_command.specs.Recording.{Records, GrowsSome}
use Rattle.command_parts.specs.Refusing.{Refuses}
use Rattle.command_parts.proofs.FaultFacts.{raised}
use Rattle.command_parts.specs.NoRun.{NoRun, IsRefused}
use Rattle.run_command.proofs.Lawful.{is_lawful}
use Rattle.run_command.specs.Answering.{AsksRun, IsLawful, HasRun, RunAnswers, KeepsFiles}

-- A line that refuses.

answers_refused : {S O : Type 0} (asked : spec.Asked) (r : Refusal) (before after : Outside S O) →
    IsRefused asked (status_of_refusal r) before after → RunAnswers asked before after (status_of_refusal r)
answers_refused asked (refusal.Usage fault) before after refused = refused
answers_refused asked (refusal.BadBundle fault) before after refused = refused
answers_refused asked refusal.ReadFault before after refused = refused
answers_refused asked refusal.NoMemory before after refused = refused
answers_refused asked refusal.NoKey before after refused = inl refused
answers_refused asked refusal.NoPageDraw before after refused = inl refused
answers_refused asked refusal.NoSuchDomain before after refused = refused
answers_refused asked refusal.ShortSecret before after refused = refused
answers_refused asked (refusal.BadStore fault) before after refused = refused
answers_refused asked (refusal.NoRoom domain) before after refused = refused
answers_refused asked (refusal.BadState fault) before after refused = refused
answers_refused asked (refusal.ChangedDomain domain) before after refused = refused
answers_refused asked (refusal.ChangedFrame frame) before after refused = refused

-- what is returned if there is no run
pub answers_no_run : {S O : Type 0} {asked : spec.Asked} {r : Refusal} {before after : Outside S O} {given : Status} →
    NoRun asked r before.files after.files → before.output.faults < 2 ^ 64 - 1 →
    Refuses before.output after.output r given → RunAnswers asked before after given
answers_no_run {S} {O} {asked} {r} {before} {after} {given} none low (inl shows) =
    subst (λ (x : Status). RunAnswers asked before after x) (sym shows.answer)
    (answers_refused asked r before after
    (record { refused = r; status = refl; no_run = none; line = shows.line_shown; faults = shows.faults }))
answers_no_run {S} {O} {asked} {r} {before} {after} {given} none low (inr front) =
    subst (λ (x : Status). RunAnswers asked before after x) (sym front.answer)
    (inl (record { refused = r; no_run = none; line = front.front_shown; faults = raised front.faults low }))

-- Writing a run.

-- an outlet over a record that was begun, and what it wrote, under the names that the shelf and the output have
-- afterwards
abbrev at : {S O : Type 0} (of_shelf : shelves.Ghosts S) → sinks.Ghosts O → Outlet S O of_shelf → Outside S O
at of_shelf of_sink o = outside of_shelf of_sink o.pen.shelf.now o.out.now

records_at : {S O : Type 0} (of_shelf : shelves.Ghosts S) (of_sink : sinks.Ghosts O) (name : List ℕ)
    (before : Outside S O) (now : Outlet S O of_shelf) (s' : S) (o' : O) (given : Status) (r : Run) →
    s' ≡ now.pen.shelf.now → o' ≡ now.out.now → Records name before (at of_shelf of_sink now) given r →
    Records name before (outside of_shelf of_sink s' o') given r
records_at {S} {O} of_shelf of_sink name before now s' o' given r same_shelf same_out records =
    subst (λ (x : S). Records name before (outside of_shelf of_sink x o') given r) (sym same_shelf)
    (subst (λ (x : O). Records name before (outside of_shelf of_sink now.pen.shelf.now x) given r) (sym same_out)
    records)

-- where writing failed, seen from before the record was begun
pub failed_since : {S O : Type 0} (piece : Piece) (before mid after : Outside S O) →
    mid.files.writing ≡ before.files.writing → mid.output ≡ before.output → FailedAt Rose piece mid after →
    FailedAt Rose piece before after
failed_since {S} {O} (recorded bytes) before mid after writing output fault =
    (Rose-after _ _ _ writing fault.0, fault.1 ∙ ap (λ (o : Output O). o.faults) output)
failed_since {S} {O} (shown bytes) before mid after writing output fault =
    (fault.0 ∙ writing, Rose-after _ _ _ (ap (λ (o : Output O). o.faults) output) fault.1)

-- what an output took, seen from before the record was begun
grows_since : {S O : Type 0} (before mid after : Outside S O) (text : List ℕ) → mid.output ≡ before.output →
    Grows mid.output.taken after.output.taken text → Grows before.output.taken after.output.taken text
grows_since {S} {O} before mid after text output grows =
    subst (λ (o : Output O). Grows o.taken after.output.taken text) output grows

-- the record was begun, and the outlet failed
records_front : {S O : Type 0} (name : List ℕ) (before mid after : Outside S O) (r : Run) (pieces : List Piece) →
    WroteFront name mid after pieces → (NoClash r → WroteFront name mid after (due r)) →
    Tells (mid.files.held name) [] → OtherFiles name before.files.held mid.files.held →
    mid.files.reading ≡ before.files.reading → mid.files.writing ≡ before.files.writing → mid.output ≡ before.output →
    Records name before after status.WriteFault r
records_front {S} {O} name before mid after r pieces w all empty others reading writing output = record {
  reading = w.wrote.reading ∙ reading;
  others = λ other apart. w.wrote.others other apart ∙ others other apart;
  grows = (shown_bytes (pieces_left w.cut), grows_since before mid after _ output w.wrote.output);
  outcome = inr (inr (record {
    answer = refl;
    cut_off = λ none. let d = all none in record {
      cut = d.cut;
      file = Tells_after (mid.files.held name) (after.files.held name) [] (recorded_bytes (pieces_left d.cut)) empty
          d.wrote.file;
      output = grows_since before mid after (shown_bytes (pieces_left d.cut)) output d.wrote.output;
      fault = failed_since d.cut.piece before mid after writing output d.fault;
    };
    fault = (w.cut.piece, failed_since w.cut.piece before mid after writing output w.fault);
  }));
}

-- the record was begun, and the run was written whole
records_all : {S O : Type 0} (name : List ℕ) (before mid after : Outside S O) (given : Status) (r : Run)
    (pieces : List Piece) → WroteAll name mid after pieces → (NoClash r → WroteAll name mid after (due r)) →
    IsStatusOfStop given → (NoClash r → given ≡ run_status r) →
    Tells (mid.files.held name) [] → OtherFiles name before.files.held mid.files.held →
    mid.files.reading ≡ before.files.reading → mid.files.writing ≡ before.files.writing → mid.output ≡ before.output →
    Records name before after given r
records_all {S} {O} name before mid after given r pieces w all some answer empty others reading writing output =
    record {
      reading = w.wrote.reading ∙ reading;
      others = λ other apart. w.wrote.others other apart ∙ others other apart;
      grows = (shown_bytes pieces, grows_since before mid after _ output w.wrote.output);
      outcome = inl (record {
        some_stop = some;
        written = λ none. let d = all none in record {
          status = answer none;
          file = Tells_after (mid.files.held name) (after.files.held name) [] (recorded_bytes (due r)) empty d.wrote.file;
          output = grows_since before mid after (shown_bytes (due r)) output d.wrote.output;
        };
        nothing_rose = record {
          reading = w.nothing_rose.reading ∙ reading;
          writing = w.nothing_rose.writing ∙ writing;
          faults = w.nothing_rose.faults ∙ ap (λ (o : Output O). o.faults) output;
        };
      });
    }

pub recorded_front : {S O : Type 0} {of_shelf : shelves.Ghosts S} {of_sink : sinks.Ghosts O}
    {first now : Outlet S O of_shelf} {pieces : List Piece} (old s' : S) (o' : O) (r : Run) →
    Gave of_shelf of_sink first now pieces →
    (NoClash r → Gave of_shelf of_sink first now (due r)) → first.pen.failed ≡ false → now.pen.failed ≡ true →
    s' ≡ now.pen.shelf.now → o' ≡ now.out.now →
    Tells (of_shelf.held first.pen.shelf.now first.pen.name.now) [] →
    OtherFiles first.pen.name.now (of_shelf.held old) (of_shelf.held first.pen.shelf.now) →
    of_shelf.reading_faults first.pen.shelf.now ≡ of_shelf.reading_faults old →
    of_shelf.writing_faults first.pen.shelf.now ≡ of_shelf.writing_faults old →
    Records first.pen.name.now (outside of_shelf of_sink old first.out.now) (outside of_shelf of_sink s' o')
    status.WriteFault r
recorded_front {S} {O} {of_shelf} {of_sink} {first} {now} {pieces} old s' o' r gave all fresh
    broken same_shelf same_out empty others same_reading same_writing =
    let before = outside of_shelf of_sink old first.out.now in
    let mid = at of_shelf of_sink first in
    let after = at of_shelf of_sink now in
    records_at of_shelf of_sink first.pen.name.now before now s' o' status.WriteFault r same_shelf same_out
    (records_front first.pen.name.now before mid after r pieces
    (subst (λ (b : Bool). Writes b first.pen.name.now mid after pieces) broken (gave.wrote fresh))
    (λ none. let g = all none in
    subst (λ (b : Bool). Writes b first.pen.name.now mid after (due r)) broken (g.wrote fresh))
    empty others same_reading same_writing refl)

pub recorded_all : {S O : Type 0} {of_shelf : shelves.Ghosts S} {of_sink : sinks.Ghosts O}
    {first now : Outlet S O of_shelf} {pieces : List Piece} (old s' : S) (o' : O) (given : Status) (r : Run) →
    Gave of_shelf of_sink first now pieces →
    (NoClash r → Gave of_shelf of_sink first now (due r)) → first.pen.failed ≡ false →
    now.pen.failed ≡ false → s' ≡ now.pen.shelf.now → o' ≡ now.out.now → IsStatusOfStop given →
    (NoClash r → given ≡ run_status r) →
    Tells (of_shelf.held first.pen.shelf.now first.pen.name.now) [] →
    OtherFiles first.pen.name.now (of_shelf.held old) (of_shelf.held first.pen.shelf.now) →
    of_shelf.reading_faults first.pen.shelf.now ≡ of_shelf.reading_faults old →
    of_shelf.writing_faults first.pen.shelf.now ≡ of_shelf.writing_faults old →
    Records first.pen.name.now (outside of_shelf of_sink old first.out.now) (outside of_shelf of_sink s' o') given r
recorded_all {S} {O} {of_shelf} {of_sink} {first} {now} {pieces} old s' o' given r gave all fresh
    well same_shelf same_out some answer empty others same_reading same_writing =
    let before = outside of_shelf of_sink old first.out.now in
    let mid = at of_shelf of_sink first in
    let after = at of_shelf of_sink now in
    records_at of_shelf of_sink first.pen.name.now before now s' o' given r same_shelf same_out
    (records_all first.pen.name.now before mid after given r pieces
    (subst (λ (b : Bool). Writes b first.pen.name.now mid after pieces) well (gave.wrote fresh))
    (λ none. let g = all none in
    subst (λ (b : Bool). Writes b first.pen.name.now mid after (due r)) well (g.wrote fresh))
    some answer empty others same_reading same_writing refl)

-- A run over a machine that was prepared.

-- the status of a run says that it was made
answers_unless : {S O : Type 0} (asked : spec.Asked) (before after : Outside S O) (refused : Bool) →
    HasRun asked (unless_refused refused) before after → RunAnswers asked before after (unless_refused refused)
answers_unless asked before after true run = run
answers_unless asked before after false run = run

answers_stop : {S O : Type 0} (asked : spec.Asked) (before after : Outside S O) (cause : Stop) (refused : Bool) →
    HasRun asked (status_of cause refused) before after → RunAnswers asked before after (status_of cause refused)
answers_stop asked before after (stop.Halt value) refused run = answers_unless asked before after refused run
answers_stop asked before after stop.Budget refused run = answers_unless asked before after refused run
answers_stop asked before after stop.NoRandom refused run = inr run

answers_some_stop : {S O : Type 0} (asked : spec.Asked) (before after : Outside S O) (given : Status) →
    IsStatusOfStop given → HasRun asked given before after → RunAnswers asked before after given
answers_some_stop {S} {O} asked before after given some run =
    subst (λ (s : Status). RunAnswers asked before after s) (sym some.2)
    (answers_stop asked before after some.0 some.1
    (subst (λ (s : Status). HasRun asked s before after) some.2 run))

pub failed_above : {S O : Type 0} (piece : Piece) (before after : Outside S O) → before.files.writing < 2 ^ 64 - 1 →
    before.output.faults < 2 ^ 64 - 1 → FailedAt Rose piece before after → FailedAt Raised piece before after
failed_above (recorded bytes) before after low_writing low_faults fault = (raised fault.0 low_writing, fault.1)
failed_above (shown bytes) before after low_writing low_faults fault = (fault.0, raised fault.1 low_faults)

-- what the words ask for if a machine was prepared
pub asks_run : {asked : spec.Asked} {held : List ℕ → Option (List ℕ)} {record_name : List ℕ} {steps : ℕ}
    {machine : Machine} (prepared : IsPrepared asked held (Some record_name) steps machine) →
    AsksRun asked held record_name (run_of prepared.bundle steps prepared.opened)
asks_run {asked} {held} {record_name} {steps} {machine} prepared = record {
  steps = steps;
  bundle = prepared.bundle;
  stream = prepared.stream;
  asks = prepared.asks;
  joint = ap (λ (opened : Result RunEdge Lack). result_map_both (run_of prepared.bundle steps) (λ lack. lack) opened)
      prepared.opens;
}

-- the laws hold of it
pub lawful_run : {asked : spec.Asked} {held : List ℕ → Option (List ℕ)} {record_name : List ℕ} {steps : ℕ}
    {machine : Machine} (prepared : IsPrepared asked held (Some record_name) steps machine) →
    IsLawful (asks_run prepared).bundle (Fresh (asks_run prepared).stream) (run_of prepared.bundle steps prepared.opened)
unfolding asks_run
lawful_run {asked} {held} {record_name} {steps} {machine} prepared =
    is_lawful prepared.bundle (Fresh prepared.stream) steps (run_of prepared.bundle steps prepared.opened)
    prepared.asks.file.in_grammar prepared.image_bytes prepared.stream_bytes prepared.few_steps (asks_run prepared).joint

pub answers_recorded : {S O : Type 0} {asked : spec.Asked} {name : List ℕ} {before mid after : Outside S O}
    {given : Status} {r : Run} (asks : AsksRun asked before.files.held name r) → IsLawful asks.bundle (Fresh asks.stream) r →
    OnlyRead before.files mid.files → mid.output ≡ before.output → before.files.writing < 2 ^ 64 - 1 →
    before.output.faults < 2 ^ 64 - 1 → Records name mid after given r →
    RunAnswers asked before after given
answers_recorded {S} {O} {asked} {name} {before} {mid} {after} {given} {r} asks lawful reads same_output low_writing
    low_faults records =
    let others : OtherFiles name before.files.held after.files.held = λ other apart. records.others other apart ∙
    reads.held other in
    let grows : GrowsSome before.output.taken after.output.taken =
    (records.grows.0, grows_since before mid after records.grows.0 same_output records.grows.1) in
    elim records.outcome [
      | inl all ↦
          answers_some_stop asked before after given all.some_stop (record {
            record_name = name;
            made = r;
            asks = asks;
            lawful = lawful;
            written = λ none. let w = all.written none in record {
              status = w.status;
              file = w.file;
              output = grows_since before mid after (shown_bytes (due r)) same_output w.output;
            };
            grows = grows;
            others = others;
            nothing_rose = record {
              reading = records.reading ∙ reads.reading;
              writing = all.nothing_rose.writing ∙ reads.writing;
              faults = all.nothing_rose.faults ∙ ap (λ (o : Output O). o.faults) same_output;
            };
          })
      | inr (inl none) ↦
          subst (λ (s : Status). RunAnswers asked before after s) (sym none.answer)
          (inr (inl (record {
            record_name = name;
            due_run = r;
            asks = asks;
            file = elim none.file [ inl same ↦ inl (same ∙ reads.held name) | inr empty ↦ inr empty ];
            others = others;
            reading = records.reading ∙ reads.reading;
            writing = raised (Rose-after _ _ _ reads.writing none.writing) low_writing;
            untouched = none.untouched ∙ same_output;
          })))
      | inr (inr front) ↦
          subst (λ (s : Status). RunAnswers asked before after s) (sym front.answer)
          (inr (inr (record {
            record_name = name;
            due_run = r;
            asks = asks;
            cut_off = λ none. let c = front.cut_off none in record {
              cut = c.cut;
              file = c.file;
              output = grows_since before mid after (shown_bytes (pieces_left c.cut)) same_output c.output;
              fault = failed_above c.cut.piece before after low_writing low_faults
                  (failed_since c.cut.piece before mid after reads.writing same_output c.fault);
            };
            grows = grows;
            others = others;
            reading = records.reading ∙ reads.reading;
            fault = (
              front.fault.0,
              failed_above front.fault.0 before after low_writing low_faults
                  (failed_since front.fault.0 before mid after reads.writing same_output front.fault.1),
            );
          })))
    ]

-- the same of what the words ask for
pub answers_asked : {S O : Type 0} {asked same : spec.Asked} (before after : Outside S O) (given : Status) →
    asked ≡ same → RunAnswers asked before after given → RunAnswers same before after given
answers_asked {S} {O} {asked} {same} before after given is answers =
    subst (λ (a : spec.Asked). RunAnswers a before after given) is answers

-- What every answer says of the files.

keeps_run : (asked : spec.Asked) (answer : Status) (held held' : List ℕ → Option (List ℕ))
    (record_name bundle_name : List ℕ) (steps : ℕ) (from : spec.Randomness) →
    asked ≡ spec.Run bundle_name record_name steps from →
    KeepsFiles (spec.Run bundle_name record_name steps from) answer held held' → KeepsFiles asked answer held held'
keeps_run asked answer held held' record_name bundle_name steps from is keeps =
    subst (λ (a : spec.Asked). KeepsFiles a answer held held') (sym is) keeps

pub same_files : (asked : spec.Asked) (answer : Status) (held held' : List ℕ → Option (List ℕ)) → SameFiles held held' →
    KeepsFiles asked answer held held'
same_files (spec.Faulty fault) answer held held' same = same
same_files (spec.View bundle_name record_name) answer held held' same = same
same_files (spec.Solo domain bundle_name record_name) answer held held' same = same
same_files (spec.SoloOver domain bundle_name record_name old) answer held held' same = same
same_files (spec.Gen number bundle_name) answer held held' same = same
same_files (spec.Demo number steps) answer held held' same = same
same_files (spec.Stats bundle_name steps from) answer held held' same = same
same_files (spec.Upgrade old_name new_name) answer held held' same = same
same_files (spec.Store names counter steps from) answer held held' same = same
same_files (spec.Freeze names steps from) answer held held' same = same
same_files (spec.Thaw names steps from) answer held held' same = same
same_files (spec.Run bundle_name record_name steps from) status.Done held held' same = λ other apart. same other
same_files (spec.Run bundle_name record_name steps from) status.Violation held held' same = λ other apart. same other
same_files (spec.Run bundle_name record_name steps from) status.Usage held held' same = same
same_files (spec.Run bundle_name record_name steps from) status.BadBundle held held' same = same
same_files (spec.Run bundle_name record_name steps from) status.ReadFault held held' same = same
same_files (spec.Run bundle_name record_name steps from) status.WriteFault held held' same = λ other apart. same other
same_files (spec.Run bundle_name record_name steps from) status.NoMemory held held' same = same
same_files (spec.Run bundle_name record_name steps from) status.NoRandom held held' same = λ other apart. same other
same_files (spec.Run bundle_name record_name steps from) status.BadRecord held held' same = same
same_files (spec.Run bundle_name record_name steps from) status.BadStore held held' same = same
same_files (spec.Run bundle_name record_name steps from) status.Frozen held held' same = same
same_files (spec.Run bundle_name record_name steps from) status.BadState held held' same = same

-- a run that was made changed its record at most
keeps_record : {S O : Type 0} (asked : spec.Asked) (before after : Outside S O) (answer given : Status) →
    HasRun asked given before after →
    ((bundle_name record_name : List ℕ) (steps : ℕ) (from : spec.Randomness) →
    OtherFiles record_name before.files.held after.files.held →
    KeepsFiles (spec.Run bundle_name record_name steps from) answer before.files.held after.files.held) →
    KeepsFiles asked answer before.files.held after.files.held
keeps_record {S} {O} asked before after answer given run keeps =
    let asks = run.asks.asks in
    keeps_run asked answer _ _ run.record_name asks.bundle_name run.asks.steps asks.randomness asks.run
    (keeps asks.bundle_name run.record_name run.asks.steps asks.randomness run.others)

pub keeps_files : {S O : Type 0} (asked : spec.Asked) (before after : Outside S O) (answer : Status) →
    RunAnswers asked before after answer → KeepsFiles asked answer before.files.held after.files.held
keeps_files asked before after status.Done run =
    keeps_record asked before after status.Done status.Done run (λ b r n f others. others)
keeps_files asked before after status.Violation run =
    keeps_record asked before after status.Violation status.Violation run (λ b r n f others. others)
keeps_files asked before after status.Usage refused = same_files asked status.Usage _ _ refused.no_run.held
keeps_files asked before after status.BadBundle refused = same_files asked status.BadBundle _ _ refused.no_run.held
keeps_files asked before after status.ReadFault refused = same_files asked status.ReadFault _ _ refused.no_run.held
keeps_files asked before after status.WriteFault (inl line) = same_files asked status.WriteFault _ _ line.no_run.held
keeps_files asked before after status.WriteFault (inr (inl none)) =
    keeps_run asked status.WriteFault _ _ _ _ _ _ none.asks.asks.run none.others
keeps_files asked before after status.WriteFault (inr (inr broke)) =
    keeps_run asked status.WriteFault _ _ _ _ _ _ broke.asks.asks.run broke.others
keeps_files asked before after status.NoMemory refused = same_files asked status.NoMemory _ _ refused.no_run.held
keeps_files asked before after status.NoRandom (inl refused) =
    same_files asked status.NoRandom _ _ refused.no_run.held
keeps_files asked before after status.NoRandom (inr run) =
    keeps_record asked before after status.NoRandom status.NoRandom run (λ b r n f others. others)
keeps_files asked before after status.BadRecord never = absurd never
keeps_files asked before after status.BadStore refused = same_files asked status.BadStore _ _ refused.no_run.held
keeps_files asked before after status.Frozen never = absurd never
keeps_files asked before after status.BadState refused = same_files asked status.BadState _ _ refused.no_run.held
