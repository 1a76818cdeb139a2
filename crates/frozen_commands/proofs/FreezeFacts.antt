-- What `freeze` returns, by what was written.
use Rattle.std.proofs.Common.{◌≡◌, ◌<◌, ◌≤◌, ◌-◌, ◌^◌, ◌∙◌, ◌⊎◌, ℕ, Bool, true, false, List, [], ◌++◌, length, take, refl, sym, ap, subst, inl, inr, Option, Some, None, Result, Ok, OnErr, is_err}
use Rattle.std.specs.Prelude.{◌≢◌}
use Rattle.std.specs.Result.{result_map_both}
use Rattle.sha2.specs.Sha256.{sha256}
use Rattle.cloak_base.specs.declared.causes.Failed.{Failed}
use Rattle.cloak_base.specs.declared.causes.Stop.{Stop}
use Rattle.cloak_base.specs.declared.causes.Stop.TheVariants as stop
use Rattle.cloak_machine.specs.declared.machine.Machine.{Machine}
use Rattle.cloak_model.specs.Beginning.{Fresh}
use Rattle.cloak_model.specs.Exchange.{Piece, recorded, shown, recorded_bytes, shown_bytes}
use Rattle.cloak_model.specs.Opening.{Lack, RunEdge}
use Rattle.cloak_model.specs.Run.{Run, due, first_moment, joint_after, joint_run, most_steps, run_of, turns_from}
use Rattle.command_words.specs.Command as spec
use Rattle.frozen_state.specs.declared.frozen.Frozen.{Frozen}
use Rattle.frozen_state.specs.Continuing.{first_pieces}
use Rattle.frozen_state.specs.FrozenState.{frozen_bytes, frozen_of}
use Rattle.io_traits.specs.Told.{Counts, Grows, OtherFiles, SameFiles, Tells}
use Rattle.io_traits.proofs.ToldFacts.{Grows-append, Grows-none, Rose-after}
use Rattle.command_parts.specs.declared.refusal.Refusal.{Refusal}
use Rattle.command_parts.specs.declared.refusal.Refusal.TheVariants as refusal
use Rattle.command_parts.specs.declared.status.Status.{Status}
use Rattle.command_parts.specs.declared.status.Status.TheVariants as status
use Rattle.command_parts.specs.Freezing.{FreezeSources}
use Rattle.command_parts.specs.NoRun.{IsRefused, NoRun}
use Rattle.command_parts.specs.Outside.{FilesOutside, NothingRose, OnlyRead, Output, Outside}
use Rattle.command_parts.specs.Refusal.{status_of_refusal}
use Rattle.command_parts.specs.Refusing.{Refuses}
use Rattle.command_parts.proofs.FaultFacts.{raised, risen}
use Rattle.run_command.specs.Outlet.{WroteAll, WroteFront, pieces_left}
use Rattle.run_command.specs.Recording.{GrowsSome}
use Rattle.run_command.specs.Running.{IsStatusOfStop, run_status, status_of, unless_refused}
use Rattle.cloak_model.specs.Run.{NoClashYet}
use Rattle.run_command.proofs.BegunFacts.{AreLow, AtPieces, HasBegunRecord, at_pieces, fault_since, front_of_text, grows_from}
use Rattle.run_command.proofs.Lawful.{is_lawful}
use Rattle.frozen_commands.specs.declared.first.First.{First}
use Rattle.frozen_commands.specs.declared.first.First.TheVariants as first
use Rattle.frozen_commands.specs.declared.freezing.ForSaving.{ForSaving}
use Rattle.frozen_commands.specs.declared.freezing.PreparedFreeze.{PreparedFreeze}
use Rattle.frozen_commands.specs.FreezeAnswering.{BreaksOff, FreezeAnswers, Freezes, HasEnded, HasFrozen, HasLacked, HasStopped, IfNoneClashed, IsSaved, IsState, KeepsFrozenFiles, LacksVectors, OtherThanFrozen}
use Rattle.frozen_commands.specs.Freezing.{IsFirstOf, IsPrepared, RecordsFirst, due_frozen, due_if, is_stopped, last_joint}
use Rattle.frozen_commands.specs.Saving.{Leaves, LeavesState, SavesState, ShowsLacking, lacking_line}
use Rattle.frozen_commands.specs.Writing.{BeginsNoRecord, HasWritten}
use Rattle.frozen_commands.proofs.StateFacts.{Reaches, all_made, is_state, state_left}
use Rattle.frozen_commands.proofs.WrittenFacts.{begins_no_record, has_written, is_cut_off}
use Rattle.command_parts.specs.Files.{TellsFront}

-- A line that refuses.

answers_refused : {S O : Type 0} (asked : spec.Asked) (r : Refusal) (before after : Outside S O) →
    IsRefused asked (status_of_refusal r) before after → FreezeAnswers asked before after (status_of_refusal r)
answers_refused asked refusal.NoKey before after refused = inl refused
answers_refused asked refusal.NoPageDraw before after refused = inl refused
answers_refused asked _ before after refused = refused

-- what is answered if there is no run
pub answers_no_run : {S O : Type 0} {asked : spec.Asked} {r : Refusal} {before after : Outside S O} {given : Status} →
    NoRun asked r before.files after.files → before.output.faults < 2 ^ 64 - 1 →
    Refuses before.output after.output r given → FreezeAnswers asked before after given
answers_no_run {S} {O} {asked} {r} {before} {after} {given} none low (inl shows) =
    subst (λ (x : Status). FreezeAnswers asked before after x) (sym shows.answer)
    (answers_refused asked r before after
    (record { refused = r; status = refl; no_run = none; line = shows.line_shown; faults = shows.faults }))
answers_no_run {S} {O} {asked} {r} {before} {after} {given} none low (inr front) =
    subst (λ (x : Status). FreezeAnswers asked before after x) (sym front.answer)
    (inl (record { refused = r; no_run = none; line = front.front_shown; faults = raised front.faults low }))

pub same_files : (names : spec.FreezeNames) (answer : Status) (held held' : List ℕ → Option (List ℕ)) →
    SameFiles held held' → KeepsFrozenFiles names answer held held'
same_files names status.Done held held' same = λ other one. same other
same_files names status.Violation held held' same = λ other one. same other
same_files names status.WriteFault held held' same = λ other one two. same other
same_files names status.NoRandom held held' same = λ other one. same other
same_files names status.Frozen held held' same = λ other one two. same other
same_files names _ held held' same = same

-- A run that was prepared.

-- What is asked for, with the machine that was prepared for it.
pub record Asks {S O : Type 0} (names : spec.FreezeNames) (steps : ℕ) (randomness : spec.Randomness) (prepared : PreparedFreeze)
    (before : Outside S O) : Type 0 where
  pub is : IsPrepared names randomness before.files.held prepared
  pub few : steps ≤ most_steps
  pub apart : names.record_name ≢ names.state_name
  pub low : AreLow before

abbrev run_for : {S O : Type 0} {names : spec.FreezeNames} {steps : ℕ} {randomness : spec.Randomness}
    {prepared : PreparedFreeze} {before : Outside S O} → Asks names steps randomness prepared before → Run
run_for {S} {O} {names} {steps} {randomness} {prepared} {before} asks =
    run_of asks.is.sources.bundle steps asks.is.opened

runs : {S O : Type 0} {names : spec.FreezeNames} {steps : ℕ} {randomness : spec.Randomness} {prepared : PreparedFreeze}
    {before : Outside S O} (asks : Asks names steps randomness prepared before) →
    joint_run asks.is.sources.bundle asks.is.sources.stream steps ≡ Ok (run_for asks)
runs {S} {O} {names} {steps} {randomness} {prepared} {before} asks =
    ap (λ (opened : Result RunEdge Lack). result_map_both (run_of asks.is.sources.bundle steps) (λ lack. lack) opened)
    asks.is.opens

reaches : {S O : Type 0} {names : spec.FreezeNames} {steps : ℕ} {randomness : spec.Randomness} {prepared : PreparedFreeze}
    {before : Outside S O} (asks : Asks names steps randomness prepared before) → is_stopped (run_for asks) ≡ false →
    Reaches asks.is.sources steps (run_for asks)
reaches {S} {O} {names} {steps} {randomness} {prepared} {before} asks goes = record {
  grammar = asks.is.asks.bundle.is.in_grammar;
  image_bytes = asks.is.image_bytes;
  stream_bytes = asks.is.stream_bytes;
  few = asks.few;
  runs = runs asks;
  goes = goes;
  count = all_made asks.is.sources.bundle steps asks.is.opened goes;
}

freezes : {S O : Type 0} {names : spec.FreezeNames} {steps : ℕ} {randomness : spec.Randomness} {prepared : PreparedFreeze}
    {before : Outside S O} (after : Outside S O) (asks : Asks names steps randomness prepared before)
    (Becomes : spec.FreezeNames → ℕ → FreezeSources → Run → Type 0) →
    Becomes names steps asks.is.sources (run_for asks) →
    Freezes (spec.Freeze names steps randomness) before after Becomes
freezes {S} {O} {names} {steps} {randomness} {prepared} {before} after asks Becomes becomes =
    let s = asks.is.sources in
    record {
      names = names;
      steps = steps;
      randomness = randomness;
      freeze = refl;
      sources = s;
      asks = asks.is.asks;
      made = run_for asks;
      joint = runs asks;
      lawful = is_lawful s.bundle (Fresh s.stream) steps (run_for asks) asks.is.asks.bundle.is.in_grammar
          asks.is.image_bytes asks.is.stream_bytes asks.few (runs asks);
      becomes = becomes;
    }

-- What is answered, and which files stay.
abbrev pub Answered : {S O : Type 0} → spec.FreezeNames → ℕ → spec.Randomness → Outside S O → Outside S O → Status → Type 0
Answered names steps randomness before after given =
    FreezeAnswers (spec.Freeze names steps randomness) before after given
    × KeepsFrozenFiles names given before.files.held after.files.held

answered_as : {S O : Type 0} (names : spec.FreezeNames) (steps : ℕ) (randomness : spec.Randomness)
    (before after : Outside S O) {given other : Status} → given ≡ other →
    Answered names steps randomness before after other → Answered names steps randomness before after given
answered_as names steps randomness before after is answered =
    subst (λ (x : Status). Answered names steps randomness before after x) (sym is) answered

-- The record could not be begun.
pub not_begun : {S O : Type 0} {names : spec.FreezeNames} {steps : ℕ} {randomness : spec.Randomness} {prepared : PreparedFreeze}
    (before now after : FilesOutside S) (out : Output O) (r : Result Unit Failed) →
    Asks {S = S} {O = O} names steps randomness prepared (record { files = before; output = out }) → OnlyRead before now →
    OnErr r ((after.held names.record_name ≡ now.held names.record_name) ⊎ Tells (after.held names.record_name) []) →
    OtherFiles names.record_name now.held after.held → Counts now.writing after.writing r →
    after.reading ≡ now.reading → is_err r ≡ true →
    Answered {S = S} {O = O} names steps randomness (record { files = before; output = out })
    (record { files = after; output = out }) status.WriteFault
not_begun {S} {O} {names} {steps} {randomness} {prepared} before now after out r asks read file others writing reading
    ill =
    let none = begins_no_record names.record_name before now after out r read asks.low file others writing ill in (
      inr (record {
        freezes = freezes (record { files = after; output = out }) asks _ (inl none);
        grows = ([], Grows-none _);
        reading = reading ∙ read.reading;
        fault = (recorded [], (none.writing, refl));
      }),
      λ other one two. none.others other one,
    )

-- Writing broke off in what is due of the run.
pub failed_first : {S O : Type 0} {names : spec.FreezeNames} {steps : ℕ} {randomness : spec.Randomness}
    {prepared : PreparedFreeze} {before mid after : Outside S O} {pieces : List Piece}
    (asks : Asks names steps randomness prepared before) → HasBegunRecord names.record_name before mid →
    WroteFront names.record_name mid after pieces →
    (NoClashYet (joint_after asks.is.opened.joint
    (turns_from steps (first_moment asks.is.sources.bundle asks.is.opened.joint))) →
    RecordsFirst names.record_name mid after first.Failed asks.is.sources.bundle (run_for asks)) →
    Answered names steps randomness before after status.WriteFault
unfolding run_of
failed_first {S} {O} {names} {steps} {randomness} {prepared} {before} {mid} {after} {pieces} asks begun front records =
    let others : OtherFiles names.record_name before.files.held after.files.held =
    λ other apart. front.wrote.others other apart ∙ begun.others other apart in (
      inr (record {
        freezes = freezes after asks _ (inr (λ none. inl (record {
          cut_off = let first = records none in is_cut_off asks.low begun first.writes;
          others = others;
        })));
        grows = (shown_bytes (pieces_left front.cut), grows_from before mid _ _ begun.output front.wrote.output);
        reading = front.wrote.reading ∙ begun.reading;
        fault = (front.cut.piece, fault_since after front.cut.piece asks.low begun front.fault);
      }),
      λ other one two. others other one,
    )

-- A step stopped the run.

has_ended : {S O : Type 0} (names : spec.FreezeNames) (steps : ℕ) (randomness : spec.Randomness)
    (before after : Outside S O) (cause : Stop) (refused : Bool) →
    HasEnded (spec.Freeze names steps randomness) (status_of cause refused) before after →
    OtherFiles names.record_name before.files.held after.files.held →
    Answered names steps randomness before after (status_of cause refused)
has_ended names steps randomness before after (stop.Halt value) true ended others = (ended, others)
has_ended names steps randomness before after (stop.Halt value) false ended others = (ended, others)
has_ended names steps randomness before after stop.Budget true ended others = (ended, others)
has_ended names steps randomness before after stop.Budget false ended others = (ended, others)
has_ended names steps randomness before after stop.NoRandom refused ended others = (inr (inl ended), others)

pub ended_first : {S O : Type 0} {names : spec.FreezeNames} {steps : ℕ} {randomness : spec.Randomness}
    {prepared : PreparedFreeze} {before mid after : Outside S O} {pieces : List Piece} {given : Status}
    (asks : Asks names steps randomness prepared before) → HasBegunRecord names.record_name before mid →
    WroteAll names.record_name mid after pieces → IsStatusOfStop given →
    (NoClashYet (joint_after asks.is.opened.joint
    (turns_from steps (first_moment asks.is.sources.bundle asks.is.opened.joint))) →
    RecordsFirst names.record_name mid after (first.Ended given) asks.is.sources.bundle (run_for asks)) →
    Answered names steps randomness before after given
unfolding run_of
ended_first {S} {O} {names} {steps} {randomness} {prepared} {before} {mid} {after} {pieces} {given} asks begun all some
    records =
    let at = at_pieces begun all in
    answered_as names steps randomness before after some.2
    (has_ended names steps randomness before after some.0 some.1 (record {
      freezes = freezes after asks _ (λ none. let first = records none in record {
        stopped = first.ended.0;
        status = sym some.2 ∙ first.ended.1;
        written = has_written begun (subst (λ (x : Bool). WroteAll names.record_name mid after (due_if x (run_for asks)))
            first.ended.0 first.writes);
      });
      some_stop = (some.0, some.1, refl);
      grows = at.grows;
      nothing_rose = at.nothing_rose;
    }) at.others)

-- No step stopped it.

-- What was written of it, and the state that is due.
pub record ReachedSo {S O : Type 0} (names : spec.FreezeNames) (steps : ℕ) (s : FreezeSources) (r : Run)
    (before mid : Outside S O) (state : Option Frozen) : Type 0 where
  pub at : Reaches s steps r
  pub written : HasWritten (first_pieces r.opened r.turns) names.record_name before mid
  pub state_is : state ≡ frozen_of (last_joint r) steps s.vectors

reached_so : {S O : Type 0} {names : spec.FreezeNames} {steps : ℕ} {randomness : spec.Randomness} {prepared : PreparedFreeze}
    {before mid now after : Outside S O} {machine : Machine} {given : Status}
    (asks : Asks names steps randomness prepared before) → HasBegunRecord names.record_name before mid →
    (leaves : LeavesState machine prepared.left names.state_name now after given) →
    RecordsFirst names.record_name mid now (first.Reached machine) asks.is.sources.bundle (run_for asks) →
    ReachedSo names steps asks.is.sources (run_for asks) before now leaves.state
reached_so {S} {O} {names} {steps} {randomness} {prepared} {before} {mid} {now} {after} {machine} {given} asks begun leaves
    records =
    let at = reaches asks records.ended.0 in
    record {
      at = at;
      written = has_written begun
          (subst (λ (x : Bool). WroteAll names.record_name mid now (due_if x (run_for asks))) records.ended.0
          records.writes);
      state_is = state_left at asks.is.left records.ended.1 leaves;
    }

-- there are too few vectors
lacks : {S O : Type 0} {names : spec.FreezeNames} {steps : ℕ} {randomness : spec.Randomness} {prepared : PreparedFreeze}
    {before now after : Outside S O} {given : Status} (asks : Asks names steps randomness prepared before) →
    AtPieces names.record_name before now → ShowsLacking now after given →
    (NoClashYet (last_joint (run_for asks)) →
    ReachedSo names steps asks.is.sources (run_for asks) before now None) →
    Answered names steps randomness before after given
lacks {S} {O} {names} {steps} {randomness} {prepared} {before} {now} {after} {given} asks at shows reached =
    let others : OtherFiles names.record_name before.files.held after.files.held =
    λ other apart. ap (λ (f : FilesOutside S). f.held other) shows.files ∙ at.others other apart in
    elim shows.outcome [
      | inl line ↦
          answered_as names steps randomness before after line.0 (
            inr (inr (record {
              freezes = freezes after asks _ (λ none. let so = reached none in record {
                reached = so.at.goes;
                too_few = sym so.state_is;
                file = subst (λ (f : FilesOutside S). Tells (f.held names.record_name)
                    (recorded_bytes (first_pieces (run_for asks).opened (run_for asks).turns))) (sym shows.files)
                    so.written.file;
                output = Grows-append _ _ _ _ lacking_line so.written.output line.1.0;
              });
              grows = (at.grows.0 ++ lacking_line, Grows-append _ _ _ at.grows.0 lacking_line at.grows.1 line.1.0);
              nothing_rose = record {
                reading = ap (λ (f : FilesOutside S). f.reading) shows.files ∙ at.nothing_rose.reading;
                writing = ap (λ (f : FilesOutside S). f.writing) shows.files ∙ at.nothing_rose.writing;
                faults = line.1.1 ∙ at.nothing_rose.faults;
              };
            })),
            others,
          )
      | inr line ↦
          let front = front_of_text _ _ lacking_line line.1.0 in
          let rises = raised (Rose-after _ _ _ at.nothing_rose.faults line.1.1) asks.low.faults in
          let writes = ap (λ (f : FilesOutside S). f.writing) shows.files ∙ at.nothing_rose.writing in
          answered_as names steps randomness before after line.0 (
            inr (record {
              freezes = freezes after asks _ (inr (λ none. let so = reached none in inr (inr (record {
                reached = so.at.goes;
                too_few = sym so.state_is;
                file = subst (λ (f : FilesOutside S). Tells (f.held names.record_name)
                    (recorded_bytes (first_pieces (run_for asks).opened (run_for asks).turns))) (sym shows.files)
                    so.written.file;
                bytes = front.0;
                few = front.1;
                output = Grows-append _ _ _ _ (take front.0 lacking_line) so.written.output front.2;
                others = others;
                writing = writes;
                faults = rises;
              }))));
              grows = (
                at.grows.0 ++ take front.0 lacking_line,
                Grows-append _ _ _ at.grows.0 (take front.0 lacking_line) at.grows.1 front.2,
              );
              reading = ap (λ (f : FilesOutside S). f.reading) shows.files ∙ at.nothing_rose.reading;
              fault = (shown [], (writes, rises));
            }),
            λ other one two. others other one,
          )
    ]

-- there is a state
saves : {S O : Type 0} {names : spec.FreezeNames} {steps : ℕ} {randomness : spec.Randomness} {prepared : PreparedFreeze}
    {before now after : Outside S O} {given : Status} (f : Frozen) (asks : Asks names steps randomness prepared before) →
    AtPieces names.record_name before now → SavesState f prepared.left.digest names.state_name now after given →
    (NoClashYet (last_joint (run_for asks)) →
    ReachedSo names steps asks.is.sources (run_for asks) before now (Some f)) →
    Answered names steps randomness before after given
saves {S} {O} {names} {steps} {randomness} {prepared} {before} {now} {after} {given} f asks at leaves reached =
    let s = asks.is.sources in
    let r = run_for asks in
    let others : OtherThanFrozen names before.files.held after.files.held =
    λ other one two. leaves.others other two ∙ at.others other one in
    let digest : frozen_bytes f prepared.left.digest ≡ frozen_bytes f (sha256 s.bytes) =
    ap (λ (d : List ℕ). frozen_bytes f d) asks.is.left.digest in
    let written : HasWritten (first_pieces r.opened r.turns) names.record_name before now →
    HasWritten (first_pieces r.opened r.turns) names.record_name before after = λ has. record {
      file = subst (λ (told : Option (List ℕ)). Tells told (recorded_bytes (first_pieces r.opened r.turns)))
          (sym (leaves.others names.record_name asks.apart)) has.file;
      output = subst (λ (o : Output O). Grows before.output.taken o.taken (shown_bytes (first_pieces r.opened r.turns)))
          (sym leaves.output) has.output;
    } in
    let grows : GrowsSome before.output.taken after.output.taken = (
      at.grows.0,
      subst (λ (o : Output O). Grows before.output.taken o.taken at.grows.0) (sym leaves.output) at.grows.1,
    ) in
    let reading = leaves.reading ∙ at.nothing_rose.reading in
    let faults = ap (λ (o : Output O). o.faults) leaves.output ∙ at.nothing_rose.faults in
    elim leaves.outcome [
      | inl well ↦
          answered_as names steps randomness before after well.0 (
            record {
              freezes = freezes after asks _ (λ none. let so = reached none in record {
                reached = so.at.goes;
                written = written so.written;
                state = f;
                is_state = is_state f so.at none leaves.shape leaves.few (sym so.state_is);
                file = subst (λ (bytes : List ℕ). Tells (after.files.held names.state_name) bytes) digest well.1.0;
              });
              grows = grows;
              nothing_rose = record {
                reading = reading;
                writing = well.1.1 ∙ at.nothing_rose.writing;
                faults = faults;
              };
            },
            others,
          )
      | inr ill ↦
          let rises = raised (Rose-after _ _ _ at.nothing_rose.writing ill.1.1) asks.low.writing in
          answered_as names steps randomness before after ill.0 (
            inr (record {
              freezes = freezes after asks _ (inr (λ none. let so = reached none in inr (inl (record {
                reached = so.at.goes;
                written = written so.written;
                state = f;
                is_state = is_state f so.at none leaves.shape leaves.few (sym so.state_is);
                file = elim ill.1.0 [
                  | inl same ↦ inl (same ∙ at.others names.state_name (λ same. asks.apart (sym same)))
                  | inr front ↦ inr (subst (λ (bytes : List ℕ). TellsFront (after.files.held names.state_name) bytes) digest front)
                ];
                writing = rises;
                faults = faults;
              }))));
              grows = grows;
              reading = reading;
              fault = (recorded [], (rises, faults));
            }),
            others,
          )
    ]

left_so : {S O : Type 0} {names : spec.FreezeNames} {steps : ℕ} {randomness : spec.Randomness} {prepared : PreparedFreeze}
    {before now : Outside S O} (after : Outside S O) (given : Status) (state : Option Frozen)
    (asks : Asks names steps randomness prepared before) → AtPieces names.record_name before now →
    Leaves state prepared.left.digest names.state_name now after given →
    (NoClashYet (last_joint (run_for asks)) →
    ReachedSo names steps asks.is.sources (run_for asks) before now state) →
    Answered names steps randomness before after given
left_so after given None asks at leaves reached = lacks asks at leaves reached
left_so after given (Some f) asks at leaves reached = saves f asks at leaves reached

pub reached_first : {S O : Type 0} {names : spec.FreezeNames} {steps : ℕ} {randomness : spec.Randomness}
    {prepared : PreparedFreeze} {before mid now after : Outside S O} {pieces : List Piece} {machine : Machine} {given : Status}
    (asks : Asks names steps randomness prepared before) → HasBegunRecord names.record_name before mid →
    WroteAll names.record_name mid now pieces →
    (NoClashYet (joint_after asks.is.opened.joint
    (turns_from steps (first_moment asks.is.sources.bundle asks.is.opened.joint))) →
    RecordsFirst names.record_name mid now (first.Reached machine) asks.is.sources.bundle (run_for asks)) →
    LeavesState machine prepared.left names.state_name now after given →
    Answered names steps randomness before after given
unfolding run_of
reached_first {S} {O} {names} {steps} {randomness} {prepared} {before} {mid} {now} {after} {pieces} {machine} {given} asks
    begun all records leaves =
    left_so after given leaves.state asks (at_pieces begun all) leaves.leaves
    (λ none. reached_so asks begun leaves (records none))
