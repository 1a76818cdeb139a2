-- What became of the shelf over a disk and the sink over an output became of the disk and the output.
use Rattle.std.proofs.Common.{◌≡◌, ◌≢◌, ◌∙◌, ◌≤◌, ◌<◌, ◌-◌, ◌^◌, ◌⊎◌, ℕ, List, [], take, codes, refl, sym, ap}
use Rattle.std.proofs.Common.{Option, Some, None, Result, Ok, Err, map, string_bytes, subst, inl, inr, arith}
use Rattle.std.specs.Io.KnownBytes.{append_known}
use Rattle.cloak_base.specs.Random.{Random}
use Rattle.cloak_model.specs.declared.image.Bundle.{Bundle}
use Rattle.cloak_model.specs.Exchange.{recorded_bytes}
use Rattle.cloak_model.specs.Opening.{Lack}
use Rattle.cloak_model.specs.Run.{Run, due, joint_run}
use Rattle.io_traits.specs.Told.{Grows, SameFiles, Tells}
use Rattle.io_traits.proofs.ToldFacts.{GrowsByFront-take}
use Rattle.system_io.specs.Files.{OutputState, ShelfState, fresh_shelf, fresh_sink, gathered_for, held_in}
use Rattle.system_io.proofs.Held.{held-idle}
use Rattle.system_io.proofs.Writes.{Grows-known, append_known-nil}
use Rattle.command_words.specs.declared.usage_fault.UsageFault.TheVariants.{WrongWords}
use Rattle.command_words.specs.Command as spec
use Rattle.command_parts.specs.declared.refusal.Refusal.TheVariants as refusal
use Rattle.command_parts.specs.declared.status.Status.{Status}
use Rattle.command_parts.specs.declared.status.Status.TheVariants as status
use Rattle.command_parts.specs.Exiting.{Exits}
use Rattle.command_parts.specs.Refusal.{refusal_line}
use Rattle.command_parts.specs.Refusing.{Refuses}
use Rattle.command_parts.specs.Streams.{IsToldStream}
use Rattle.completeness.specs.Asked.{IsBundleFile, OnlyLine, WantsMemory}
use Rattle.completeness.specs.Complete.{IsComplete}
use Rattle.completeness.specs.Runs.{ComesTo}
use Rattle.cloak_commands.specs.declared.words.ProgramWords.{ProgramWords}
use Rattle.cloak_commands.specs.declared.words.ProgramWords.TheVariants as words
use Rattle.cloak_commands.specs.OnDisk.{HasRunOnDisk, IsFresh, IsLeft, IsLeftInPart, Over, RunsOver, told_outside}
use Rattle.cloak_commands.specs.Program.{AnswersWords, CompletesAsked, CompletesWords, IsNoFault, JudgesWords}
use Rattle.cloak_commands.proofs.WordsAnswered.{completes_words, judges_words, words_want}

-- a shelf over a disk and a sink over an output, with what they tell
abbrev pub at_over : {D : Type 0} → (D → List ℕ → Option (List ℕ)) → ShelfState D → OutputState → Over D
at_over {D} told s o = record {
  files = record {
    shelf = s;
    held = held_in told s;
    reading = s.reading;
    unread = s.unread;
    writing = s.writing;
  };
  output = record { out = o; taken = o.taken; faults = o.faults };
}

is_fresh : {D : Type 0} (told : D → List ℕ → Option (List ℕ)) (shown : Option (List ℕ)) (disk : D) (s : ShelfState D)
    (o : OutputState) → s ≡ fresh_shelf disk → o ≡ fresh_sink shown → IsFresh (told disk) shown (at_over told s o)
is_fresh {D} told shown disk s o shelf_is sink_is = record {
  held = λ name.
      held-idle told s (ap (λ (x : ShelfState D). x.gathered) shelf_is) name
      ∙ ap (λ (x : ShelfState D). told x.disk name) shelf_is;
  reading = ap (λ (x : ShelfState D). x.reading) shelf_is;
  unread = ap (λ (x : ShelfState D). x.unread) shelf_is;
  writing = ap (λ (x : ShelfState D). x.writing) shelf_is;
  taken = ap (λ (x : OutputState). x.taken) sink_is;
  faults = ap (λ (x : OutputState). x.faults) sink_is;
}

is_write_fault : (given : Status) → (given ≡ status.WriteFault) ⊎ (given ≢ status.WriteFault)
is_write_fault status.Done = inr (λ is. let no : status.Done ≡ status.WriteFault = is in cc)
is_write_fault status.Violation = inr (λ is. let no : status.Violation ≡ status.WriteFault = is in cc)
is_write_fault status.Usage = inr (λ is. let no : status.Usage ≡ status.WriteFault = is in cc)
is_write_fault status.BadBundle = inr (λ is. let no : status.BadBundle ≡ status.WriteFault = is in cc)
is_write_fault status.ReadFault = inr (λ is. let no : status.ReadFault ≡ status.WriteFault = is in cc)
is_write_fault status.WriteFault = inl refl
is_write_fault status.NoMemory = inr (λ is. let no : status.NoMemory ≡ status.WriteFault = is in cc)
is_write_fault status.NoRandom = inr (λ is. let no : status.NoRandom ≡ status.WriteFault = is in cc)
is_write_fault status.BadRecord = inr (λ is. let no : status.BadRecord ≡ status.WriteFault = is in cc)
is_write_fault status.BadStore = inr (λ is. let no : status.BadStore ≡ status.WriteFault = is in cc)
is_write_fault status.Frozen = inr (λ is. let no : status.Frozen ≡ status.WriteFault = is in cc)
is_write_fault status.BadState = inr (λ is. let no : status.BadState ≡ status.WriteFault = is in cc)

-- nothing is gathered any more
left_whole : {D : Type 0} (told : D → List ℕ → Option (List ℕ)) (disk' : D) (shown' : Option (List ℕ)) (s' : ShelfState D)
    (o' : OutputState) (done : Over D) → ((name : List ℕ) → held_in told s' name ≡ done.files.held name) →
    o'.taken ≡ done.output.taken → s'.gathered ≡ [] → o'.gathered ≡ [] → disk' ≡ s'.disk →
    o'.taken ≡ append_known shown' o'.gathered → IsLeft done (told disk') shown'
left_whole {D} told disk' shown' s' o' done held taken none none' disk_is shown_is = record {
  files = λ name. ap (λ (d : D). told d name) disk_is ∙ sym (held-idle told s' none name) ∙ held name;
  output =
      sym (append_known-nil shown') ∙ ap (λ (l : List ℕ). append_known shown' l) (sym none') ∙ sym shown_is ∙ taken;
}

left_in_part : {D : Type 0} (told : D → List ℕ → Option (List ℕ)) (disk' : D) (shown' : Option (List ℕ))
    (s' : ShelfState D) (o' : OutputState) (done : Over D) →
    ((name : List ℕ) → held_in told s' name ≡ done.files.held name) → o'.taken ≡ done.output.taken → disk' ≡ s'.disk →
    o'.taken ≡ append_known shown' o'.gathered → IsLeftInPart done (told disk') shown'
unfolding held_in
left_in_part {D} told disk' shown' s' o' done held taken disk_is shown_is = record {
  files = λ name. (
    gathered_for s' name,
    sym (held name) ∙ ap (λ (d : D). append_known (told d name) (gathered_for s' name)) (sym disk_is),
  );
  output = (o'.gathered, sym taken ∙ shown_is);
}

-- the program over them ended
pub runs_over : {D : Type 0} {answers_so : Over D → Over D → Status → Type 0} (told : D → List ℕ → Option (List ℕ))
    (disk disk' : D) (shown shown' : Option (List ℕ)) (s s' : ShelfState D) (o o' : OutputState) (given : Status) →
    s ≡ fresh_shelf disk → o ≡ fresh_sink shown → Exits answers_so (at_over told s o) (at_over told s' o') given →
    (given ≢ status.WriteFault → s'.gathered ≡ []) → (given ≢ status.WriteFault → o'.gathered ≡ []) → disk' ≡ s'.disk →
    o'.taken ≡ append_known shown' o'.gathered → RunsOver answers_so (told disk) shown (told disk') shown' given
runs_over {D} {answers_so} told disk disk' shown shown' s s' o o' given shelf_is sink_is exits files output disk_is shown_is =
    record {
      before = at_over told s o;
      fresh = is_fresh told shown disk s o shelf_is sink_is;
      done = exits.done;
      answer = exits.answer;
      answers = exits.answers;
      left = elim (is_write_fault given) [
        | inl fault ↦ inr (
          fault,
          left_in_part told disk' shown' s' o' exits.done exits.written.held exits.written.taken disk_is shown_is,
        )
        | inr well ↦ elim exits.written.outcome [
          | inl same ↦ inl (
            same.0,
            left_whole told disk' shown' s' o' exits.done exits.written.held exits.written.taken (files well) (output well)
                disk_is shown_is,
          )
          | inr failed ↦ absurd (well failed.0)
        ]
      ];
    }

-- There was no memory to gather in.

abbrev line : List ℕ
line = codes "no memory\n"

line_is : refusal_line refusal.NoMemory ≡ line
unfolding refusal_line
line_is = refl

abbrev fresh_over : {D : Type 0} → (D → List ℕ → Option (List ℕ)) → D → Option (List ℕ) → ℕ → Over D
fresh_over {D} told disk shown faults =
    at_over told (fresh_shelf disk) (record { faults = faults; taken = shown; gathered = [] })

refused : {D : Type 0} (w : ProgramWords) (told : D → List ℕ → Option (List ℕ)) (disk : D)
    (shown shown' : Option (List ℕ)) (faults : ℕ) (given : Status) →
    Refuses (fresh_over told disk shown 0).output (fresh_over told disk shown' faults).output refusal.NoMemory given →
    RunsOver {D = D} (AnswersWords w) (told disk) shown (told disk) shown' given
refused {D} w told disk shown shown' faults given refuses = record {
  before = fresh_over told disk shown 0;
  fresh = is_fresh told shown disk (fresh_shelf disk) (fresh_sink shown) refl refl;
  done = fresh_over told disk shown' faults;
  answer = given;
  answers =
      words_want w (fresh_over told disk shown 0) (fresh_over told disk shown' faults) given refl (omega arith) refuses;
  left = inl (refl, record { files = λ name. sym (held-idle told (fresh_shelf disk) refl name); output = refl });
}

pub refused_whole : {D : Type 0} (w : ProgramWords) (told : D → List ℕ → Option (List ℕ)) (disk : D)
    (shown shown' : Option (List ℕ)) (n : ℕ) → shown' ≡ append_known shown (take n line) → n ≡ 10 →
    RunsOver {D = D} (AnswersWords w) (told disk) shown (told disk) shown' status.NoMemory
refused_whole {D} w told disk shown shown' n is whole =
    let shown_is : shown' ≡ append_known shown (refusal_line refusal.NoMemory) =
    is ∙ ap (λ (k : ℕ). append_known shown (take k line)) whole
    ∙ ap (λ (l : List ℕ). append_known shown l) (sym line_is) in
    refused w told disk shown shown' 0 status.NoMemory
    (inl (record { answer = refl; line_shown = Grows-known shown shown' _ shown_is; faults = refl }))

pub refused_in_part : {D : Type 0} (w : ProgramWords) (told : D → List ℕ → Option (List ℕ)) (disk : D)
    (shown shown' : Option (List ℕ)) (n : ℕ) → shown' ≡ append_known shown (take n line) → n ≤ 10 →
    RunsOver {D = D} (AnswersWords w) (told disk) shown (told disk) shown' status.WriteFault
refused_in_part {D} w told disk shown shown' n is few =
    let front = GrowsByFront-take shown shown' line n few (Grows-known shown shown' (take n line) is) in
    refused w told disk shown shown' 1 status.WriteFault
    (inr (record { answer = refl; front_shown = rw line_is front; faults = omega arith }))

-- What follows from what was answered.

also_over : {D : Type 0} {P Q : Over D → Over D → Status → Type 0} {told told' : List ℕ → Option (List ℕ)}
    {shown shown' : Option (List ℕ)} {given : Status} →
    ((before done : Over D) (answer : Status) → before.files.reading ≡ 0 → P before done answer → Q before done answer) →
    RunsOver P told shown told' shown' given → RunsOver Q told shown told' shown' given
also_over {D} {P} {Q} {told} {told'} {shown} {shown'} {given} follows over = record {
  before = over.before;
  fresh = over.fresh;
  done = over.done;
  answer = over.answer;
  answers = follows over.before over.done over.answer over.fresh.reading over.answers;
  left = over.left;
}

pub completes_over : {D : Type 0} (w : ProgramWords) {told told' : List ℕ → Option (List ℕ)}
    {shown shown' : Option (List ℕ)} {given : Status} → RunsOver {D = D} (AnswersWords w) told shown told' shown' given →
    RunsOver {D = D} (CompletesWords w) told shown told' shown' given
completes_over {D} w {told} {told'} {shown} {shown'} {given} over = also_over
    (λ before done answer zero answers. completes_words w before done answer (let none = zero in omega (arith, none)) answers)
    over

pub judges_over : {D : Type 0} (w : ProgramWords) {told told' : List ℕ → Option (List ℕ)}
    {shown shown' : Option (List ℕ)} {given : Status} → RunsOver {D = D} (AnswersWords w) told shown told' shown' given →
    RunsOver {D = D} (JudgesWords w) told shown told' shown' given
judges_over {D} w {told} {told'} {shown} {shown'} {given} over =
    also_over (λ before done answer zero answers. judges_words w before done answer answers) over

-- The run of a bundle.

-- the same with other names for the bytes
abbrev Renamed : {D : Type 0} → Over D → Over D → (told told' : List ℕ → Option (List ℕ)) (shown shown' : Option (List ℕ)) →
    Type 0
Renamed before done told told' shown shown' =
    SameFiles told before.files.held × (SameFiles done.files.held told'
    × ((before.output.taken ≡ shown) × (shown' ≡ done.output.taken)))

grows_so : {a b c d : Option (List ℕ)} (text : List ℕ) → a ≡ c → d ≡ b → Grows a b text → Grows c d text
grows_so {a} {b} {c} {d} text first second grows =
    subst (λ (x : Option (List ℕ)). Grows c x text) (sym second)
    (subst (λ (x : Option (List ℕ)). Grows x b text) first grows)

only_line : {D : Type 0} (before done : Over D) {told told' : List ℕ → Option (List ℕ)} {shown shown' : Option (List ℕ)}
    (text : List ℕ) → Renamed before done told told' shown shown' → OnlyLine text before done →
    OnlyLine text (told_outside told shown) (told_outside told' shown')
only_line {D} before done {told} {told'} {shown} {shown'} text same only = record {
  held = λ name. same.1.0 name ∙ (only.held name ∙ same.0 name);
  shown = grows_so text same.1.1.0 same.1.1.1 only.shown;
}

comes_to : {D : Type 0} (before done : Over D) {told told' : List ℕ → Option (List ℕ)} {shown shown' : Option (List ℕ)}
    (record_name : List ℕ) (r : Result Run Lack) (given : Status) → Renamed before done told told' shown shown' →
    ComesTo record_name r given before done →
    ComesTo record_name r given (told_outside told shown) (told_outside told' shown')
comes_to {D} before done {told} {told'} {shown} {shown'} record_name (Err lack) given same comes =
    record { status = comes.status; line = only_line before done _ same comes.line }
comes_to {D} before done {told} {told'} {shown} {shown'} record_name (Ok r) given same comes = (
  λ other apart. same.1.0 other ∙ (comes.0 other apart ∙ same.0 other),
  λ none. let written = comes.1 none in record {
    status = written.status;
    file = subst (λ (t : Option (List ℕ)). Tells t (recorded_bytes (due r))) (sym (same.1.0 record_name)) written.file;
    output = grows_so _ same.1.1.0 same.1.1.1 written.output;
  },
)

told_stream : (held told : List ℕ → Option (List ℕ)) (randomness : spec.Randomness) (s : Random) → SameFiles told held →
    IsToldStream told randomness s → IsToldStream held randomness s
told_stream held told (spec.Numbered number) s same is = is
told_stream held told (spec.FromFile name) s same is = (is.0, same name ∙ is.1, is.2)

by_words : {D : Type 0} (asked : spec.Asked) {told told' : List ℕ → Option (List ℕ)} {shown shown' : Option (List ℕ)}
    {given : Status} (bundle_name record_name : List ℕ) (steps : ℕ) (randomness : spec.Randomness) (b : Bundle)
    (s : Random) → RunsOver {D = D} (CompletesAsked asked) told shown told' shown' given →
    asked ≡ spec.Run bundle_name record_name steps randomness → IsBundleFile told bundle_name b →
    IsToldStream told randomness s → IsNoFault given →
    WantsMemory given (told_outside told shown) (told_outside told' shown')
    ⊎ ComesTo record_name (joint_run b s steps) given (told_outside told shown) (told_outside told' shown')
by_words {D} asked {told} {told'} {shown} {shown'} {given} bundle_name record_name steps randomness b s over is file stream
    fine = elim over.left [
      | inl left ↦
          let answers : CompletesAsked asked over.before over.done given =
          subst (λ (x : Status). CompletesAsked asked over.before over.done x) (sym left.0) over.answers in
          let complete =
          subst (λ (x : spec.Asked). IsComplete x given over.before over.done) is answers.complete in
          let same : Renamed over.before over.done told told' shown shown' =
          (over.fresh.held, (left.1.files, (over.fresh.taken, left.1.output))) in
          elim (complete b s (record {
            bytes = file.bytes;
            told = over.fresh.held bundle_name ∙ file.told;
            is = file.is;
          }) (told_stream over.before.files.held told randomness s over.fresh.held stream) (answers.faultless fine)) [
            | inl memory ↦ inl (record {
              status = memory.status;
              line = only_line over.before over.done _ same memory.line;
            })
            | inr comes ↦ inr (comes_to over.before over.done record_name (joint_run b s steps) given same comes)
          ]
      | inr failed ↦ absurd (fine.1 failed.0)
    ]

pub has_run : {D : Type 0} (w : ProgramWords) {told told' : List ℕ → Option (List ℕ)} {shown shown' : Option (List ℕ)}
    {given : Status} → RunsOver {D = D} (CompletesWords w) told shown told' shown' given →
    HasRunOnDisk w told shown told' shown' given
has_run {D} (words.Taken texts) {told} {told'} {shown} {shown'} {given} over n r k x b s is file stream fine =
    by_words {D = D} (spec.words_of (map string_bytes texts.items)) n r k x b s over
    (let same : Some (spec.words_of (map string_bytes texts.items)) ≡ Some (spec.Run n r k x) = is in cc) file stream fine
has_run {D} words.NotText {told} {told'} {shown} {shown'} {given} over n r k x b s is file stream fine =
    absurd (let no : Some (spec.Faulty WrongWords) ≡ Some (spec.Run n r k x) = is in cc)
has_run {D} words.NoMemory {told} {told'} {shown} {shown'} {given} over n r k x b s is file stream fine =
    absurd (let no : None ≡ Some (spec.Run n r k x) = is in cc)
