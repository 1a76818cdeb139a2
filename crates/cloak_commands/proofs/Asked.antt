-- What is answered to words, by what they ask for.
use Rattle.std.proofs.Common.{◌≡◌, ◌<◌, ◌-◌, ◌^◌, ℕ, List, Option, refl, sym, ap, subst, inl, inr}
use Rattle.command_words.specs.Command as spec
use Rattle.command_parts.specs.declared.refusal.Refusal.TheVariants as refusal
use Rattle.command_parts.specs.declared.status.Status.{Status}
use Rattle.command_parts.specs.declared.status.Status.TheVariants as status
use Rattle.command_parts.specs.NoRun.{NoRun}
use Rattle.command_parts.specs.Outside.{Outside, FilesOutside}
use Rattle.command_parts.specs.Refusing.{Refuses}
use Rattle.command_parts.proofs.FaultFacts.{raised}
use Rattle.command_parts.proofs.Refused.{only_refuses}
use Rattle.frozen_commands.proofs.FreezeFacts.{answers_no_run as frozen_no_run, same_files as frozen_same}
use Rattle.frozen_commands.proofs.ThawFacts.{answers_no_run as thawed_no_run, same_files as thawed_same}
use Rattle.image_commands.specs.Demonstrating.{DemoAnswers}
use Rattle.image_commands.specs.Generating.{GenAnswers}
use Rattle.image_commands.proofs.Upgraded.{upgrade_refuses}
use Rattle.read_back.proofs.Answered.{view_refuses, solo_refuses}
use Rattle.read_back.proofs.AnsweredOver.{over_refuses}
use Rattle.run_command.proofs.AnswerFacts.{answers_no_run, same_files}
use Rattle.stats_command.proofs.AnswerFacts.{answers_no_run as counts_no_run}
use Rattle.store_command.proofs.AnswerFacts.{answers_no_run as stored_no_run, same_files as stored_same}
use Rattle.cloak_commands.specs.Answering.{Answers, KeepsOthers}

pub answers_asked : {S O : Type 0} (asked same : spec.Asked) (before after : Outside S O) (given : Status) →
    asked ≡ same → Answers asked before after given → Answers same before after given
answers_asked {S} {O} asked same before after given is answers =
    subst (λ (a : spec.Asked). Answers a before after given) is answers

-- Want of memory while the words are read.

no_run : {S : Type 0} (asked : spec.Asked) (before after : FilesOutside S) → after ≡ before →
    NoRun asked refusal.NoMemory before after
no_run {S} asked before after same = record {
  cause = record { reading = ap (λ (f : FilesOutside S). f.reading) same };
  held = λ name. ap (λ (f : FilesOutside S). f.held name) same;
  writing = ap (λ (f : FilesOutside S). f.writing) same;
}

gen_lacks : {S O : Type 0} (number : ℕ) (name : List ℕ) (before after : Outside S O) (given : Status) →
    after.files ≡ before.files → before.output.faults < 2 ^ 64 - 1 →
    Refuses before.output after.output refusal.NoMemory given → GenAnswers number name before after given
gen_lacks number name before after given same low (inl shows) =
    subst (λ (x : Status). GenAnswers number name before after x) (sym shows.answer)
    (record { untouched = same; line = record { text_shown = shows.line_shown; faults = shows.faults } })
gen_lacks number name before after given same low (inr front) =
    subst (λ (x : Status). GenAnswers number name before after x) (sym front.answer)
    (inr (inr (record {
      untouched = same;
      line = record { front_shown = front.front_shown; faults = raised front.faults low };
    })))

demo_lacks : {S O : Type 0} (number steps : ℕ) (before after : Outside S O) (given : Status) →
    before.output.faults < 2 ^ 64 - 1 → Refuses before.output after.output refusal.NoMemory given →
    DemoAnswers number steps before.output after.output given
demo_lacks number steps before after given low (inl shows) =
    subst (λ (x : Status). DemoAnswers number steps before.output after.output x) (sym shows.answer)
    (record { text_shown = shows.line_shown; faults = shows.faults })
demo_lacks number steps before after given low (inr front) =
    subst (λ (x : Status). DemoAnswers number steps before.output after.output x) (sym front.answer)
    (inr (record { front_shown = front.front_shown; faults = raised front.faults low }))

pub wants_memory : {S O : Type 0} (asked : spec.Asked) (before after : Outside S O) (given : Status) →
    after.files ≡ before.files → before.output.faults < 2 ^ 64 - 1 →
    Refuses before.output after.output refusal.NoMemory given → Answers asked before after given
wants_memory (spec.Faulty fault) before after given same low refuses =
    only_refuses {asked = spec.Faulty fault} {r = refusal.NoMemory} (no_run _ _ _ same) low refuses
wants_memory (spec.Run bundle record_name steps randomness) before after given same low refuses =
    answers_no_run {asked = spec.Run bundle record_name steps randomness} {r = refusal.NoMemory} (no_run _ _ _ same) low
    refuses
wants_memory (spec.View bundle record_name) before after given same low refuses =
    view_refuses {asked = spec.View bundle record_name} {r = refusal.NoMemory} tt (no_run _ _ _ same) low refuses
wants_memory (spec.Solo domain bundle record_name) before after given same low refuses =
    solo_refuses {asked = spec.Solo domain bundle record_name} {r = refusal.NoMemory} tt (no_run _ _ _ same) low refuses
wants_memory (spec.SoloOver domain bundle record_name old) before after given same low refuses =
    over_refuses {asked = spec.SoloOver domain bundle record_name old} {r = refusal.NoMemory} tt (no_run _ _ _ same) low
    refuses
wants_memory (spec.Gen number bundle_name) before after given same low refuses =
    gen_lacks number bundle_name before after given same low refuses
wants_memory (spec.Demo number steps) before after given same low refuses =
    record { answers = demo_lacks number steps before after given low refuses; untouched = same }
wants_memory (spec.Stats bundle steps randomness) before after given same low refuses =
    counts_no_run {asked = spec.Stats bundle steps randomness} {r = refusal.NoMemory} (no_run _ _ _ same) low refuses
wants_memory (spec.Upgrade old_name new_name) before after given same low refuses =
    upgrade_refuses {old_name = old_name} {new_name = new_name} {r = refusal.NoMemory} tt (no_run _ _ _ same) low refuses
wants_memory (spec.Store names counter steps randomness) before after given same low refuses =
    stored_no_run {asked = spec.Store names counter steps randomness} {r = refusal.NoMemory} (no_run _ _ _ same) low
    refuses
wants_memory (spec.Freeze names steps randomness) before after given same low refuses =
    frozen_no_run {asked = spec.Freeze names steps randomness} {r = refusal.NoMemory} (no_run _ _ _ same) low refuses
wants_memory (spec.Thaw names steps randomness) before after given same low refuses =
    thawed_no_run {asked = spec.Thaw names steps randomness} {r = refusal.NoMemory} (no_run _ _ _ same) low refuses

-- files that were not touched are kept, whatever the words ask for
pub keeps_same : (asked : spec.Asked) (given : Status) (held : List ℕ → Option (List ℕ)) → KeepsOthers asked given held held
keeps_same (spec.Faulty fault) given held = λ name. refl
keeps_same (spec.Run bundle record_name steps randomness) given held =
    same_files (spec.Run bundle record_name steps randomness) given held held (λ name. refl)
keeps_same (spec.View bundle record_name) given held = λ name. refl
keeps_same (spec.Solo domain bundle record_name) given held = λ name. refl
keeps_same (spec.SoloOver domain bundle record_name old) given held = λ name. refl
keeps_same (spec.Gen number bundle_name) given held = λ other apart. refl
keeps_same (spec.Demo number steps) given held = λ name. refl
keeps_same (spec.Stats bundle steps randomness) given held = λ name. refl
keeps_same (spec.Upgrade old_name new_name) given held = λ other apart. refl
keeps_same (spec.Store names counter steps randomness) given held = stored_same names given held held (λ name. refl)
keeps_same (spec.Freeze names steps randomness) given held = frozen_same names given held held (λ name. refl)
keeps_same (spec.Thaw names steps randomness) given held = thawed_same names given held held (λ name. refl)

-- `gen` changes the file that it writes, and no other
pub gen_keeps : {S O : Type 0} (number : ℕ) (name : List ℕ) (before after : Outside S O) (given : Status) →
    GenAnswers number name before after given → KeepsOthers (spec.Gen number name) given before.files.held after.files.held
gen_keeps number name before after status.Done has = has.file.others
gen_keeps {S} {O} number name before after status.NoMemory lacks =
    λ other apart. ap (λ (f : FilesOutside S). f.held other) lacks.untouched
gen_keeps number name before after status.WriteFault (inl failed) = failed.file.others
gen_keeps number name before after status.WriteFault (inr (inl failed)) = failed.file.others
gen_keeps {S} {O} number name before after status.WriteFault (inr (inr failed)) =
    λ other apart. ap (λ (f : FilesOutside S). f.held other) failed.untouched
gen_keeps number name before after status.Violation never = absurd never
gen_keeps number name before after status.Usage never = absurd never
gen_keeps number name before after status.BadBundle never = absurd never
gen_keeps number name before after status.ReadFault never = absurd never
gen_keeps number name before after status.NoRandom never = absurd never
gen_keeps number name before after status.BadRecord never = absurd never
gen_keeps number name before after status.BadStore never = absurd never
gen_keeps number name before after status.Frozen never = absurd never
gen_keeps number name before after status.BadState never = absurd never
