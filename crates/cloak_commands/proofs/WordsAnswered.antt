-- What follows for words from what was answered to them, and what is answered if memory is wanted.
use Rattle.std.proofs.Common.{◌<◌, ◌-◌, ◌^◌, ◌≡◌, map, string_bytes, sym, subst}
use Rattle.command_words.specs.declared.usage_fault.UsageFault.TheVariants.{WrongWords}
use Rattle.command_words.specs.Command as spec
use Rattle.command_parts.specs.declared.refusal.Refusal.TheVariants as refusal
use Rattle.command_parts.specs.declared.status.Status.{Status}
use Rattle.command_parts.specs.Outside.{FilesOutside, Outside}
use Rattle.command_parts.specs.Refusing.{Refuses}
use Rattle.cloak_commands.specs.declared.words.ProgramWords.{ProgramWords}
use Rattle.cloak_commands.specs.declared.words.ProgramWords.TheVariants as words
use Rattle.cloak_commands.specs.Answering.{KeepsOthers}
use Rattle.cloak_commands.specs.Program.{AnswersAsked, AnswersWords, CompletesAsked, CompletesWords, JudgesWords}
use Rattle.cloak_commands.proofs.Asked.{keeps_same, wants_memory}
use Rattle.cloak_commands.proofs.BundleFirst.{judges_bundle_first}
use Rattle.cloak_commands.proofs.Complete.{complete_by}
use Rattle.cloak_commands.proofs.Faultless.{faultless, lacks_memory}

completes : {S O : Type 0} (asked : spec.Asked) (before after : Outside S O) (answer : Status) →
    before.files.reading < 2 ^ 64 - 1 → AnswersAsked asked before after answer → CompletesAsked asked before after answer
completes {S} {O} asked before after answer low given = record {
  faultless = λ fine. faultless asked answer before after fine given.answers;
  complete = complete_by asked answer before after low given.answers;
}

pub completes_words : {S O : Type 0} (w : ProgramWords) (before after : Outside S O) (answer : Status) →
    before.files.reading < 2 ^ 64 - 1 → AnswersWords w before after answer → CompletesWords w before after answer
completes_words {S} {O} (words.Taken texts) before after answer low given =
    completes (spec.words_of (map string_bytes texts.items)) before after answer low given
completes_words {S} {O} words.NotText before after answer low given =
    completes (spec.Faulty WrongWords) before after answer low given
completes_words {S} {O} words.NoMemory before after answer low given =
    λ fine. lacks_memory answer before after fine given

pub judges_words : {S O : Type 0} (w : ProgramWords) (before after : Outside S O) (answer : Status) →
    AnswersWords w before after answer → JudgesWords w before after answer
judges_words {S} {O} (words.Taken texts) before after answer given =
    judges_bundle_first (spec.words_of (map string_bytes texts.items)) answer before after given.answers
judges_words {S} {O} words.NotText before after answer given = tt
judges_words {S} {O} words.NoMemory before after answer given = tt

-- Want of memory, whatever the words are.

wants : {S O : Type 0} (asked : spec.Asked) (before after : Outside S O) (given : Status) → after.files ≡ before.files →
    before.output.faults < 2 ^ 64 - 1 → Refuses before.output after.output refusal.NoMemory given →
    AnswersAsked asked before after given
wants {S} {O} asked before after given same low refuses = record {
  answers = wants_memory asked before after given same low refuses;
  kept =
      subst (λ (f : FilesOutside S). KeepsOthers asked given before.files.held f.held) (sym same)
      (keeps_same asked given before.files.held);
}

pub words_want : {S O : Type 0} (w : ProgramWords) (before after : Outside S O) (given : Status) →
    after.files ≡ before.files → before.output.faults < 2 ^ 64 - 1 →
    Refuses before.output after.output refusal.NoMemory given → AnswersWords w before after given
words_want {S} {O} (words.Taken texts) before after given same low refuses =
    wants (spec.words_of (map string_bytes texts.items)) before after given same low refuses
words_want {S} {O} words.NotText before after given same low refuses =
    wants (spec.Faulty WrongWords) before after given same low refuses
words_want {S} {O} words.NoMemory before after given same low refuses = record { line = refuses; untouched = same }
