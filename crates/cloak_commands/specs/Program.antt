-- What the program answers to words.
use Rattle.std.specs.Prelude.{◌≢◌, map, string_bytes, Option, Some, None, Result, Ok, Err}
use Rattle.cloak_base.specs.declared.causes.NoMemory.{NoMemory}
use Rattle.command_words.specs.declared.usage_fault.UsageFault.TheVariants.{WrongWords}
use Rattle.command_words.specs.declared.request.Request.{Request}
use Rattle.command_words.specs.Command as spec
use Rattle.command_words.specs.Request.{asked_of}
use Rattle.command_parts.specs.declared.status.Status.{Status}
use Rattle.command_parts.specs.declared.status.Status.TheVariants as status
use Rattle.cloak_commands.specs.declared.words.ProgramWords.{ProgramWords}
use Rattle.cloak_commands.specs.declared.words.ProgramWords.TheVariants as words
use Rattle.cloak_commands.specs.Answering.{Answers, KeepsOthers}
use Rattle.cloak_commands.specs.BundleFirst.{JudgesBundleFirst}
use Rattle.command_parts.specs.Outside.{NothingRose, Outside}
use Rattle.command_parts.specs.Refusing.{LacksMemory}
use Rattle.completeness.specs.Complete.{IsComplete}

-- the status comes by its cause, and no file is changed that the words do not name to be written
pub record AnswersAsked {S O : Type 0} (asked : spec.Asked) (before after : Outside S O) (answer : Status) : Type 0
  where
    pub answers : Answers asked before after answer
    pub kept : KeepsOthers asked answer before.files.held after.files.held

-- what these words ask for, if there was memory to take them
abbrev pub asked_by : ProgramWords → Option spec.Asked
asked_by (words.Taken texts) = Some (spec.words_of (map string_bytes texts.items))
asked_by words.NotText = Some (spec.Faulty WrongWords)
asked_by words.NoMemory = None

-- Reading these words again can lack memory: there was none to take them, or they name a command.
abbrev pub TakesMemory : ProgramWords → Type 0
TakesMemory (words.Taken texts) = spec.NamesCommand (map string_bytes texts.items)
TakesMemory words.NotText = ⊥
TakesMemory words.NoMemory = Unit {0}

-- what is known of what words ask for that were read again
abbrev pub asked_in : Result Request NoMemory → Option spec.Asked
asked_in (Ok request) = Some (asked_of request)
asked_in (Err no_memory) = None

-- What was answered to these words. One that is no text makes them faulty.
abbrev pub AnswersWords : {S O : Type 0} → ProgramWords → Outside S O → Outside S O → Status → Type 0
AnswersWords (words.Taken texts) before after answer =
    AnswersAsked (spec.words_of (map string_bytes texts.items)) before after answer
AnswersWords words.NotText before after answer = AnswersAsked (spec.Faulty WrongWords) before after answer
AnswersWords words.NoMemory before after answer = LacksMemory before after answer

-- the status is none of those for a fault of reading or writing
abbrev pub IsNoFault : Status → Type 0
IsNoFault answer = (answer ≢ status.ReadFault) × (answer ≢ status.WriteFault)

-- Such a status says that no call failed. What the words ask for was then done whole, or there was no memory to begin with.
pub record CompletesAsked {S O : Type 0} (asked : spec.Asked) (before after : Outside S O) (answer : Status) : Type 0
  where
    pub faultless : IsNoFault answer → NothingRose before after
    pub complete : IsComplete asked answer before after

abbrev pub CompletesWords : {S O : Type 0} → ProgramWords → Outside S O → Outside S O → Status → Type 0
CompletesWords (words.Taken texts) before after answer =
    CompletesAsked (spec.words_of (map string_bytes texts.items)) before after answer
CompletesWords words.NotText before after answer = CompletesAsked (spec.Faulty WrongWords) before after answer
CompletesWords words.NoMemory before after answer = IsNoFault answer → NothingRose before after

-- The bundle that the words name is judged before any other file is read.
abbrev pub JudgesWords : {S O : Type 0} → ProgramWords → Outside S O → Outside S O → Status → Type 0
JudgesWords (words.Taken texts) before after answer =
    JudgesBundleFirst (spec.words_of (map string_bytes texts.items)) answer before after
JudgesWords words.NotText before after answer = Unit {0}
JudgesWords words.NoMemory before after answer = Unit {0}
