-- What the program returns, by what the words ask for, and which files it may change.
use Rattle.std.specs.Prelude.{◌≡◌, ℕ, List, Option}
use Rattle.io_traits.specs.Told.{SameFiles, OtherFiles}
use Rattle.command_words.specs.Command as spec
use Rattle.frozen_commands.specs.FreezeAnswering.{FreezeAnswers, KeepsFrozenFiles}
use Rattle.frozen_commands.specs.ThawAnswering.{ThawAnswers, KeepsThawedFiles}
use Rattle.image_commands.specs.Demonstrating.{DemoAnswers}
use Rattle.image_commands.specs.Generating.{GenAnswers}
use Rattle.image_commands.specs.Upgrading.{UpgradeAnswers}
use Rattle.command_parts.specs.declared.status.Status.{Status}
use Rattle.command_parts.specs.NoRun.{OnlyRefuses}
use Rattle.command_parts.specs.Outside.{Outside}
use Rattle.read_back.specs.Answering.{ViewAnswers, SoloAnswers}
use Rattle.read_back.specs.AnsweringOver.{SoloOverAnswers}
use Rattle.run_command.specs.Answering.{RunAnswers, KeepsFiles}
use Rattle.stats_command.specs.Answering.{StatsAnswers}
use Rattle.store_command.specs.Answering.{StoreAnswers}
use Rattle.store_command.specs.Answering as stored

-- the image of a number and its run, without files
pub record Demonstrates {S O : Type 0} (number steps : ℕ) (before after : Outside S O) (answer : Status) : Type 0 where
  pub answers : DemoAnswers number steps before.output after.output answer
  pub untouched : after.files ≡ before.files

abbrev pub Answers : {S O : Type 0} → spec.Asked → Outside S O → Outside S O → Status → Type 0
Answers (spec.Faulty fault) before after answer = OnlyRefuses (spec.Faulty fault) before after answer
Answers (spec.Run bundle record_name steps randomness) before after answer =
    RunAnswers (spec.Run bundle record_name steps randomness) before after answer
Answers (spec.View bundle record_name) before after answer = ViewAnswers (spec.View bundle record_name) before after answer
Answers (spec.Solo domain bundle record_name) before after answer =
    SoloAnswers (spec.Solo domain bundle record_name) before after answer
Answers (spec.SoloOver domain bundle record_name old) before after answer =
    SoloOverAnswers (spec.SoloOver domain bundle record_name old) before after answer
Answers (spec.Gen number bundle_name) before after answer = GenAnswers number bundle_name before after answer
Answers (spec.Demo number steps) before after answer = Demonstrates number steps before after answer
Answers (spec.Stats bundle steps randomness) before after answer =
    StatsAnswers (spec.Stats bundle steps randomness) before after answer
Answers (spec.Upgrade old_name new_name) before after answer = UpgradeAnswers old_name new_name before after answer
Answers (spec.Store names counter steps randomness) before after answer =
    StoreAnswers (spec.Store names counter steps randomness) before after answer
Answers (spec.Freeze names steps randomness) before after answer =
    FreezeAnswers (spec.Freeze names steps randomness) before after answer
Answers (spec.Thaw names steps randomness) before after answer =
    ThawAnswers (spec.Thaw names steps randomness) before after answer

-- Every file keeps its bytes, save the record of a run that was begun, or might have been, the bundle that `gen` or
-- `upgrade` writes, and the files that `store`, `freeze` and `thaw` write.
abbrev pub KeepsOthers : spec.Asked → Status → (List ℕ → Option (List ℕ)) → (List ℕ → Option (List ℕ)) → Type 0
KeepsOthers (spec.Faulty fault) answer held held' = SameFiles held held'
KeepsOthers (spec.Run bundle record_name steps randomness) answer held held' =
    KeepsFiles (spec.Run bundle record_name steps randomness) answer held held'
KeepsOthers (spec.View bundle record_name) answer held held' = SameFiles held held'
KeepsOthers (spec.Solo domain bundle record_name) answer held held' = SameFiles held held'
KeepsOthers (spec.SoloOver domain bundle record_name old) answer held held' = SameFiles held held'
KeepsOthers (spec.Gen number bundle_name) answer held held' = OtherFiles bundle_name held held'
KeepsOthers (spec.Demo number steps) answer held held' = SameFiles held held'
KeepsOthers (spec.Stats bundle steps randomness) answer held held' = SameFiles held held'
KeepsOthers (spec.Upgrade old_name new_name) answer held held' = OtherFiles new_name held held'
KeepsOthers (spec.Store names counter steps randomness) answer held held' = stored.KeepsFiles names answer held held'
KeepsOthers (spec.Freeze names steps randomness) answer held held' = KeepsFrozenFiles names answer held held'
KeepsOthers (spec.Thaw names steps randomness) answer held held' = KeepsThawedFiles names answer held held'
