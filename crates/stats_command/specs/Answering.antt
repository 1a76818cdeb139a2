-- What `stats` returns, each status with its cause.
use Rattle.std.specs.Prelude.{ℕ, ◌≡◌, ◌⊎◌, List, Option, None, Ok}
use Rattle.cloak_base.specs.Random.{Random}
use Rattle.io_traits.specs.Told.{Grows, GrowsByFront}
use Rattle.cloak_model.specs.declared.image.Bundle.{Bundle}
use Rattle.cloak_model.specs.Opening.{RunEdge, opening}
use Rattle.cloak_model.specs.Run.{Run, run_of}
use Rattle.command_words.specs.Command as spec
use Rattle.command_parts.specs.declared.status.Status.{Status}
use Rattle.command_parts.specs.declared.status.Status.TheVariants as status
use Rattle.command_parts.specs.NoRun.{AsksBundle, IsRefused, LineFailed}
use Rattle.command_parts.specs.Outside.{OnlyRead, Outside, Raised}
use Rattle.run_command.specs.Recording.{GrowsSome}
use Rattle.run_command.specs.Running.{run_status}
use Rattle.cloak_model.specs.Run.{NoClash}
use Rattle.stats_command.specs.Showing.{run_lines}

-- The words ask for the counts of the joint run of this bundle, with at most this many steps, which opens like this.
pub record AsksStats (asked : spec.Asked) (held : List ℕ → Option (List ℕ)) : Type 0 where
  pub steps : ℕ
  pub bundle : Bundle
  pub stream : Random
  pub asks : AsksBundle asked held None steps bundle stream
  pub opened : RunEdge
  pub opens : opening bundle stream ≡ Ok opened

-- that run
abbrev pub run_asked : {asked : spec.Asked} {held : List ℕ → Option (List ℕ)} → AsksStats asked held → Run
run_asked asks = run_of asks.bundle asks.steps asks.opened

-- and its lines
abbrev pub lines_asked : {asked : spec.Asked} {held : List ℕ → Option (List ℕ)} → AsksStats asked held → List ℕ
lines_asked asks = run_lines asks.bundle asks.steps asks.opened

-- The run was made. If no pages clashed in it, its lines were shown, and the answer is its status.
pub record HasStats {S O : Type 0} (asked : spec.Asked) (answer : Status) (before after : Outside S O) : Type 0 where
  pub asks : AsksStats asked before.files.held
  pub status : NoClash (run_asked asks) → answer ≡ run_status (run_asked asks)
  pub lines : NoClash (run_asked asks) → Grows before.output.taken after.output.taken (lines_asked asks)
  pub grows : GrowsSome before.output.taken after.output.taken
  pub files : OnlyRead before.files after.files
  pub faults : after.output.faults ≡ before.output.faults

-- The run was made, and the output failed. If no pages clashed in the run, a front of its lines was shown.
pub record LinesFailed {S O : Type 0} (asked : spec.Asked) (before after : Outside S O) : Type 0 where
  pub asks : AsksStats asked before.files.held
  pub lines : NoClash (run_asked asks) → GrowsByFront before.output.taken after.output.taken (lines_asked asks)
  pub grows : GrowsSome before.output.taken after.output.taken
  pub files : OnlyRead before.files after.files
  pub faults : Raised before.output.faults after.output.faults

-- What each status says. The causes exclude each other, so each status comes exactly with its cause; only want of
-- memory may come instead of another, before the run begins.
abbrev pub StatsAnswers : {S O : Type 0} → spec.Asked → Outside S O → Outside S O → Status → Type 0
StatsAnswers asked before after status.Done = HasStats asked status.Done before after
StatsAnswers asked before after status.Violation = HasStats asked status.Violation before after
StatsAnswers asked before after status.Usage = IsRefused asked status.Usage before after
StatsAnswers asked before after status.BadBundle = IsRefused asked status.BadBundle before after
StatsAnswers asked before after status.ReadFault = IsRefused asked status.ReadFault before after
StatsAnswers asked before after status.WriteFault = LineFailed asked before after ⊎ LinesFailed asked before after
StatsAnswers asked before after status.NoMemory = IsRefused asked status.NoMemory before after
StatsAnswers asked before after status.NoRandom =
    IsRefused asked status.NoRandom before after ⊎ HasStats asked status.NoRandom before after
StatsAnswers asked before after status.BadRecord = ⊥
StatsAnswers asked before after status.BadStore = IsRefused asked status.BadStore before after
StatsAnswers asked before after status.Frozen = ⊥
StatsAnswers asked before after status.BadState = IsRefused asked status.BadState before after
