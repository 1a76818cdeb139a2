-- What is shown of a run's counts.
use Rattle.std.specs.Prelude.{ℕ, ◌≡◌, ◌⊎◌, List, ◌++◌, codes}
use Rattle.cloak_base.specs.declared.causes.Stop.{Stop}
use Rattle.cloak_model.specs.declared.image.Bundle.{Bundle}
use Rattle.cloak_model.specs.Opening.{RunEdge}
use Rattle.cloak_model.specs.Report.{number_line, stop_line}
use Rattle.cloak_model.specs.Run.{run_of}
use Rattle.io_traits.specs.Told.{Grows, GrowsByFront}
use Rattle.command_parts.specs.declared.status.Status.{Status}
use Rattle.command_parts.specs.declared.status.Status.TheVariants as status
use Rattle.command_parts.specs.Outside.{Output, Raised}
use Rattle.run_command.specs.Recording.{GrowsSome}
use Rattle.run_command.specs.Running.{IsStatusOfStop, run_status}
use Rattle.cloak_model.specs.Run.{NoClash}
use Rattle.shadow_fold.specs.declared.entry.ShadowCounts.{ShadowCounts}
use Rattle.shadow_fold.specs.Events.{counts_of}

-- why a run ended, and its counts
abbrev pub stats_lines : Stop → ShadowCounts → List ℕ
stats_lines cause counts =
    stop_line cause ++ (number_line (codes "accesses ") counts.accesses
    ++ (number_line (codes "misses ") counts.misses ++ number_line (codes "flushes ") counts.flushes))

-- the lines of the run of a bundle that opened so
abbrev pub run_lines : Bundle → ℕ → RunEdge → List ℕ
run_lines b steps o = stats_lines (run_of b steps o).stop (counts_of b steps o)

-- The lines of a run were shown, and the answer is the status of some run: if no pages clashed in the run, its own.
pub record ShowsLines {O : Type 0} (b : Bundle) (steps : ℕ) (o : RunEdge) (before after : Output O) (answer : Status) :
    Type 0 where
  pub some_stop : IsStatusOfStop answer
  pub status : NoClash (run_of b steps o) → answer ≡ run_status (run_of b steps o)
  pub lines : NoClash (run_of b steps o) → Grows before.taken after.taken (run_lines b steps o)
  pub grows : GrowsSome before.taken after.taken
  pub faults : after.faults ≡ before.faults

-- The output failed. If no pages clashed in the run, a front of its lines was shown.
pub record ShowsFront {O : Type 0} (b : Bundle) (steps : ℕ) (o : RunEdge) (before after : Output O) (answer : Status) :
    Type 0 where
  pub write_fault : answer ≡ status.WriteFault
  pub lines : NoClash (run_of b steps o) → GrowsByFront before.taken after.taken (run_lines b steps o)
  pub grows : GrowsSome before.taken after.taken
  pub faults : Raised before.faults after.faults

abbrev pub ShowsStats : {O : Type 0} → Bundle → ℕ → RunEdge → Output O → Output O → Status → Type 0
ShowsStats b steps o before after answer =
    ShowsLines b steps o before after answer ⊎ ShowsFront b steps o before after answer
