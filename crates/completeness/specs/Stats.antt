-- What `stats` results in if no call on files or output fails.
use Rattle.std.specs.Prelude.{ℕ, ◌≡◌, ◌⊎◌, List, Result, Ok, Err}
use Rattle.cloak_base.specs.Random.{Random}
use Rattle.cloak_model.specs.declared.image.Bundle.{Bundle}
use Rattle.cloak_model.specs.Opening.{Lack, RunEdge, opening}
use Rattle.cloak_model.specs.Run.{run_of}
use Rattle.io_traits.specs.Told.{Grows, SameFiles}
use Rattle.command_words.specs.Command as spec
use Rattle.command_parts.specs.declared.status.Status.{Status}
use Rattle.command_parts.specs.Outside.{Outside, NothingRose}
use Rattle.run_command.specs.Running.{run_status}
use Rattle.cloak_model.specs.Run.{NoClash}
use Rattle.stats_command.specs.Answering.{StatsAnswers}
use Rattle.stats_command.specs.Showing.{run_lines}
use Rattle.completeness.specs.Asked.{IsBundleFile, WantsMemory}
use Rattle.completeness.specs.Runs.{Lacks}
use Rattle.command_parts.specs.Streams.{IsToldStream}

-- No file was written. If no pages clashed in the run, its lines were shown, and the answer is its status.
pub record ShowsCounts {S O : Type 0} (b : Bundle) (steps : ℕ) (o : RunEdge) (answer : Status)
    (before after : Outside S O) : Type 0 where
  pub held : SameFiles before.files.held after.files.held
  pub status : NoClash (run_of b steps o) → answer ≡ run_status (run_of b steps o)
  pub lines : NoClash (run_of b steps o) → Grows before.output.taken after.output.taken (run_lines b steps o)

-- what the run results in, by how it opens, or why there is none
abbrev pub ComesToCounts : {S O : Type 0} → Bundle → ℕ → Result RunEdge Lack → Status → Outside S O → Outside S O →
    Type 0
ComesToCounts b steps (Err lack) answer before after = Lacks lack answer before after
ComesToCounts b steps (Ok o) answer before after = ShowsCounts b steps o answer before after

-- If these words ask for the counts of the run of this bundle under this stream, and no call fails, it was made and its
-- lines shown whole, or there was no memory to begin with.
abbrev pub CompletesStats : {S O : Type 0} → (bundle_name : List ℕ) → ℕ → spec.Randomness → Status → Outside S O →
    Outside S O → Type 0
CompletesStats bundle_name steps randomness answer before after =
    (b : Bundle) (s : Random) →
    IsBundleFile before.files.held bundle_name b → IsToldStream before.files.held randomness s →
    NothingRose before after →
    WantsMemory answer before after ⊎ ComesToCounts b steps (opening b s) answer before after

abbrev pub StatsAreComplete : (S O : Type 0) → Type 0
StatsAreComplete S O =
    (bundle_name : List ℕ) (steps : ℕ) (randomness : spec.Randomness) (answer : Status) (before after : Outside S O) →
    StatsAnswers (spec.Stats bundle_name steps randomness) before after answer →
    CompletesStats bundle_name steps randomness answer before after
