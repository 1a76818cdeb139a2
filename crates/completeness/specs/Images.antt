-- What `gen` and `demo` result in if no call on files or output fails.
use Rattle.std.specs.Prelude.{ℕ, ◌≡◌, ◌⊎◌, List}
use Rattle.cloak_model.specs.Run.{Run}
use Rattle.io_traits.specs.Told.{Grows}
use Rattle.command_parts.specs.declared.status.Status.{Status}
use Rattle.command_parts.specs.declared.status.Status.TheVariants as status
use Rattle.command_parts.specs.Outside.{Outside, Output, NothingRose}
use Rattle.run_command.specs.Running.{run_status}
use Rattle.cloak_model.specs.Run.{NoClash}
use Rattle.image_commands.specs.Demonstrating.{DemoAnswers, IsDemoRun, demo_lines}
use Rattle.image_commands.specs.Generating.{GenAnswers, HasGenerated}
use Rattle.image_commands.specs.Showing.{no_memory_line}
use Rattle.completeness.specs.Asked.{WantsMemory}

-- the image was written, and its line shown
pub record Generates {S O : Type 0} (n : ℕ) (name : List ℕ) (answer : Status) (before after : Outside S O) : Type 0 where
  pub status : answer ≡ status.Done
  pub has : HasGenerated n name before after

-- If no call fails, the image of this number was written to this file, or there was no memory to begin with.
abbrev pub CompletesGen : {S O : Type 0} → ℕ → List ℕ → Status → Outside S O → Outside S O → Type 0
CompletesGen n name answer before after =
    NothingRose before after → WantsMemory answer before after ⊎ Generates n name answer before after

abbrev pub GensAreComplete : (S O : Type 0) → Type 0
GensAreComplete S O =
    (n : ℕ) (name : List ℕ) (answer : Status) (before after : Outside S O) →
    GenAnswers n name before after answer → CompletesGen n name answer before after

-- the run was made, and if no pages clashed in it, the answer is its status and its lines were shown
pub record Demonstrated {O : Type 0} (n steps : ℕ) (answer : Status) (before after : Output O) : Type 0 where
  pub made : Run
  pub is_run : IsDemoRun n steps made
  pub status : NoClash made → answer ≡ run_status made
  pub lines : NoClash made → Grows before.taken after.taken (demo_lines n made)

-- there was no memory to begin with
pub record LacksMemory {O : Type 0} (answer : Status) (before after : Output O) : Type 0 where
  pub status : answer ≡ status.NoMemory
  pub line : Grows before.taken after.taken no_memory_line

-- If no call fails, the run of the image of this number was made and shown, or there was no memory to begin with.
abbrev pub CompletesDemo : {O : Type 0} → ℕ → ℕ → Status → Output O → Output O → Type 0
CompletesDemo n steps answer before after =
    after.faults ≡ before.faults → LacksMemory answer before after ⊎ Demonstrated n steps answer before after

abbrev pub DemosAreComplete : (O : Type 0) → Type 0
DemosAreComplete O =
    (n steps : ℕ) (answer : Status) (before after : Output O) → DemoAnswers n steps before after answer →
    CompletesDemo n steps answer before after
