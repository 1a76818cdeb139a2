-- The answers of `demo`, each status with its cause.
use Rattle.std.specs.Prelude.{ℕ, ◌≡◌, ◌⊎◌, List, ◌++◌, length, Ok}
use Rattle.cloak_base.specs.Random.{numbered}
use Rattle.io_traits.specs.Told.{Grows, GrowsByFront}
use Rattle.cloak_model.specs.Run.{Run, joint_run}
use Rattle.cloak_machine.specs.Ending.{short_report}
use Rattle.guest_kernel.specs.Generated.{generated}
use Rattle.guest_kernel.specs.Summary.{summary_line}
use Rattle.command_parts.specs.Outside.{Output, Raised}
use Rattle.command_parts.specs.declared.status.Status.{Status}
use Rattle.command_parts.specs.declared.status.Status.TheVariants as status
use Rattle.run_command.specs.Running.{run_status}
use Rattle.cloak_model.specs.Run.{NoClash}
use Rattle.image_commands.specs.Showing.{IsShown, IsShownInPart, no_memory_line}

-- the joint run of the image of number n, under the random stream of number n, with at most this many steps
abbrev pub IsDemoRun : ℕ → ℕ → Run → Type 0
IsDemoRun n steps r = joint_run (generated n) (numbered n) steps ≡ Ok r

-- what the run of an image ends with: the image's line, and the report without the kernel's lines
abbrev pub demo_lines : ℕ → Run → List ℕ
demo_lines n r = summary_line n ++ short_report r.stop (length r.turns) r.closed.joint

-- The run was made. If no pages clashed in it, its lines were shown, and the answer is its status.
pub record HasDemonstrated {O : Type 0} (n steps : ℕ) (answer : Status) (before after : Output O) : Type 0 where
  pub made : Run
  pub is_run : IsDemoRun n steps made
  pub status : NoClash made → answer ≡ run_status made
  pub lines : NoClash made → Grows before.taken after.taken (demo_lines n made)
  pub grows : (text : List ℕ) × Grows before.taken after.taken text
  pub faults : after.faults ≡ before.faults

-- The run was made, and the output failed. If no pages clashed in the run, a front of its lines was shown.
pub record LinesFailed {O : Type 0} (n steps : ℕ) (before after : Output O) : Type 0 where
  pub made : Run
  pub is_run : IsDemoRun n steps made
  pub lines : NoClash made → GrowsByFront before.taken after.taken (demo_lines n made)
  pub grows : (text : List ℕ) × Grows before.taken after.taken text
  pub faults : Raised before.faults after.faults

-- the answer of `demo` of number n with this many steps
abbrev pub DemoAnswers : {O : Type 0} → ℕ → ℕ → Output O → Output O → Status → Type 0
DemoAnswers n steps before after status.Done = HasDemonstrated n steps status.Done before after
DemoAnswers n steps before after status.Violation = HasDemonstrated n steps status.Violation before after
DemoAnswers n steps before after status.WriteFault =
    LinesFailed n steps before after ⊎ IsShownInPart before after no_memory_line
DemoAnswers n steps before after status.NoMemory = IsShown before after no_memory_line
DemoAnswers n steps before after status.NoRandom = HasDemonstrated n steps status.NoRandom before after
DemoAnswers n steps before after answer = ⊥
