-- A step over a memory.
use Rattle.std.specs.Prelude.{◌≡◌, ℕ, List}
use Rattle.cloak_model.specs.Asking.{Asking, Follows, Keeps}
use Rattle.cloak_model.specs.Hart.{Hart}
use Rattle.cloak_model.specs.HostCalls.{SteppedKernel}
use Rattle.cloak_model.specs.KernelStep.{released}
use Rattle.cloak_model.specs.declared.outcome.Kernel.{Kernel}
use Rattle.host_calls.specs.declared.ram.Ram.{Ghosts}

-- In each world that the memory stands for, this was asked and this is the answer. Whatever it stands for, it keeps
-- what `kept` says, and it has as many frames.
pub record StepsOver {M A : Type 0} (ram : Ghosts M) (old new : M) (given : A) (ask : Asking A) : Type 0 where
  pub follows : Follows ram.stands_for old new given ask
  pub keeps : Keeps ram.kept old new
  pub same_count : ram.count new ≡ ram.count old

abbrev pub ReleasesAfter : {M : Type 0} → Ghosts M → M → M → SteppedKernel → Type 0
ReleasesAfter ram old new made = StepsOver ram old new made (released made)

-- what a step that ended like this ends of the hart's reservation is ended, whatever disk it left
abbrev pub Releases : {M : Type 0} → Ghosts M → M → M → Hart → Kernel → Type 0
Releases ram old new h ending = (disk : List ℕ) → ReleasesAfter ram old new (record { hart = h; disk = disk; ending = ending })
