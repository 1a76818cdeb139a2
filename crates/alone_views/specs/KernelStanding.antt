-- What a kernel that runs alone stands for, and what its calls make of it.
use Rattle.std.specs.Prelude.{ℕ, ◌≡◌, ◌≤◌, List, ◌++◌, length, Option, Some, None, Result, Ok, Err}
use Rattle.cloak_model.specs.Exchange.{Piece, Emits, shown_each}
use Rattle.cloak_model.specs.KernelAlone as model
use Rattle.alone_views.specs.KernelConsole.{ConsoleCounts}
use Rattle.alone_views.specs.KernelStages.{stood_stage}
use Rattle.alone_views.specs.declared.kernel.KernelAlone.{KernelAlone}
use Rattle.alone_views.specs.declared.unfit.Unfit.{Unfit}

-- the hart of each step, used cyclically
abbrev pub turns_of : KernelAlone → List ℕ
turns_of machine = machine.schedule.items

-- the step at which an item was unfit
abbrev pub unfit_step : KernelAlone → Option ℕ
unfit_step machine = machine.unfit

-- the state that a machine keeps, with this console
abbrev pub state_with : KernelAlone → List ℕ → model.KernelAlone
state_with machine console = record {
  kernel = record {
    harts = machine.harts.items;
    ram = machine.ram.frames.items;
    disk = machine.disk;
    console = console;
    marks = machine.ram.reservations;
  };
  steps = machine.steps;
  stage = stood_stage machine.stage;
  halted = machine.halted;
  unfit = machine.unfit;
}

-- The machine is that of this state, under this schedule. Of what its console was shown it knows the digest and the
-- length.
pub record StandsForKernel (machine : KernelAlone) (turns : List ℕ) (s : model.KernelAlone) : Type 0 where
  pub schedule : turns_of machine ≡ turns
  pub state : s ≡ state_with machine s.kernel.console
  pub console : ConsoleCounts machine.console s.kernel.console

-- The machine stands for the next state. What the console gained was shown, and nothing else.
pub record Gains {E : Type 0} (gave : E → E → List Piece → Type 0) (e e' : E) (machine : KernelAlone)
    (turns : List ℕ) (s next : model.KernelAlone) : Type 0 where
  pub stands : StandsForKernel machine turns next
  pub more : List ℕ
  pub console : next.kernel.console ≡ s.kernel.console ++ more
  pub at_most_one : length more ≤ 1
  pub emits : Emits gave e e' (shown_each more)

-- what is returned if this is unfit
abbrev pub answer_for : Option ℕ → Result Unit Unfit
answer_for None = Ok tt
answer_for (Some step) = Err (record { step = step })

-- An item is taken so: what is shown and answered, and what the machine then stands for.
pub record TakesItem {E : Type 0} (gave : E → E → List Piece → Type 0) (e e' : E) (machine : KernelAlone)
    (given : Result Unit Unfit) (turns : List ℕ) (s next : model.KernelAlone) : Type 0 where
  pub gains : Gains gave e e' machine turns s next
  pub answer : given ≡ answer_for next.unfit
