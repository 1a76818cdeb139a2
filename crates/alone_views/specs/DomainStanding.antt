-- What a program that runs alone stands for: states of the fold over the items.
use Rattle.std.specs.Prelude.{ℕ, ◌≡◌, ◌-◌, ◌<◌, List, length, Option, Some, None, is_some, option_map, Result, Ok, Err, if◌then◌else◌}
use Rattle.cloak_model.specs.declared.answer.Answer.{Answer}
use Rattle.cloak_model.specs.Hart.{hart_after}
use Rattle.cloak_model.specs.Parts.{DomainPart}
use Rattle.cloak_model.specs.DomainAlone as model
use Rattle.cloak_model.specs.DomainAlone.{Tried, Over, Wants, Wrong, with_control, domain_step_begun}
use Rattle.cloak_model.specs.Asking.{Told}
use Rattle.cloak_model.specs.DomainStep.{DomainStepped, interrupt}
use Rattle.hypercalls.specs.Standing.{StandsFor}
use Rattle.alone_views.specs.declared.domain.DomainAlone.{DomainAlone}
use Rattle.alone_views.specs.declared.domain.DomainStage.{DomainStage}
use Rattle.alone_views.specs.declared.domain.DomainStage.TheVariants as stage
use Rattle.alone_views.specs.declared.side.Handing.{Handing}
use Rattle.alone_views.specs.declared.side.Handing.TheVariants as handing
use Rattle.alone_views.specs.declared.unfit.Unfit.{Unfit}
use Rattle.alone_views.specs.DomainPages.{HasPlain}
use Rattle.alone_views.specs.Side.{IsAloneNow, one_answer}

-- the number of the program
abbrev pub number_in : DomainAlone → ℕ
number_in machine = machine.side.domain

-- the hart of each step, used cyclically
abbrev pub schedule_in : DomainAlone → List ℕ
schedule_in machine = machine.schedule.items

-- what was unfit, if anything was
abbrev pub unfit_in : DomainAlone → Option Unfit
unfit_in machine = machine.unfit

-- the hart of the step of a number
abbrev pub hart_at : List ℕ → ℕ → ℕ
hart_at schedule number = hart_after schedule (number - 1)

-- where the items stand, in a step of this hart if in one
abbrev pub stage_told : ℕ → DomainStage → model.DomainStage
stage_told hart stage.Between = model.Between
stage_told hart stage.Other = model.Other hart
stage_told hart (stage.Running slot answer) = model.Running slot (one_answer answer)
stage_told hart stage.Done = model.Done
stage_told hart stage.Stopped = model.Stopped

-- the step in which an item was unfit
abbrev pub step_of : Option Unfit → Option ℕ
step_of unfit = option_map (λ (u : Unfit). u.step) unfit

-- The program and its pages are this part, which has eight slots.
pub record StandsForPart (machine : DomainAlone) (p : DomainPart) : Type 0 where
  pub domain : StandsFor machine.domain p.domain
  pub pages : HasPlain machine.side.pages p.plain
  pub slots : length p.domain.control.contexts ≡ 8

-- No item was unfit, and the machine is that of this state.
pub record StandsWhileFit (machine : DomainAlone) (s : model.DomainAlone) : Type 0 where
  pub fit : s.unfit ≡ None
  pub unfit : machine.unfit ≡ None
  pub part : StandsForPart machine s.part
  pub steps : machine.steps ≡ s.steps
  pub stage : s.stage ≡ stage_told (hart_at (schedule_in machine) machine.steps) machine.stage

-- The machine is that of this state. Once an item was unfit, nothing but its step is kept.
pub record StandsForState (machine : DomainAlone) (s : model.DomainAlone) : Type 0 where
  pub unfit : step_of machine.unfit ≡ s.unfit
  pub while_fit : s.unfit ≡ None → StandsWhileFit machine s

-- The machine is that of this state of the program of a number, over a schedule.
pub record StandsForDomain (number : ℕ) (schedule : List ℕ) (machine : DomainAlone) (s : model.DomainAlone) : Type 0 where
  pub numbered : number_in machine ≡ number
  pub scheduled : schedule_in machine ≡ schedule
  pub state : StandsForState machine s

-- what an item is answered, by the step at which one was unfit
abbrev pub answer_by : Option ℕ → Result (Unit {0}) Unfit
answer_by None = Ok tt
answer_by (Some number) = Err (record { step = number })

-- An item was answered as this state tells, and the machine stands for it.
pub record TakesDomainItem (number : ℕ) (schedule : List ℕ) (machine : DomainAlone) (given : Result (Unit {0}) Unfit)
    (s : model.DomainAlone) : Type 0 where
  pub answer : given ≡ answer_by s.unfit
  pub stands : StandsForDomain number schedule machine s

-- From each state in which no item was unfit, the machine then is that of what is told of it.
abbrev pub TakesAs : DomainAlone → DomainAlone → (model.DomainAlone → model.DomainAlone) → Type 0
TakesAs old new told = (s : model.DomainAlone) → StandsWhileFit old s → StandsForState new (told s)

-- Number and schedule stay.
pub record KeepsSetting (old new : DomainAlone) : Type 0 where
  pub number : number_in new ≡ number_in old
  pub schedule : schedule_in new ≡ schedule_in old

-- All but the program and its pages stays.
pub record StaysBeside (old new : DomainAlone) : Type 0 where
  pub number : number_in new ≡ number_in old
  pub schedule : new.schedule ≡ old.schedule
  pub steps : new.steps ≡ old.steps
  pub stage : new.stage ≡ old.stage
  pub unfit : new.unfit ≡ old.unfit

-- A step was made as is told: program and side stand for what is told of them.
pub record StepsAlone (machine : DomainAlone) (told : Told DomainStepped) : Type 0 where
  pub domain : StandsFor machine.domain told.answer.domain
  pub side : IsAloneNow machine.side told.world

-- A step ended as was tried with these answers: if it is over, the program is that of the part; if it wants another
-- answer, the program is as it was, and the step had fewer than two.
abbrev pub IsTried : DomainAlone → Handing → List Answer → model.DomainAlone → Tried → Type 0
IsTried machine handing.Over answers s (Over p) = StandsForPart machine p
IsTried machine handing.Over answers s Wants = ⊥
IsTried machine handing.Over answers s Wrong = ⊥
IsTried machine handing.Wants answers s (Over p) = ⊥
IsTried machine handing.Wants answers s Wants = StandsForPart machine s.part × (length answers < 2)
IsTried machine handing.Wants answers s Wrong = ⊥
IsTried machine handing.Wrong answers s (Over p) = ⊥
IsTried machine handing.Wrong answers s Wants = ⊥
IsTried machine handing.Wrong answers s Wrong = Unit {0}

-- the context of a slot left for the timer interrupt, and the step has its items
abbrev pub timer_taken : ℕ → model.DomainAlone → model.DomainAlone
timer_taken slot s = record s {
  part = with_control (interrupt slot s.part.domain.control).control s.part;
  stage = model.Done;
}

-- the next step begins, unless an item was unfit
abbrev pub then_begun : List ℕ → ℕ → model.DomainAlone → model.DomainAlone
then_begun schedule number s = if is_some s.unfit then s else domain_step_begun schedule number s
