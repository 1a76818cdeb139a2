-- Why a domain ends: what the kernel's side presented in a step instead of what is recorded. And if that is presented,
-- the step ends the domain; if there is none left to end, one more is counted.
use Rattle.std.specs.List.{Contains}
use Rattle.std.specs.Prelude.{ℕ, ◌≡◌, ◌≢◌, ◌<◌, ◌⊎◌, ◌+◌, ◌-◌, ◌^◌, min, Bool, true, false, List, ◌∷◌, ◌++◌, length, take, Option, Some, None, Ok, slice_get, slice_set, option_and_then, is_none, is_some, slice_index_or}
use Rattle.cloak_base.specs.declared.causes.Stop.TheVariants as stop
use Rattle.cloak_base.specs.declared.causes.Violation.{Violation}
use Rattle.cloak_base.specs.declared.causes.Violation.TheVariants as violation
use Rattle.cloak_base.specs.declared.names.Kind.{Kind}
use Rattle.cloak_base.specs.declared.names.Mode.TheVariants.{U}
use Rattle.cloak_base.specs.declared.names.PageId.{PageId}
use Rattle.cloak_model.specs.declared.image.Bundle.{Bundle}
use Rattle.cloak_model.specs.declared.answer.Answer.{Answer}
use Rattle.cloak_model.specs.declared.answer.Answer.TheVariants as answer
use Rattle.cloak_model.specs.Items.{Item}
use Rattle.cloak_model.specs.Items as item
use Rattle.cloak_model.specs.declared.outcome.Kernel.{Kernel}
use Rattle.cloak_model.specs.declared.outcome.Kernel.TheVariants as kernel
use Rattle.cloak_model.specs.Ahead.{settled_step}
use Rattle.cloak_model.specs.Asking.{Told}
use Rattle.cloak_model.specs.AskPages.{ask_reach}
use Rattle.cloak_model.specs.Beginning.{Beginning}
use Rattle.cloak_model.specs.Contexts.{Context, context_at, domain_of, slot_of}
use Rattle.cloak_model.specs.Csr.{satp_of, sum_of, mxr_of}
use Rattle.cloak_model.specs.Hart.{Hart}
use Rattle.cloak_model.specs.DomainState.{Domain}
use Rattle.cloak_model.specs.Ending.{ended_domain}
use Rattle.cloak_model.specs.Joint.{Moment, Turn, stop_of, next_hart, hart_in, cloak_outside, domain_met, step_before_end, joint_step}
use Rattle.cloak_model.specs.KernelStep.{ticked}
use Rattle.cloak_model.specs.Parts.{Joint}
use Rattle.cloak_model.specs.Run.{Run, run_from, joint_after}
use Rattle.cloak_model.specs.Walk.{Walk, walk}
use Rattle.cloak_model.specs.World.{MidStep, Cloaked, violation_of}
use Rattle.cause_law.specs.Presented.{hart_of_step, Differs, FindsOther, PresentsPage}

-- The machine as a run goes on.

-- the moment of a run after its first n steps
abbrev pub moment_at : Bundle → Run → ℕ → Moment
moment_at b r n = record {
  schedule = b.kernel.schedule;
  steps = n;
  joint = joint_after r.opened.joint (take n r.turns);
}

-- A context that cannot run, and a page table that is not the recorded one.

-- how the plain step of a hart outside ends
abbrev pub kernel_ending : Moment → Kernel
kernel_ending m =
    (settled_step (hart_of_step m) m.joint.disk (cloak_outside m.joint.memory (hart_of_step m))).answer.ending

-- The kernel asks to resume a context.
pub record AsksToResume (m : Moment) (ctx : ℕ) : Type 0 where
  pub answer : ℕ
  pub outside : (hart_of_step m).inside ≡ None
  pub asks : kernel_ending m ≡ kernel.Resume ctx answer

-- the context of a number, if there is one
abbrev pub context_running : Joint → ℕ → Option Context
context_running j ctx =
    option_and_then (λ d. context_at d.control.contexts (slot_of ctx)) (slice_get j.domains (domain_of ctx))

-- a context is there, and runs on no hart
abbrev pub can_run : Option Context → Bool
can_run None = false
can_run (Some c) = is_none c.on

-- It cannot run: there is none, or it runs on a hart.
pub record PresentsContext (m : Moment) (ctx : ℕ) : Type 0 where
  pub asks : AsksToResume m ctx
  pub cannot : can_run (context_running m.joint ctx) ≡ false

-- the page table of the hart after the kernel's step
abbrev pub presented_root : Moment → ℕ
presented_root m = satp_of (hart_in (step_before_end m).joint (next_hart m)).csrs

-- It can run, but the hart has another page table than the one recorded of its space.
pub record PresentsMapping (m : Moment) (ctx root : ℕ) : Type 0 where
  pub asks : AsksToResume m ctx
  pub context : Context
  pub there : context_running m.joint ctx ≡ Some context
  pub rests : context.on ≡ None
  pub presented : root ≡ presented_root m
  -- the page table that the context's space was first resumed with
  pub first : ℕ
  pub recorded : m.joint.memory.ledger.root (record { domain = domain_of ctx; number = context.space }) ≡ Some first
  pub other : first ≢ root

-- What the kernel's side presents in the next step instead of what is recorded.
abbrev pub Presents : Moment → Violation → Type 0
Presents m (violation.Page q frame) = PresentsPage m q frame.0
Presents m (violation.Context ctx) = PresentsContext m ctx
Presents m (violation.Mapping ctx root) = PresentsMapping m ctx root

-- As a step leaves it, before a domain ends.

-- where the page table of a hart leads a program's access, in RAM as the kernel sees it
abbrev pub table_leads : Hart → List (List ℕ) → Kind → ℕ → Walk
table_leads h ram kind va =
    walk ram (satp_of h.csrs) (record { mode = U; sum = sum_of h.csrs; mxr = mxr_of h.csrs; va = va; kind = kind })

-- A page was presented, which is of the context's program: in the memory that the step leaves, the page table still leads
-- by the same walk to the frame, and this still differs from what is recorded of the page.
pub record PageIsLeft (m : Moment) (q : PageId) (f : ℕ) (p : PresentsPage m q f) : Type 0 where
  pub own : q.domain ≡ domain_of p.step.ctx
  pub leads : table_leads (ticked (hart_of_step m)) (step_before_end m).joint.memory.ram p.kind p.va
      ≡ Ok p.finds.walked
  pub differs : Differs q f (step_before_end m).joint.memory

abbrev pub IsLeft : (m : Moment) (v : Violation) → Presents m v → Type 0
IsLeft m (violation.Page q frame) presents = PageIsLeft m q frame.0 presents
IsLeft m (violation.Context ctx) presents = Unit {0}
IsLeft m (violation.Mapping ctx root) presents = Unit {0}

-- The step after the first n of a run presents it, and leaves it so.
pub record StepPresents (b : Bundle) (r : Run) (n : ℕ) (v : Violation) : Type 0 where
  pub within : n < length r.turns
  pub presents : Presents (moment_at b r n) v
  pub left : IsLeft (moment_at b r n) v presents

-- A step meets a violation only if it is presented in it.
abbrev pub ViolationHasCause : Type 0
ViolationHasCause =
    (b : Bundle) (from : Beginning) (budget : ℕ) (r : Run) → run_from b from budget ≡ Ok r → (n : ℕ) →
    n < length r.turns → (v : Violation) → (joint_step (moment_at b r n)).violation ≡ Some v → StepPresents b r n v

-- What a step does that meets a violation, from machine j to j'.

-- The domain of the violation had not ended, and ends by it: that is listed. No other domain changes, nor what is
-- listed of another, nor the count.
pub record EndsBy (j j' : Joint) (v : Violation) : Type 0 where
  pub domain : Domain
  pub there : slice_get j.domains (domain_met v) ≡ Some domain
  pub not_ended : domain.control.ended ≡ false
  pub domains : j'.domains ≡ slice_set j.domains (domain_met v) (ended_domain domain)
  pub listed : j'.ended ≡ slice_set j.ended (domain_met v) (Some v)
  -- an image has at most four programs, and the list a place for each
  pub entry : domain_met v < 4 → slice_get j'.ended (domain_met v) ≡ Some (Some v)
  pub refused : j'.refused ≡ j.refused

-- There is no such domain, or it has ended: one more is counted, up to 2^64 - 1. No domain changes, nor the list.
pub record CountsRefused (j j' : Joint) (v : Violation) : Type 0 where
  pub none : (domain : Domain) → slice_get j.domains (domain_met v) ≡ Some domain → domain.control.ended ≡ true
  pub counted : j'.refused ≡ min (j.refused + 1) (2 ^ 64 - 1)
  pub domains : j'.domains ≡ j.domains
  pub listed : j'.ended ≡ j.ended

-- If one is presented, the step meets it, and does one or the other.
pub record EndsOrRefuses (m : Moment) (v : Violation) : Type 0 where
  pub met : (joint_step m).violation ≡ Some v
  pub does : EndsBy m.joint (joint_step m).joint v ⊎ CountsRefused m.joint (joint_step m).joint v

abbrev pub RefusesPresented : Bundle → Run → Type 0
RefusesPresented b r =
    (n : ℕ) → n < length r.turns → (v : Violation) → Presents (moment_at b r n) v → EndsOrRefuses (moment_at b r n) v

abbrev pub PresentedIsRefused : Type 0
PresentedIsRefused =
    (b : Bundle) (from : Beginning) (budget : ℕ) (r : Run) → run_from b from budget ≡ Ok r → RefusesPresented b r

-- A domain that is listed as a run is closed ended in a step that presented what is listed, of which it is the domain.
pub record EndIsPresented (b : Bundle) (r : Run) (d : ℕ) (v : Violation) : Type 0 where
  pub before : ℕ
  pub own : domain_met v ≡ d
  pub presents : StepPresents b r before v
  pub ends : EndsBy (moment_at b r before).joint (joint_step (moment_at b r before)).joint v

abbrev pub EndsArePresented : Bundle → Run → Type 0
EndsArePresented b r =
    (d : ℕ) (v : Violation) → slice_get r.closed.joint.ended d ≡ Some (Some v) → EndIsPresented b r d v

abbrev pub EndHasCause : Type 0
EndHasCause =
    (b : Bundle) (from : Beginning) (budget : ℕ) (r : Run) → run_from b from budget ≡ Ok r → EndsArePresented b r

-- Listed are exactly those that have ended, of the four domains that an image may have.
abbrev pub ListedHaveEnded : Type 0
ListedHaveEnded =
    (b : Bundle) (from : Beginning) (budget : ℕ) (r : Run) → run_from b from budget ≡ Ok r → (d : ℕ)
    (domain : Domain) → d < 4 → slice_get r.closed.joint.domains d ≡ Some domain →
    domain.control.ended ≡ is_some (slice_index_or r.closed.joint.ended d None)

-- And if any are counted, a step of the run presented what it counted.
pub record CountIsPresented (b : Bundle) (r : Run) : Type 0 where
  pub before : ℕ
  pub violates : Violation
  pub presents : StepPresents b r before violates
  pub counts : CountsRefused (moment_at b r before).joint (joint_step (moment_at b r before)).joint violates

abbrev pub CountHasCause : Type 0
CountHasCause =
    (b : Bundle) (from : Beginning) (budget : ℕ) (r : Run) → run_from b from budget ≡ Ok r →
    0 < r.closed.joint.refused → CountIsPresented b r

-- Pages are asked for in the middle of a step, at most twice, and in no other way than by this question.

-- A question was stopped, with the violation that names this page and this frame.
pub record QuestionIsRefused (q : PageId) (f : ℕ) (told : Told Answer) : Type 0 where
  pub answer : told.answer ≡ answer.Stopped
  pub violation : violation_of told.world ≡ Some (violation.Page q (record { 0 = f }))

-- A program asks for its page q at an address, in any memory, and it is found there in another frame: the question is
-- stopped so.
abbrev pub PageIsRefused : Type 0
PageIsRefused =
    (q : PageId) (va : ℕ) (kind : Kind) (f : ℕ) (c : MidStep) → FindsOther q va kind f c →
    QuestionIsRefused q f (ask_reach q va kind (Cloaked c))

-- A question of a program was stopped: after that item the step writes that the domain ended, or a draw was missing
-- and the run stops.
abbrev pub EndsOrStops : ℕ → Turn → List Item → Type 0
EndsOrStops d t after = Contains after (item.Ended d) ⊎ (stop_of t ≡ Some stop.NoRandom)

abbrev pub StoppedEnds : Type 0
StoppedEnds =
    (b : Bundle) (from : Beginning) (budget : ℕ) (r : Run) → run_from b from budget ≡ Ok r → (n : ℕ) →
    n < length r.turns → (d : ℕ) (before after : List Item) →
    (joint_step (moment_at b r n)).items ≡ before ++ item.Stopped d ∷ after →
    EndsOrStops d (joint_step (moment_at b r n)) after
