-- What programs keep as they step, are interrupted, are resumed and end, they keep over each step of the joint machine.
use Rattle.std.proofs.Common.{◌≡◌, ℕ, zero, suc, ◌<◌, Bool, true, false, List, [], ◌∷◌, slice_get, slice_set, Option, Some, None, IfSome, Result, Ok, Err, subst}
use Rattle.cloak_base.specs.declared.causes.Violation.{Violation}
use Rattle.cloak_model.specs.declared.context.ResumeFault.{ResumeFault}
use Rattle.cloak_model.specs.declared.inside.Went.{Went}
use Rattle.cloak_model.specs.declared.inside.Went.TheVariants as went
use Rattle.cloak_model.specs.Items.{Item}
use Rattle.cloak_model.specs.declared.outcome.Kernel.{Kernel}
use Rattle.cloak_model.specs.declared.outcome.Kernel.TheVariants.{Resume}
use Rattle.cloak_model.specs.Asking.{Told}
use Rattle.cloak_model.specs.Contexts.{Admitted, domain_of, slot_of}
use Rattle.cloak_model.specs.DomainState.{Control, Domain}
use Rattle.cloak_model.specs.DomainStep.{DomainStepped, domain_step, interrupt, resume_slot}
use Rattle.cloak_model.specs.Ending.{ended_domain}
use Rattle.cloak_model.specs.Hart.{Hart}
use Rattle.cloak_model.specs.Hypercalls.{Stepped}
use Rattle.cloak_model.specs.Joint.{Moment, Turn, next_hart, outside_ended, after_outside, outside_step, domain_ended, after_domain_step, interrupt_ended, after_interrupt, by_interrupt, by_running, inside_step, turn_of, end_domain, step_before_end, joint_step}
use Rattle.cloak_model.specs.KernelStep.{ticked}
use Rattle.cloak_model.specs.Parts.{Joint}
use Rattle.cloak_model.specs.Resuming.{resume}
use Rattle.cloak_model.proofs.ResumeParts.{by_root, by_context, by_domain}
use Rattle.cloak_model.specs.World.{World}
use Rattle.limit_law.proofs.Endings.{answers_keep}

abbrev pub AllOf : (Domain → Type 0) → List Domain → Type 0
AllOf Q domains = (d : ℕ) → IfSome (slice_get domains d) Q

-- A program keeps Q, if K is known of it besides.
pub record KeptInside (K Q : Domain → Type 0) : Type 0 where
  pub step : (slot : ℕ) (d : Domain) (w : World) → K d → Q d → Q (domain_step slot d w).answer.domain
  pub interrupted : (slot : ℕ) (d : Domain) → Q d → Q (record d { control = (interrupt slot d.control).control })
  pub resumed : (slot hart reply : ℕ) (d : Domain) → hart < 4 → Q d →
      Q (record d { control = (resume_slot slot hart reply d.control).control })
  pub ended : (d : Domain) → Q d → Q (ended_domain d)

pub set_all : (Q : Domain → Type 0) (domains : List Domain) (i : ℕ) (x : Domain) → AllOf Q domains → Q x →
    AllOf Q (slice_set domains i x)
set_all Q [] i x all here d = tt
set_all Q (y ∷ domains) zero x all here zero = here
set_all Q (y ∷ domains) zero x all here (suc d) = all (suc d)
set_all Q (y ∷ domains) (suc i) x all here zero = all zero
set_all Q (y ∷ domains) (suc i) x all here (suc d) = set_all Q domains i x (λ k. all (suc k)) here d

pub all_at : (Q : Domain → Type 0) (domains : List Domain) (d : ℕ) (x : Domain) → slice_get domains d ≡ Some x →
    AllOf Q domains → Q x
all_at Q domains d x is all = subst (λ (o : Option Domain). IfSome o Q) is (all d)

module _ (K Q : Domain → Type 0) (k : KeptInside K Q) where
  -- Resuming.

  root_all : (j : Joint) (satp ctx reply : ℕ) (was : Domain) (control : Control) (admitted : Admitted)
      (answer : Result (Unit {0}) ResumeFault) → AllOf Q j.domains → Q (record was { control = control }) →
      AllOf Q (by_root j satp ctx reply was control admitted answer).joint.domains
  unfolding by_root
  root_all j satp ctx reply was control admitted (Err fault) all here = all
  root_all j satp ctx reply was control admitted (Ok done) all here =
      set_all Q j.domains (domain_of ctx) (record was { control = control }) all here

  context_all : (j : Joint) (satp ctx reply : ℕ) (was : Domain) (control : Control)
      (answer : Result (Unit {0}) ResumeFault) → AllOf Q j.domains → Q (record was { control = control }) →
      AllOf Q (by_context j satp ctx reply was control answer).joint.domains
  unfolding by_context
  context_all j satp ctx reply was control (Err fault) all here = all
  context_all j satp ctx reply was control (Ok done) all here = root_all j satp ctx reply was control _ _ all here

  domain_all : (j : Joint) (hart satp ctx reply : ℕ) (found : Option Domain) → hart < 4 → AllOf Q j.domains →
      IfSome found Q → AllOf Q (by_domain j hart satp ctx reply found).joint.domains
  unfolding by_domain
  domain_all j hart satp ctx reply None low all here = all
  domain_all j hart satp ctx reply (Some was) low all here =
      context_all j satp ctx reply was _ _ all (k.resumed (slot_of ctx) hart reply was low here)

  resume_all : (j : Joint) (hart satp ctx reply : ℕ) → hart < 4 → AllOf Q j.domains →
      AllOf Q (resume j hart satp ctx reply).joint.domains
  unfolding resume by_domain by_context by_root
  resume_all j hart satp ctx reply low all = domain_all j hart satp ctx reply _ low all (all (domain_of ctx))

  -- A hart outside.

  ended_all : (j : Joint) (number : ℕ) (items : List Item) (e : Kernel) → number < 4 → AllOf Q j.domains →
      AllOf Q (outside_ended j number items e).joint.domains
  unfolding outside_ended
  ended_all j number items (Resume ctx reply) low all = resume_all j number _ ctx reply low all
  ended_all j number items _ low all = all

  outside_all : (j : Joint) (number : ℕ) (h : Hart) → number < 4 → AllOf Q j.domains →
      AllOf Q (outside_step j number h).joint.domains
  unfolding outside_step after_outside
  outside_all j number h low all = ended_all _ number _ _ low all

  -- A hart inside.

  went_all : (j : Joint) (number : ℕ) (h : Hart) (d : ℕ) (w : World) (how : Went) → AllOf Q j.domains →
      AllOf Q (domain_ended j number h d w how).joint.domains
  unfolding domain_ended
  went_all j number h d w went.Stay all = all
  went_all j number h d w _ all = all

  stepped_all : (j : Joint) (number : ℕ) (h : Hart) (d : ℕ) (told : Told DomainStepped) → AllOf Q j.domains →
      Q told.answer.domain → AllOf Q (after_domain_step j number h d told).joint.domains
  unfolding after_domain_step
  stepped_all j number h d told all here =
      went_all _ number h d told.world told.answer.went (set_all Q j.domains d told.answer.domain all here)

  interrupted_all : (j : Joint) (number : ℕ) (h : Hart) (items : List Item) (how : Went) → AllOf Q j.domains →
      AllOf Q (interrupt_ended j number h items how).joint.domains
  unfolding interrupt_ended
  interrupted_all j number h items went.Stay all = all
  interrupted_all j number h items _ all = all

  left_all : (j : Joint) (number : ℕ) (h : Hart) (d : ℕ) (was : Domain) (step : Stepped) → AllOf Q j.domains →
      Q (record was { control = step.control }) → AllOf Q (after_interrupt j number h d was step).joint.domains
  unfolding after_interrupt
  left_all j number h d was step all here =
      interrupted_all _ number h _ step.went (set_all Q j.domains d (record was { control = step.control }) all here)

  due_all : (due : Bool) (j : Joint) (number : ℕ) (h : Hart) (d slot : ℕ) (was : Domain) → AllOf Q j.domains → K was →
      Q was → AllOf Q (by_interrupt due j number h d slot was).joint.domains
  unfolding by_interrupt
  due_all true j number h d slot was all known here = left_all j number h d was _ all (k.interrupted slot was here)
  due_all false j number h d slot was all known here = stepped_all j number h d _ all (k.step slot was _ known here)

  running_all : (runs : Bool) (j : Joint) (number : ℕ) (h : Hart) (ctx : ℕ) (was : Domain) → AllOf Q j.domains → K was →
      Q was → AllOf Q (by_running runs j number h ctx was).joint.domains
  unfolding by_running
  running_all false j number h ctx was all known here = all
  running_all true j number h ctx was all known here =
      due_all _ j number h (domain_of ctx) (slot_of ctx) was all known here

  inside_all : (j : Joint) (number : ℕ) (h : Hart) (ctx : ℕ) (found : Option Domain) → AllOf Q j.domains →
      IfSome found K → IfSome found Q → AllOf Q (inside_step j number h ctx found).joint.domains
  unfolding inside_step
  inside_all j number h ctx None all known here = all
  inside_all j number h ctx (Some was) all known here = running_all _ j number h ctx was all known here

  turn_all : (j : Joint) (number : ℕ) (h : Hart) (inside : Option ℕ) → number < 4 → AllOf K j.domains →
      AllOf Q j.domains → AllOf Q (turn_of j number h inside).joint.domains
  unfolding turn_of
  turn_all j number h None low known all = outside_all j number h low all
  turn_all j number h (Some ctx) low known all =
      inside_all j number (ticked h) ctx _ all (known (domain_of ctx)) (all (domain_of ctx))

  -- A domain ends.

  end_all : (d : ℕ) (was : Domain) (v : Violation) (t : Turn) → slice_get t.joint.domains d ≡ Some was →
      AllOf Q t.joint.domains → AllOf Q (end_domain d was v t).joint.domains
  unfolding end_domain
  end_all d was v t is all =
      set_all Q t.joint.domains d (ended_domain was) all (k.ended was (all_at Q t.joint.domains d was is all))

  pub step_all : (m : Moment) → next_hart m < 4 → AllOf K m.joint.domains → AllOf Q m.joint.domains →
      AllOf Q (joint_step m).joint.domains
  unfolding joint_step
  step_all m low known all =
      answers_keep (λ (j : Joint). AllOf Q j.domains) (λ t here. here) end_all _ _ (step_before_end m)
      (turn_all m.joint (next_hart m) _ _ low known all)
