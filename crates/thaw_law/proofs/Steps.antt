-- A step of the joint machine after any past.
use Rattle.std.proofs.Common.{◌≡◌, ◌∙◌, ℕ, Bool, true, false, List, [], ◌∷◌, ◌++◌, slice_get, Option, Some, None, option_map, Result, Ok, Err, refl, ap, append_assoc}
use Rattle.cloak_base.specs.declared.causes.Violation.{Violation}
use Rattle.cloak_model.specs.declared.context.ResumeFault.{ResumeFault}
use Rattle.cloak_model.specs.declared.inside.Went.{Went}
use Rattle.cloak_model.specs.declared.inside.Went.TheVariants as went
use Rattle.cloak_model.specs.Items.{Item}
use Rattle.cloak_model.specs.Items as item
use Rattle.cloak_model.specs.declared.outcome.Kernel.{Kernel}
use Rattle.cloak_model.specs.declared.outcome.Kernel.TheVariants.{Put, Resume}
use Rattle.cloak_model.specs.Ahead.{settled_step}
use Rattle.cloak_model.specs.Asking.{Told}
use Rattle.cloak_model.specs.Contexts.{Admitted, context_at, domain_of, slot_of}
use Rattle.cloak_model.specs.Csr.{satp_of, interrupt_due}
use Rattle.cloak_model.specs.DomainState.{Control, Domain}
use Rattle.cloak_model.specs.DomainStep.{DomainStepped, domain_step, interrupt}
use Rattle.cloak_model.specs.Ending.{ended_domain}
use Rattle.cloak_model.specs.Hart.{Hart}
use Rattle.cloak_model.specs.Joint.{Moment, Turn, quiet, next_hart, hart_in, cloak_of, cloak_outside, memory_of, after_kernel_step, outside_ended, after_outside, outside_step, domain_ended, with_domain, after_domain_step, pages_for, interrupt_ended, after_interrupt, by_interrupt, by_running, inside_step, turn_of, domain_met, end_domain, ends_once, ends_resumed, ends_asked, answers_violation, joint_step}
use Rattle.cloak_model.specs.KernelStep.{ticked}
use Rattle.cloak_model.specs.Parts.{Joint}
use Rattle.cloak_model.specs.Resuming.{AfterResume, resume}
use Rattle.cloak_model.proofs.ResumeParts.{with_roots, by_root, by_context, by_domain}
use Rattle.cloak_model.specs.World.{World, Cloaked, items_of}
use Rattle.thaw_law.specs.Past.{PastLoads, with_loads_before, with_past, moment_with_past, turn_with_past}
use Rattle.thaw_law.proofs.Programs.{past_at, get_with_loads, set_with_loads, told_after, domain_step_after}

module _ (console : List ℕ) (loads : List PastLoads) where
  abbrev after : Joint → Joint
  after j = with_past console loads j

  abbrev turn_after : Turn → Turn
  turn_after t = turn_with_past console loads t

  abbrev resumed_after : AfterResume → AfterResume
  resumed_after r = record r { joint = after r.joint }

  -- the program d after its past
  abbrev program_after : ℕ → Domain → Domain
  program_after d was = with_loads_before (past_at loads d) was

  -- Resuming.

  root_after : (j : Joint) (satp ctx reply : ℕ) (was : Domain) (control : Control) (admitted : Admitted)
      (answer : Result (Unit {0}) ResumeFault) →
      by_root (after j) satp ctx reply (program_after (domain_of ctx) was) control admitted answer
      ≡ resumed_after (by_root j satp ctx reply was control admitted answer)
  unfolding by_root
  root_after j satp ctx reply was control admitted (Err fault) = refl
  root_after j satp ctx reply was control admitted (Ok done) =
      ap (λ (domains : List Domain). let r : AfterResume = record {
        joint = record (after j) { domains = domains; memory = with_roots admitted.root j.memory };
        items = item.Resume (domain_of ctx) ctx reply ∷ [];
        violation = None;
      } in r) (set_with_loads loads j.domains (domain_of ctx) (record was { control = control }))

  context_after : (j : Joint) (satp ctx reply : ℕ) (was : Domain) (control : Control)
      (answer : Result (Unit {0}) ResumeFault) →
      by_context (after j) satp ctx reply (program_after (domain_of ctx) was) control answer
      ≡ resumed_after (by_context j satp ctx reply was control answer)
  unfolding by_context
  context_after j satp ctx reply was control (Err fault) = refl
  context_after j satp ctx reply was control (Ok done) = root_after j satp ctx reply was control _ _

  domain_after : (j : Joint) (hart satp ctx reply : ℕ) (found : Option Domain) →
      by_domain (after j) hart satp ctx reply (option_map (program_after (domain_of ctx)) found)
      ≡ resumed_after (by_domain j hart satp ctx reply found)
  unfolding by_domain
  domain_after j hart satp ctx reply None = refl
  domain_after j hart satp ctx reply (Some was) = context_after j satp ctx reply was _ _

  resume_after : (j : Joint) (hart satp ctx reply : ℕ) →
      resume (after j) hart satp ctx reply ≡ resumed_after (resume j hart satp ctx reply)
  unfolding resume by_domain by_context by_root
  resume_after j hart satp ctx reply =
      ap (by_domain (after j) hart satp ctx reply) (get_with_loads loads j.domains (domain_of ctx))
      ∙ domain_after j hart satp ctx reply (slice_get j.domains (domain_of ctx))

  -- A hart outside.

  ended_after : (j : Joint) (number : ℕ) (items : List Item) (e : Kernel) →
      outside_ended (after j) number items e ≡ turn_after (outside_ended j number items e)
  unfolding outside_ended
  ended_after j number items (Put b) =
      ap (λ (shown : List ℕ). let t : Turn =
      record (quiet (record (after j) { console = shown }) items) { console = b ∷ [] } in t)
      (append_assoc console j.console (b ∷ []))
  ended_after j number items (Resume ctx answer) =
      ap (λ (r : AfterResume). let t : Turn =
      record (quiet r.joint (items ++ r.items)) { violation = r.violation } in t)
      (resume_after j number (satp_of (hart_in j number).csrs) ctx answer)
  ended_after j number items _ = refl

  outside_after : (j : Joint) (number : ℕ) (h : Hart) →
      outside_step (after j) number h ≡ turn_after (outside_step j number h)
  unfolding outside_step after_outside
  outside_after j number h =
      let told = settled_step h j.disk (cloak_outside j.memory h) in
      ended_after (after_kernel_step j number told) number (items_of told.world) told.answer.ending

  -- A hart inside.

  went_after : (j : Joint) (number : ℕ) (h : Hart) (d : ℕ) (w : World) (how : Went) →
      domain_ended (after j) number h d w how ≡ turn_after (domain_ended j number h d w how)
  unfolding domain_ended
  went_after j number h d w went.Stay = refl
  went_after j number h d w _ = refl

  stepped_after : (j : Joint) (number : ℕ) (h : Hart) (d : ℕ) (told : Told DomainStepped) →
      after_domain_step (after j) number h d (told_after (past_at loads d) told)
      ≡ turn_after (after_domain_step j number h d told)
  unfolding after_domain_step
  stepped_after j number h d told =
      let memory = memory_of told.world j.memory in
      let now = record (with_domain d told.answer.domain j) { memory = memory } in
      ap (λ (domains : List Domain).
      domain_ended (record (after j) { domains = domains; memory = memory }) number h d told.world told.answer.went)
      (set_with_loads loads j.domains d told.answer.domain)
      ∙ went_after now number h d told.world told.answer.went

  interrupted_after : (j : Joint) (number : ℕ) (h : Hart) (items : List Item) (how : Went) →
      interrupt_ended (after j) number h items how ≡ turn_after (interrupt_ended j number h items how)
  unfolding interrupt_ended
  interrupted_after j number h items went.Stay = refl
  interrupted_after j number h items _ = refl

  due_after : (due : Bool) (j : Joint) (number : ℕ) (h : Hart) (d slot : ℕ) (was : Domain) →
      by_interrupt due (after j) number h d slot (program_after d was)
      ≡ turn_after (by_interrupt due j number h d slot was)
  unfolding by_interrupt after_interrupt
  due_after true j number h d slot was =
      let step = interrupt slot was.control in
      let now : Domain = record was { control = step.control } in
      ap (λ (domains : List Domain).
      interrupt_ended (record (after j) { domains = domains }) number h (item.Timer d ∷ []) step.went)
      (set_with_loads loads j.domains d now)
      ∙ interrupted_after (with_domain d now j) number h (item.Timer d ∷ []) step.went
  due_after false j number h d slot was =
      let w = Cloaked (cloak_of j.memory h d (pages_for was (context_at was.control.contexts slot))) in
      ap (after_domain_step (after j) number h d) (domain_step_after (past_at loads d) slot was w)
      ∙ stepped_after j number h d (domain_step slot was w)

  running_after : (runs : Bool) (j : Joint) (number : ℕ) (h : Hart) (ctx : ℕ) (was : Domain) →
      by_running runs (after j) number h ctx (program_after (domain_of ctx) was)
      ≡ turn_after (by_running runs j number h ctx was)
  unfolding by_running
  running_after false j number h ctx was = refl
  running_after true j number h ctx was =
      due_after (interrupt_due h.mode h.csrs) j number h (domain_of ctx) (slot_of ctx) was

  inside_after : (j : Joint) (number : ℕ) (h : Hart) (ctx : ℕ) (found : Option Domain) →
      inside_step (after j) number h ctx (option_map (program_after (domain_of ctx)) found)
      ≡ turn_after (inside_step j number h ctx found)
  unfolding inside_step
  inside_after j number h ctx None = refl
  inside_after j number h ctx (Some was) = running_after _ j number h ctx was

  turn_of_after : (j : Joint) (number : ℕ) (h : Hart) (inside : Option ℕ) →
      turn_of (after j) number h inside ≡ turn_after (turn_of j number h inside)
  unfolding turn_of
  turn_of_after j number h None = outside_after j number h
  turn_of_after j number h (Some ctx) =
      ap (inside_step (after j) number (ticked h) ctx) (get_with_loads loads j.domains (domain_of ctx))
      ∙ inside_after j number (ticked h) ctx (slice_get j.domains (domain_of ctx))

  -- The end of a program.

  end_after : (d : ℕ) (was : Domain) (v : Violation) (t : Turn) →
      end_domain d (program_after d was) v (turn_after t) ≡ turn_after (end_domain d was v t)
  unfolding end_domain ended_domain
  end_after d was v t =
      let e = end_domain d was v t in
      ap (λ (domains : List Domain). let x : Turn =
      record (turn_after e) { joint = record (after e.joint) { domains = domains } } in x)
      (set_with_loads loads t.joint.domains d (ended_domain was))

  once_after : (over : Bool) (d : ℕ) (was : Domain) (v : Violation) (t : Turn) →
      ends_once over d (program_after d was) v (turn_after t) ≡ turn_after (ends_once over d was v t)
  unfolding ends_once
  once_after true d was v t = refl
  once_after false d was v t = end_after d was v t

  ends_resumed_after : (found : Option Domain) (d : ℕ) (v : Violation) (t : Turn) →
      ends_resumed (option_map (program_after d) found) d v (turn_after t) ≡ turn_after (ends_resumed found d v t)
  unfolding ends_resumed
  ends_resumed_after None d v t = refl
  ends_resumed_after (Some was) d v t = once_after was.control.ended d was v t

  ends_asked_after : (found : Option Domain) (d : ℕ) (v : Violation) (t : Turn) →
      ends_asked (option_map (program_after d) found) d v (turn_after t) ≡ turn_after (ends_asked found d v t)
  unfolding ends_asked
  ends_asked_after None d v t = refl
  ends_asked_after (Some was) d v t = end_after d was v t

  answers_after : (inside : Option ℕ) (met : Option Violation) (t : Turn) →
      answers_violation inside met (turn_after t) ≡ turn_after (answers_violation inside met t)
  unfolding answers_violation
  answers_after inside None t = refl
  answers_after None (Some v) t =
      ap (λ (found : Option Domain). ends_resumed found (domain_met v) v (turn_after t))
      (get_with_loads loads t.joint.domains (domain_met v))
      ∙ ends_resumed_after (slice_get t.joint.domains (domain_met v)) (domain_met v) v t
  answers_after (Some ctx) (Some v) t =
      ap (λ (found : Option Domain). ends_asked found (domain_of ctx) v (turn_after t))
      (get_with_loads loads t.joint.domains (domain_of ctx))
      ∙ ends_asked_after (slice_get t.joint.domains (domain_of ctx)) (domain_of ctx) v t

  pub step_after : (m : Moment) → joint_step (moment_with_past console loads m) ≡ turn_after (joint_step m)
  unfolding joint_step
  step_after m =
      let h = hart_in m.joint (next_hart m) in
      let t = turn_of m.joint (next_hart m) h h.inside in
      ap (λ (x : Turn). answers_violation h.inside x.violation x) (turn_of_after m.joint (next_hart m) h h.inside)
      ∙ answers_after h.inside t.violation t
