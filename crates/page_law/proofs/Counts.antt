-- A step of the joint run leaves as many programs as there were.
use Rattle.std.proofs.Common.{◌≡◌, ◌∙◌, ℕ, Bool, true, false, List, length, Option, Some, None, Result, Ok, Err, refl}
use Rattle.std.proofs.lemmas.List.{length-set}
use Rattle.cloak_base.specs.declared.causes.Violation.{Violation}
use Rattle.cloak_model.specs.declared.context.ResumeFault.{ResumeFault}
use Rattle.cloak_model.specs.declared.inside.Went.{Went}
use Rattle.cloak_model.specs.declared.inside.Went.TheVariants as went
use Rattle.cloak_model.specs.Items.{Item}
use Rattle.cloak_model.specs.declared.outcome.Kernel.{Kernel}
use Rattle.cloak_model.specs.declared.outcome.Kernel.TheVariants.{Resume}
use Rattle.cloak_model.specs.Asking.{Told}
use Rattle.cloak_model.specs.Contexts.{Admitted, domain_of, slot_of}
use Rattle.cloak_model.specs.DomainState.{Control, Domain}
use Rattle.cloak_model.specs.DomainStep.{DomainStepped}
use Rattle.cloak_model.specs.Hart.{Hart}
use Rattle.cloak_model.specs.Joint.{Moment, Turn, next_hart, hart_in, outside_ended, after_outside, outside_step, domain_ended, after_domain_step, interrupt_ended, after_interrupt, by_interrupt, by_running, inside_step, turn_of, end_domain, ends_once, ends_resumed, ends_asked, answers_violation, joint_step}
use Rattle.cloak_model.specs.KernelStep.{ticked}
use Rattle.cloak_model.specs.Parts.{Joint}
use Rattle.cloak_model.specs.Resuming.{resume}
use Rattle.cloak_model.proofs.ResumeParts.{by_root, by_context, by_domain}
use Rattle.cloak_model.specs.World.{World}

abbrev KeepsCount : Joint → Joint → Type 0
KeepsCount j j' = length j'.domains ≡ length j.domains

-- A hart outside.

root_counts : (j : Joint) (satp ctx reply : ℕ) (d : Domain) (control : Control) (a : Admitted)
    (answer : Result (Unit {0}) ResumeFault) → KeepsCount j (by_root j satp ctx reply d control a answer).joint
unfolding by_root
root_counts j satp ctx reply d control a (Err fault) = refl
root_counts j satp ctx reply d control a (Ok done) = length-set j.domains (domain_of ctx) _

context_counts : (j : Joint) (satp ctx reply : ℕ) (d : Domain) (control : Control)
    (answer : Result (Unit {0}) ResumeFault) → KeepsCount j (by_context j satp ctx reply d control answer).joint
unfolding by_context
context_counts j satp ctx reply d control (Err fault) = refl
context_counts j satp ctx reply d control (Ok done) = root_counts j satp ctx reply d control _ _

domain_counts : (j : Joint) (hart satp ctx reply : ℕ) (found : Option Domain) →
    KeepsCount j (by_domain j hart satp ctx reply found).joint
unfolding by_domain
domain_counts j hart satp ctx reply None = refl
domain_counts j hart satp ctx reply (Some d) = context_counts j satp ctx reply d _ _

resume_counts : (j : Joint) (hart satp ctx reply : ℕ) → KeepsCount j (resume j hart satp ctx reply).joint
unfolding resume by_domain by_context by_root
resume_counts j hart satp ctx reply = domain_counts j hart satp ctx reply _

ended_counts : (j : Joint) (number : ℕ) (items : List Item) (k : Kernel) →
    KeepsCount j (outside_ended j number items k).joint
unfolding outside_ended
ended_counts j number items (Resume ctx answer) = resume_counts j number _ ctx answer
ended_counts j number items _ = refl

outside_counts : (j : Joint) (number : ℕ) (h : Hart) → KeepsCount j (outside_step j number h).joint
unfolding outside_step after_outside
outside_counts j number h = ended_counts _ number _ _

-- A hart inside.

went_counts : (j : Joint) (number : ℕ) (h : Hart) (d : ℕ) (w : World) (how : Went) →
    KeepsCount j (domain_ended j number h d w how).joint
unfolding domain_ended
went_counts j number h d w went.Stay = refl
went_counts j number h d w _ = refl

told_counts : (j : Joint) (number : ℕ) (h : Hart) (d : ℕ) (told : Told DomainStepped) →
    KeepsCount j (after_domain_step j number h d told).joint
unfolding after_domain_step
told_counts j number h d told =
    went_counts _ number h d told.world told.answer.went ∙ length-set j.domains d told.answer.domain

interrupted_counts : (j : Joint) (number : ℕ) (h : Hart) (items : List Item) (how : Went) →
    KeepsCount j (interrupt_ended j number h items how).joint
unfolding interrupt_ended
interrupted_counts j number h items went.Stay = refl
interrupted_counts j number h items _ = refl

due_counts : (due : Bool) (j : Joint) (number : ℕ) (h : Hart) (d slot : ℕ) (was : Domain) →
    KeepsCount j (by_interrupt due j number h d slot was).joint
unfolding by_interrupt after_interrupt
due_counts true j number h d slot was = interrupted_counts _ number h _ _ ∙ length-set j.domains d _
due_counts false j number h d slot was = told_counts j number h d _

running_counts : (runs : Bool) (j : Joint) (number : ℕ) (h : Hart) (ctx : ℕ) (was : Domain) →
    KeepsCount j (by_running runs j number h ctx was).joint
unfolding by_running
running_counts false j number h ctx was = refl
running_counts true j number h ctx was = due_counts _ j number h (domain_of ctx) (slot_of ctx) was

inside_counts : (j : Joint) (number : ℕ) (h : Hart) (ctx : ℕ) (found : Option Domain) →
    KeepsCount j (inside_step j number h ctx found).joint
unfolding inside_step
inside_counts j number h ctx None = refl
inside_counts j number h ctx (Some was) = running_counts _ j number h ctx was

turn_counts : (j : Joint) (number : ℕ) (h : Hart) (inside : Option ℕ) →
    KeepsCount j (turn_of j number h inside).joint
unfolding turn_of
turn_counts j number h None = outside_counts j number h
turn_counts j number h (Some ctx) = inside_counts j number (ticked h) ctx _

-- The end of a domain.

end_counts : (d : ℕ) (was : Domain) (v : Violation) (t : Turn) → KeepsCount t.joint (end_domain d was v t).joint
unfolding end_domain
end_counts d was v t = length-set t.joint.domains d _

once_counts : (over : Bool) (d : ℕ) (was : Domain) (v : Violation) (t : Turn) →
    KeepsCount t.joint (ends_once over d was v t).joint
unfolding ends_once
once_counts true d was v t = refl
once_counts false d was v t = end_counts d was v t

resumed_counts : (found : Option Domain) (d : ℕ) (v : Violation) (t : Turn) →
    KeepsCount t.joint (ends_resumed found d v t).joint
unfolding ends_resumed
resumed_counts None d v t = refl
resumed_counts (Some was) d v t = once_counts _ d was v t

asked_counts : (found : Option Domain) (d : ℕ) (v : Violation) (t : Turn) →
    KeepsCount t.joint (ends_asked found d v t).joint
unfolding ends_asked
asked_counts None d v t = refl
asked_counts (Some was) d v t = end_counts d was v t

answers_count : (inside : Option ℕ) (met : Option Violation) (t : Turn) →
    KeepsCount t.joint (answers_violation inside met t).joint
unfolding answers_violation
answers_count inside None t = refl
answers_count None (Some v) t = resumed_counts _ _ v t
answers_count (Some ctx) (Some v) t = asked_counts _ _ v t

pub step_counts : (m : Moment) → KeepsCount m.joint (joint_step m).joint
unfolding joint_step
step_counts m =
    let h = hart_in m.joint (next_hart m) in
    answers_count h.inside _ (turn_of m.joint (next_hart m) h h.inside) ∙ turn_counts m.joint (next_hart m) h h.inside
