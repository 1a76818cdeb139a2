-- A step of the joint run keeps the size of the disk.
use Rattle.std.proofs.Common.{◌≡◌, ◌∙◌, ℕ, Bool, true, false, List, [], ◌∷◌, length, slice_get, Option, Some, None, Result, Ok, Err, refl, sym, ap, subst}
use Rattle.cloak_base.specs.declared.causes.Violation.{Violation}
use Rattle.cloak_model.specs.declared.context.ResumeFault.{ResumeFault}
use Rattle.cloak_model.specs.declared.inside.Went.{Went}
use Rattle.cloak_model.specs.declared.inside.Went.TheVariants as went
use Rattle.cloak_model.specs.Items.{Item}
use Rattle.cloak_model.specs.declared.outcome.Kernel.{Kernel}
use Rattle.cloak_model.specs.declared.outcome.Kernel.TheVariants.{Resume}
use Rattle.cloak_model.specs.Ahead.{made_after, settle_touched, settled_step, with_shown}
use Rattle.cloak_model.specs.Cloaking.{CloakedMemory, seen_in}
use Rattle.cloak_model.specs.Contexts.{Admitted, domain_of, slot_of}
use Rattle.cloak_model.specs.DomainState.{Control, Domain}
use Rattle.cloak_model.specs.Hart.{Hart}
use Rattle.cloak_model.specs.Joint.{Moment, Turn, after_domain_step, after_interrupt, after_kernel_step, after_outside, answers_violation, by_interrupt, by_running, cloak_outside, domain_ended, domain_met, end_domain, ends_asked, ends_once, ends_resumed, hart_in, inside_step, interrupt_ended, joint_step, next_hart, outside_ended, outside_step, step_before_end, turn_of}
use Rattle.cloak_model.specs.KernelStep.{ticked}
use Rattle.cloak_model.specs.Memory.{Seen, filled}
use Rattle.cloak_model.specs.Parts.{Joint}
use Rattle.cloak_model.specs.Resuming.{resume}
use Rattle.cloak_model.proofs.ResumeParts.{by_context, by_domain, by_root}
use Rattle.cloak_model.specs.World.{World, MidStep, items_of}
use Rattle.settling_ahead.proofs.Laws.{shown_touched}
use Rattle.reservation_law.proofs.Keeping.{AreWhole, whole_set}
use Rattle.reservation_law.proofs.Sizes.{ArePages, IsChained, touched_pages}
use Rattle.disk_law.proofs.Plain.{kernel_step_keeps}

-- A resuming leaves the disk.

root_leaves : (j : Joint) (satp ctx reply : ℕ) (was : Domain) (k : Control) (admitted : Admitted)
    (a : Result (Unit {0}) ResumeFault) → (by_root j satp ctx reply was k admitted a).joint.disk ≡ j.disk
unfolding by_root
root_leaves j satp ctx reply was k admitted (Err f) = refl
root_leaves j satp ctx reply was k admitted (Ok done) = refl

context_leaves : (j : Joint) (satp ctx reply : ℕ) (was : Domain) (k : Control) (a : Result (Unit {0}) ResumeFault) →
    (by_context j satp ctx reply was k a).joint.disk ≡ j.disk
unfolding by_context
context_leaves j satp ctx reply was k (Err f) = refl
context_leaves j satp ctx reply was k (Ok done) = root_leaves j satp ctx reply was k _ _

domain_leaves : (j : Joint) (hart satp ctx reply : ℕ) (was : Option Domain) →
    (by_domain j hart satp ctx reply was).joint.disk ≡ j.disk
unfolding by_domain
domain_leaves j hart satp ctx reply None = refl
domain_leaves j hart satp ctx reply (Some was) = context_leaves j satp ctx reply was _ _

resume_leaves : (j : Joint) (hart satp ctx reply : ℕ) → (resume j hart satp ctx reply).joint.disk ≡ j.disk
unfolding resume by_domain by_context by_root
resume_leaves j hart satp ctx reply = domain_leaves j hart satp ctx reply _

-- A hart outside.

ended_leaves : (j : Joint) (number : ℕ) (items : List Item) (k : Kernel) →
    (outside_ended j number items k).joint.disk ≡ j.disk
unfolding outside_ended
ended_leaves j number items (Resume ctx answer) = resume_leaves j number _ ctx answer
ended_leaves j number items _ = refl

-- frames that were shown pages have their bytes
shown_whole : (ciphers : List (ℕ × List ℕ)) (s : Seen) → ArePages ciphers → AreWhole s.ram →
    AreWhole (with_shown ciphers s).ram
shown_whole [] s pages whole = whole
shown_whole (c ∷ ciphers) s pages whole =
    shown_whole ciphers (filled c.0 c.1 s) pages.1 (whole_set s.ram c.0 c.1 (λ there. pages.0) whole)

settled_whole : (h : Hart) (disk : List ℕ) (m : CloakedMemory) → AreWhole m.ram → IsChained m →
    AreWhole (seen_in (settle_touched h disk m).memory).ram
settled_whole h disk m whole chained =
    subst (λ (s : Seen). AreWhole s.ram) (sym (shown_touched h disk m))
    (shown_whole (settle_touched h disk m).ciphers (seen_in m) (touched_pages h disk m chained) whole)

settled_keeps : (h : Hart) (disk : List ℕ) (c : MidStep) → AreWhole c.memory.ram → IsChained c.memory →
    length (settled_step h disk c).answer.disk ≡ length disk
unfolding settled_step made_after
settled_keeps h disk c whole chained =
    kernel_step_keeps h disk (seen_in (settle_touched h disk c.memory).memory)
    (settled_whole h disk c.memory whole chained)

outside_keeps : (j : Joint) (number : ℕ) (h : Hart) → AreWhole j.memory.ram → IsChained j.memory →
    length (outside_step j number h).joint.disk ≡ length j.disk
unfolding outside_step after_outside
outside_keeps j number h whole chained =
    let told = settled_step h j.disk (cloak_outside j.memory h) in
    ap (λ (disk : List ℕ). length disk)
    (ended_leaves (after_kernel_step j number told) number (items_of told.world) told.answer.ending)
    ∙ settled_keeps h j.disk (cloak_outside j.memory h) whole chained

-- A hart inside leaves it.

interrupt_leaves : (j : Joint) (number : ℕ) (h : Hart) (items : List Item) (ended : Went) →
    (interrupt_ended j number h items ended).joint.disk ≡ j.disk
unfolding interrupt_ended
interrupt_leaves j number h items went.Stay = refl
interrupt_leaves j number h items _ = refl

stepped_leaves : (j : Joint) (number : ℕ) (h : Hart) (d : ℕ) (w : World) (ended : Went) →
    (domain_ended j number h d w ended).joint.disk ≡ j.disk
unfolding domain_ended
stepped_leaves j number h d w went.Stay = refl
stepped_leaves j number h d w _ = refl

due_leaves : (due : Bool) (j : Joint) (number : ℕ) (h : Hart) (d slot : ℕ) (was : Domain) →
    (by_interrupt due j number h d slot was).joint.disk ≡ j.disk
unfolding by_interrupt after_interrupt after_domain_step
due_leaves true j number h d slot was = interrupt_leaves _ number h _ _
due_leaves false j number h d slot was = stepped_leaves _ number h d _ _

running_leaves : (runs : Bool) (j : Joint) (number : ℕ) (h : Hart) (ctx : ℕ) (was : Domain) →
    (by_running runs j number h ctx was).joint.disk ≡ j.disk
unfolding by_running
running_leaves false j number h ctx was = refl
running_leaves true j number h ctx was = due_leaves _ j number h (domain_of ctx) (slot_of ctx) was

inside_leaves : (j : Joint) (number : ℕ) (h : Hart) (ctx : ℕ) (was : Option Domain) →
    (inside_step j number h ctx was).joint.disk ≡ j.disk
unfolding inside_step
inside_leaves j number h ctx None = refl
inside_leaves j number h ctx (Some was) = running_leaves _ j number h ctx was

-- A step.

turn_keeps : (j : Joint) (number : ℕ) (h : Hart) (inside : Option ℕ) → AreWhole j.memory.ram → IsChained j.memory →
    length (turn_of j number h inside).joint.disk ≡ length j.disk
unfolding turn_of
turn_keeps j number h None whole chained = outside_keeps j number h whole chained
turn_keeps j number h (Some ctx) whole chained =
    ap (λ (disk : List ℕ). length disk)
    (inside_leaves j number (ticked h) ctx (slice_get j.domains (domain_of ctx)))

-- the end of a domain leaves it

end_leaves : (d : ℕ) (domain : Domain) (v : Violation) (t : Turn) → (end_domain d domain v t).joint.disk ≡ t.joint.disk
unfolding end_domain
end_leaves d domain v t = refl

once_leaves : (over : Bool) (d : ℕ) (domain : Domain) (v : Violation) (t : Turn) →
    (ends_once over d domain v t).joint.disk ≡ t.joint.disk
unfolding ends_once
once_leaves true d domain v t = refl
once_leaves false d domain v t = end_leaves d domain v t

resumed_leaves : (found : Option Domain) (d : ℕ) (v : Violation) (t : Turn) →
    (ends_resumed found d v t).joint.disk ≡ t.joint.disk
unfolding ends_resumed
resumed_leaves None d v t = refl
resumed_leaves (Some domain) d v t = once_leaves _ d domain v t

asked_leaves : (found : Option Domain) (d : ℕ) (v : Violation) (t : Turn) →
    (ends_asked found d v t).joint.disk ≡ t.joint.disk
unfolding ends_asked
asked_leaves None d v t = refl
asked_leaves (Some domain) d v t = end_leaves d domain v t

answered_leaves : (inside : Option ℕ) (o : Option Violation) (t : Turn) →
    (answers_violation inside o t).joint.disk ≡ t.joint.disk
unfolding answers_violation
answered_leaves inside None t = refl
answered_leaves None (Some v) t = resumed_leaves _ (domain_met v) v t
answered_leaves (Some ctx) (Some v) t = asked_leaves _ (domain_of ctx) v t

pub step_keeps : (m : Moment) → AreWhole m.joint.memory.ram → IsChained m.joint.memory →
    length (joint_step m).joint.disk ≡ length m.joint.disk
unfolding joint_step
step_keeps m whole chained =
    let h = hart_in m.joint (next_hart m) in
    ap (λ (disk : List ℕ). length disk) (answered_leaves h.inside _ (step_before_end m))
    ∙ turn_keeps m.joint (next_hart m) h h.inside whole chained
