-- A step that met a violation has changed no page: a resuming changes none, and a program's step meets it with its last
-- question, before it changes one.
use Rattle.std.proofs.Common.{◌≡◌, ◌∙◌, ℕ, suc, Bool, true, false, List, Option, Some, None, Result, Ok, Err, refl, ap, arith}
use Rattle.cloak_base.specs.declared.names.PageId.{PageId}
use Rattle.cloak_model.specs.declared.context.ResumeFault.{ResumeFault}
use Rattle.cloak_model.specs.declared.inside.Went.{Went}
use Rattle.cloak_model.specs.declared.inside.Went.TheVariants as went
use Rattle.cloak_model.specs.Items.{Item}
use Rattle.cloak_model.specs.declared.outcome.Kernel.{Kernel}
use Rattle.cloak_model.specs.declared.outcome.Kernel.TheVariants.{Resume}
use Rattle.cloak_model.specs.Ahead.{settled_step, made_after}
use Rattle.cloak_model.specs.Contexts.{Admitted, domain_of, slot_of}
use Rattle.cloak_model.specs.DomainState.{Control, Domain}
use Rattle.cloak_model.specs.DomainStep.{domain_script, domain_step}
use Rattle.cloak_model.specs.Hart.{Hart}
use Rattle.cloak_model.specs.Joint.{cloak_of, memory_of, outside_ended, after_outside, outside_step, after_domain_step, interrupt_ended, after_interrupt, by_interrupt, by_running, inside_step, turn_of}
use Rattle.cloak_model.specs.KernelStep.{ticked}
use Rattle.cloak_model.specs.Parts.{Joint}
use Rattle.cloak_model.specs.Resuming.{resume}
use Rattle.cloak_model.proofs.ResumeParts.{by_root, by_context, by_domain}
use Rattle.cloak_model.specs.World.{World, Cloaked}
use Rattle.script_fold.proofs.StepScripts.{step_scripted}
use Rattle.domain_isolation.proofs.Steady.{is_cloaked}
use Rattle.page_law.proofs.Settlings.{touched_draws}
use Rattle.std.specs.Prelude.{is_some}
use Rattle.cloak_model.specs.World.{MidStep, violation_of}
use Rattle.script_fold.proofs.StepScripts.{of_domain}
use Rattle.page_law.proofs.Steps.{ends_domain_step}
use Rattle.domain_isolation.proofs.Played.{met_stops}
use Rattle.domain_isolation.proofs.InsideSteps.{ended_met, ended_plain}

-- A hart outside.

root_keeps : (j : Joint) (satp ctx reply : ℕ) (w : Domain) (control : Control) (a : Admitted)
    (answer : Result (Unit {0}) ResumeFault) →
    (by_root j satp ctx reply w control a answer).joint.memory.plain ≡ j.memory.plain
unfolding by_root
root_keeps j satp ctx reply w control a (Err fault) = refl
root_keeps j satp ctx reply w control a (Ok done) = refl

context_keeps : (j : Joint) (satp ctx reply : ℕ) (w : Domain) (control : Control)
    (answer : Result (Unit {0}) ResumeFault) →
    (by_context j satp ctx reply w control answer).joint.memory.plain ≡ j.memory.plain
unfolding by_context
context_keeps j satp ctx reply w control (Err fault) = refl
context_keeps j satp ctx reply w control (Ok done) = root_keeps j satp ctx reply w control _ _

domain_keeps : (j : Joint) (hart satp ctx reply : ℕ) (found : Option Domain) →
    (by_domain j hart satp ctx reply found).joint.memory.plain ≡ j.memory.plain
unfolding by_domain
domain_keeps j hart satp ctx reply None = refl
domain_keeps j hart satp ctx reply (Some w) = context_keeps j satp ctx reply w _ _

resume_keeps : (j : Joint) (hart satp ctx reply : ℕ) →
    (resume j hart satp ctx reply).joint.memory.plain ≡ j.memory.plain
unfolding resume by_domain by_context by_root
resume_keeps j hart satp ctx reply = domain_keeps j hart satp ctx reply _

ended_keeps : (j : Joint) (number : ℕ) (items : List Item) (k : Kernel) →
    (outside_ended j number items k).joint.memory.plain ≡ j.memory.plain
unfolding outside_ended
ended_keeps j number items (Resume ctx answer) = resume_keeps j number _ ctx answer
ended_keeps j number items _ = refl

pub outside_keeps : (j : Joint) (number : ℕ) (h : Hart) → (outside_step j number h).joint.memory.plain ≡ j.memory.plain
unfolding outside_step after_outside settled_step made_after
outside_keeps j number h = ended_keeps _ number _ _ ∙ (touched_draws {count = 0} h j.disk j.memory).plain

-- A hart inside.

interrupt_ended_plain : (j : Joint) (number : ℕ) (h : Hart) (items : List Item) (how : Went) →
    (interrupt_ended j number h items how).joint.memory.plain ≡ j.memory.plain
unfolding interrupt_ended
interrupt_ended_plain j number h items went.Stay = refl
interrupt_ended_plain j number h items _ = refl

told_stopped : (slot : ℕ) (was : Domain) (w : World) → is_cloaked w ≡ true → violation_of w ≡ None →
    is_some (violation_of (domain_step slot was w).world) ≡ true → (domain_step slot was w).answer.went ≡ went.Stopped
unfolding domain_step
told_stopped slot was w form none some =
    let s = step_scripted slot was in
    (met_stops was.control.number (of_domain slot was) (domain_script slot was) s.own w s.ends form none some).stopped

step_calm : (slot : ℕ) (was : Domain) (j : Joint) (number : ℕ) (h : Hart) (e : ℕ) (pages : ℕ → Option PageId) →
    let t = after_domain_step j number h e (domain_step slot was (Cloaked (cloak_of j.memory h e pages))) in
    is_some t.violation ≡ true → t.joint.memory.plain ≡ j.memory.plain
unfolding after_domain_step
step_calm slot was j number h e pages some =
    let c : MidStep = cloak_of j.memory h e pages in
    let t = domain_step slot was (Cloaked c) in
    let stopped = told_stopped slot was (Cloaked c) refl refl (ended_met _ number h e t.world t.answer.went some) in
    let steps = ends_domain_step {count = suc was.control.number} slot was (Cloaked c) (omega arith) in
    let only = (steps.stops stopped).by c refl in
    ended_plain _ number h e t.world t.answer.went
    ∙ (ap (λ (x : World). (memory_of x j.memory).plain) only.ended.is ∙ only.plain)

due_calm : (due : Bool) (j : Joint) (number : ℕ) (h : Hart) (e slot : ℕ) (was : Domain) →
    is_some (by_interrupt due j number h e slot was).violation ≡ true →
    (by_interrupt due j number h e slot was).joint.memory.plain ≡ j.memory.plain
unfolding by_interrupt after_interrupt
due_calm true j number h e slot was some = interrupt_ended_plain _ number h _ _
due_calm false j number h e slot was some = step_calm slot was j number h e _ some

running_calm : (runs : Bool) (j : Joint) (number : ℕ) (h : Hart) (ctx : ℕ) (was : Domain) →
    is_some (by_running runs j number h ctx was).violation ≡ true →
    (by_running runs j number h ctx was).joint.memory.plain ≡ j.memory.plain
unfolding by_running
running_calm false j number h ctx was some = refl
running_calm true j number h ctx was some = due_calm _ j number h (domain_of ctx) (slot_of ctx) was some

inside_calm : (j : Joint) (number : ℕ) (h : Hart) (ctx : ℕ) (found : Option Domain) →
    is_some (inside_step j number h ctx found).violation ≡ true →
    (inside_step j number h ctx found).joint.memory.plain ≡ j.memory.plain
unfolding inside_step
inside_calm j number h ctx None some = refl
inside_calm j number h ctx (Some was) some = running_calm _ j number h ctx was some

-- a step that met a violation has changed no page
pub turn_calm : (j : Joint) (number : ℕ) (h : Hart) (inside : Option ℕ) →
    is_some (turn_of j number h inside).violation ≡ true → (turn_of j number h inside).joint.memory.plain ≡ j.memory.plain
unfolding turn_of
turn_calm j number h None some = outside_keeps j number h
turn_calm j number h (Some ctx) some = inside_calm j number (ticked h) ctx _ some
