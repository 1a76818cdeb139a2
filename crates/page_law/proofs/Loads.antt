-- Each completed load of a run gives the newest bytes of its page.
use Rattle.std.proofs.Common.{◌≡◌, ◌∙◌, ℕ, zero, suc, Bool, true, false, List, [], ◌∷◌, slice_get, slice_set, Option, Some, None, Result, Ok, Err, refl, sym, subst}
use Rattle.cloak_base.specs.declared.names.PageId.{PageId}
use Rattle.cloak_model.specs.declared.context.Phase.{Phase}
use Rattle.cloak_model.specs.declared.context.Phase.TheVariants.{Plain, CopyIn, Waiting, CopyOut}
use Rattle.cloak_model.specs.declared.context.ResumeFault.{ResumeFault}
use Rattle.cloak_model.specs.declared.context.PageWord.{PageWord}
use Rattle.cloak_model.specs.declared.image.Bundle.{Bundle}
use Rattle.cloak_model.specs.declared.inside.Copied.{Copied}
use Rattle.cloak_model.specs.declared.inside.Copied.TheVariants as copied
use Rattle.cloak_model.specs.declared.inside.Ran.{Ran}
use Rattle.cloak_model.specs.declared.inside.Ran.TheVariants as ran
use Rattle.cloak_model.specs.Items.{Item}
use Rattle.cloak_model.specs.declared.outcome.Kernel.{Kernel}
use Rattle.cloak_model.specs.declared.outcome.Kernel.TheVariants.{Resume}
use Rattle.cloak_model.specs.Asking.{Told}
use Rattle.cloak_model.specs.Beginning.{opening_from}
use Rattle.cloak_model.specs.Calls.{Copy, copy_in_step, copy_out_step}
use Rattle.cloak_model.specs.Contexts.{Context, Admitted, context_at, domain_of, slot_of}
use Rattle.cloak_model.specs.DomainState.{Control, Domain}
use Rattle.cloak_model.specs.DomainStep.{domain_script, DomainStepped, instruction_ended, copy_ended, after_write, phase_step, step_if, domain_step}
use Rattle.cloak_model.specs.Hart.{Hart}
use Rattle.cloak_model.specs.InsideStep.{AfterInstruction, instruction_inside}
use Rattle.cloak_base.specs.declared.causes.Violation.{Violation}
use Rattle.cloak_model.specs.Ending.{ended_domain}
use Rattle.cloak_model.specs.Joint.{next_hart, hart_in, end_domain, ends_once, ends_resumed, ends_asked, answers_violation}
use Rattle.cloak_model.specs.Joint.{Moment, Turn, cloak_of, outside_ended, after_outside, outside_step, after_domain_step, pages_for, after_interrupt, by_interrupt, by_running, inside_step, turn_of, joint_step}
use Rattle.cloak_model.specs.KernelStep.{ticked}
use Rattle.cloak_model.specs.Opening.{RunEdge}
use Rattle.cloak_model.specs.Parts.{Joint}
use Rattle.cloak_model.specs.Resuming.{resume}
use Rattle.cloak_model.proofs.ResumeParts.{by_root, by_context, by_domain}
use Rattle.cloak_model.specs.Run.{Run, turns_from, first_moment, run_of}
use Rattle.cloak_model.specs.World.{World, MidStep, Cloaked}
use Rattle.cloak_model.specs.Script.{played}
use Rattle.cloak_model.proofs.Playing.{by_plain, by_copy_in, by_copy_out, by_ecall}
use Rattle.page_law.specs.Ciphers.{}
use Rattle.kernel_isolation.specs.Isolation.{joint_until}
use Rattle.page_law.specs.Loads.{LoadsNewest, NoLoad, OneLoad, StepsLoadNewest}
use Rattle.kernel_isolation.proofs.Isolated.{of_opened}
use Rattle.page_law.proofs.Given.{after_set}
use Rattle.page_law.proofs.OwnPages.{moment_behind, step_is}
use Rattle.page_law.proofs.StepLoads.{HasPlain, LoadsIn, CopiesIn, loads_instruction, copies_in, copies_out}
use Rattle.domain_isolation.proofs.InsideSteps.{ended_domains, interrupt_ended_domains}

-- A step of a program.

instruction_loads : (plain : PageId → List ℕ) (slot : ℕ) (d : Domain) (c : Context) (t : Told AfterInstruction)
    (e : Ran) → t.answer.ending ≡ e → context_at d.control.contexts slot ≡ Some c →
    LoadsIn d.control.number d.control.resources c.space plain t.answer →
    LoadsNewest d plain (played (instruction_ended slot d t.answer.context e) t.world).answer.domain
unfolding instruction_ended
instruction_loads plain slot d c t (ran.Loaded va value) is at loads =
    OneLoad slot c at va value refl (loads va value is)
instruction_loads plain slot d c t ran.Ecall is at loads =
    by_ecall (λ (x : Told DomainStepped). LoadsNewest d plain x.answer.domain) slot d t.answer.context t.world
    (NoLoad refl)
instruction_loads plain slot d c t _ is at loads = NoLoad refl

copy_loads : (plain : PageId → List ℕ) (slot : ℕ) (d : Domain) (c : Context) (t : Told Copy) (e : Copied) →
    t.answer.ending ≡ e → context_at d.control.contexts slot ≡ Some c →
    CopiesIn d.control.number d.control.resources c.space plain t.answer →
    LoadsNewest d plain (copy_ended slot d t.answer.context e).domain
unfolding copy_ended
copy_loads plain slot d c t (copied.Loaded va value) is at loads = OneLoad slot c at va value refl (loads va value is)
copy_loads plain slot d c t _ is at loads = NoLoad refl

-- with the same loads, what is told of them is the same
loads_stay : (was : Domain) (plain : PageId → List ℕ) (found made : Domain) → made.loads ≡ found.loads →
    LoadsNewest was plain found → LoadsNewest was plain made
loads_stay was plain found made same (NoLoad is) = NoLoad (same ∙ is)
loads_stay was plain found made same (OneLoad slot c there va value is of) = OneLoad slot c there va value (same ∙ is) of

-- a word that was written in changes no load
written_loads : (wrote : Option PageWord) (s : DomainStepped) → (after_write wrote s).domain.loads ≡ s.domain.loads
written_loads None s = refl
written_loads (Some place) s = refl

phase_loads : (plain : PageId → List ℕ) (phase : Phase) (slot : ℕ) (c : Context) (d : Domain) (w : World) →
    context_at d.control.contexts slot ≡ Some c → HasPlain plain w →
    LoadsNewest d plain (played (phase_step phase slot c d) w).answer.domain
unfolding phase_step
phase_loads plain Plain slot c d w at has =
    let n = d.control.number in
    let r = d.control.resources in
    let t = played (instruction_inside n r c) w in
    by_plain (λ (x : Told DomainStepped). LoadsNewest d plain x.answer.domain) slot c d w
    (loads_stay d plain _ _ (written_loads t.answer.wrote _)
    (instruction_loads plain slot d c t _ refl at (loads_instruction n r plain c w has)))
phase_loads plain (CopyIn done) slot c d w at has =
    let t = played (copy_in_step d.control.number d.control.resources c done) w in
    by_copy_in (λ (x : Told DomainStepped). LoadsNewest d plain x.answer.domain) done slot c d w
    (copy_loads plain slot d c t _ refl at (copies_in d.control.number d.control.resources plain c done w has))
phase_loads plain Waiting slot c d w at has = NoLoad refl
phase_loads plain (CopyOut done total) slot c d w at has =
    let t = played (copy_out_step d.control.number d.control.resources c done total) w in
    by_copy_out (λ (x : Told DomainStepped). LoadsNewest d plain x.answer.domain) done total slot c d w
    (loads_stay d plain _ _ (written_loads t.answer.wrote _)
    (copy_loads plain slot d c t _ refl at (copies_out d.control.number d.control.resources plain c done total w has)))

step_if_loads : (plain : PageId → List ℕ) (o : Option Context) (slot : ℕ) (d : Domain) (w : World) →
    context_at d.control.contexts slot ≡ o → HasPlain plain w →
    LoadsNewest d plain (played (step_if o slot d) w).answer.domain
unfolding step_if
step_if_loads plain None slot d w at has = NoLoad refl
step_if_loads plain (Some c) slot d w at has = phase_loads plain c.phase slot c d w at has

step_loads : (plain : PageId → List ℕ) (slot : ℕ) (d : Domain) (w : World) → HasPlain plain w →
    LoadsNewest d plain (domain_step slot d w).answer.domain
unfolding domain_step domain_script
step_loads plain slot d w has = step_if_loads plain _ slot d w refl has

-- A step of the joint machine.

abbrev DomainsLoad : List Domain → (PageId → List ℕ) → List Domain → Type 0
DomainsLoad domains plain now =
    (d : ℕ) (was new : Domain) → slice_get domains d ≡ Some was → slice_get now d ≡ Some new → LoadsNewest was plain new

same_load : (domains : List Domain) (plain : PageId → List ℕ) → DomainsLoad domains plain domains
same_load domains plain d was new is is' =
    let same : Some was ≡ Some new = sym is ∙ is' in
    let one : was ≡ new = cc in
    subst (λ (x : Domain). LoadsNewest was plain x) one (NoLoad refl)

set_load : (domains : List Domain) (plain : PageId → List ℕ) (e : ℕ) (found made : Domain) →
    slice_get domains e ≡ Some found → LoadsNewest found plain made →
    DomainsLoad domains plain (slice_set domains e made)
set_load [] plain zero found made there loads d was new is is' = absurd cc
set_load [] plain (suc e) found made there loads d was new is is' = absurd cc
set_load (x ∷ domains) plain zero found made there loads zero was new is is' =
    let a : found ≡ was = (let s : Some found ≡ Some was = sym there ∙ is in cc) in
    let b : made ≡ new = cc in
    subst (λ (y : Domain). LoadsNewest was plain y) b (subst (λ (y : Domain). LoadsNewest y plain made) a loads)
set_load (x ∷ domains) plain zero found made there loads (suc d) was new is is' =
    same_load domains plain d was new is is'
set_load (x ∷ domains) plain (suc e) found made there loads zero was new is is' =
    same_load (x ∷ domains) plain zero was new is is'
set_load (x ∷ domains) plain (suc e) found made there loads (suc d) was new is is' =
    set_load domains plain e found made there loads d was new is is'

root_load : (j : Joint) (plain : PageId → List ℕ) (satp ctx reply : ℕ) (w : Domain) (control : Control) (a : Admitted)
    (answer : Result (Unit {0}) ResumeFault) → slice_get j.domains (domain_of ctx) ≡ Some w →
    DomainsLoad j.domains plain (by_root j satp ctx reply w control a answer).joint.domains
unfolding by_root
root_load j plain satp ctx reply w control a (Err fault) there = same_load j.domains plain
root_load j plain satp ctx reply w control a (Ok done) there =
    set_load j.domains plain (domain_of ctx) w (record w { control = control }) there (NoLoad refl)

context_load : (j : Joint) (plain : PageId → List ℕ) (satp ctx reply : ℕ) (w : Domain) (control : Control)
    (answer : Result (Unit {0}) ResumeFault) → slice_get j.domains (domain_of ctx) ≡ Some w →
    DomainsLoad j.domains plain (by_context j satp ctx reply w control answer).joint.domains
unfolding by_context
context_load j plain satp ctx reply w control (Err fault) there = same_load j.domains plain
context_load j plain satp ctx reply w control (Ok done) there = root_load j plain satp ctx reply w control _ _ there

domain_load : (j : Joint) (plain : PageId → List ℕ) (hart satp ctx reply : ℕ) (found : Option Domain) →
    slice_get j.domains (domain_of ctx) ≡ found →
    DomainsLoad j.domains plain (by_domain j hart satp ctx reply found).joint.domains
unfolding by_domain
domain_load j plain hart satp ctx reply None there = same_load j.domains plain
domain_load j plain hart satp ctx reply (Some w) there = context_load j plain satp ctx reply w _ _ there

resume_load : (j : Joint) (plain : PageId → List ℕ) (hart satp ctx reply : ℕ) →
    DomainsLoad j.domains plain (resume j hart satp ctx reply).joint.domains
unfolding resume by_domain by_context by_root
resume_load j plain hart satp ctx reply = domain_load j plain hart satp ctx reply _ refl

ended_load : (j : Joint) (plain : PageId → List ℕ) (number : ℕ) (items : List Item) (k : Kernel) →
    DomainsLoad j.domains plain (outside_ended j number items k).joint.domains
unfolding outside_ended
ended_load j plain number items (Resume ctx answer) = resume_load j plain number _ ctx answer
ended_load j plain number items _ = same_load j.domains plain

outside_load : (j : Joint) (plain : PageId → List ℕ) (number : ℕ) (h : Hart) →
    DomainsLoad j.domains plain (outside_step j number h).joint.domains
unfolding outside_step after_outside
outside_load j plain number h = ended_load _ plain number _ _

by_load : (due : Bool) (j : Joint) (number : ℕ) (h : Hart) (e slot : ℕ) (found : Domain) →
    slice_get j.domains e ≡ Some found →
    DomainsLoad j.domains j.memory.plain (by_interrupt due j number h e slot found).joint.domains
unfolding by_interrupt after_interrupt after_domain_step
by_load true j number h e slot found there =
    subst (DomainsLoad j.domains j.memory.plain) (sym (interrupt_ended_domains _ number h _ _))
    (set_load j.domains j.memory.plain e found (record found { control = _ }) there (NoLoad refl))
by_load false j number h e slot found there =
    let c : MidStep = cloak_of j.memory h e (pages_for found (context_at found.control.contexts slot)) in
    subst (DomainsLoad j.domains j.memory.plain) (sym (ended_domains _ number h e _ _))
    (set_load j.domains j.memory.plain e found _ there
    (step_loads j.memory.plain slot found (Cloaked c) (record { cloak = c; is = refl; same = refl })))

running_load : (runs : Bool) (j : Joint) (number : ℕ) (h : Hart) (ctx : ℕ) (found : Domain) →
    slice_get j.domains (domain_of ctx) ≡ Some found →
    DomainsLoad j.domains j.memory.plain (by_running runs j number h ctx found).joint.domains
unfolding by_running
running_load false j number h ctx found there = same_load j.domains j.memory.plain
running_load true j number h ctx found there = by_load _ j number h (domain_of ctx) (slot_of ctx) found there

inside_load : (j : Joint) (number : ℕ) (h : Hart) (ctx : ℕ) (found : Option Domain) →
    slice_get j.domains (domain_of ctx) ≡ found →
    DomainsLoad j.domains j.memory.plain (inside_step j number h ctx found).joint.domains
unfolding inside_step
inside_load j number h ctx None there = same_load j.domains j.memory.plain
inside_load j number h ctx (Some found) there = running_load _ j number h ctx found there

turn_load : (j : Joint) (number : ℕ) (h : Hart) (inside : Option ℕ) →
    DomainsLoad j.domains j.memory.plain (turn_of j number h inside).joint.domains
unfolding turn_of
turn_load j number h None = outside_load j j.memory.plain number h
turn_load j number h (Some ctx) = inside_load j number (ticked h) ctx _ refl

-- The end of a domain leaves its loads.

ended_loads : (w : Domain) → (ended_domain w).loads ≡ w.loads
unfolding ended_domain
ended_loads w = refl

end_load : (domains : List Domain) (plain : PageId → List ℕ) (e : ℕ) (found : Domain) (v : Violation) (t : Turn) →
    slice_get t.joint.domains e ≡ Some found → DomainsLoad domains plain t.joint.domains →
    DomainsLoad domains plain (end_domain e found v t).joint.domains
unfolding end_domain
end_load domains plain e found v t there loads d was new is is' =
    after_set (LoadsNewest was plain) t.joint.domains e d found (ended_domain found) new there is'
    (λ x at. loads d was x is at) (loads_stay was plain found (ended_domain found) (ended_loads found))

once_load : (over : Bool) (domains : List Domain) (plain : PageId → List ℕ) (e : ℕ) (found : Domain) (v : Violation)
    (t : Turn) → slice_get t.joint.domains e ≡ Some found → DomainsLoad domains plain t.joint.domains →
    DomainsLoad domains plain (ends_once over e found v t).joint.domains
unfolding ends_once
once_load true domains plain e found v t there loads = loads
once_load false domains plain e found v t there loads = end_load domains plain e found v t there loads

resumed_end_load : (o : Option Domain) (domains : List Domain) (plain : PageId → List ℕ) (e : ℕ) (v : Violation)
    (t : Turn) → slice_get t.joint.domains e ≡ o → DomainsLoad domains plain t.joint.domains →
    DomainsLoad domains plain (ends_resumed o e v t).joint.domains
unfolding ends_resumed
resumed_end_load None domains plain e v t there loads = loads
resumed_end_load (Some found) domains plain e v t there loads = once_load _ domains plain e found v t there loads

asked_end_load : (o : Option Domain) (domains : List Domain) (plain : PageId → List ℕ) (e : ℕ) (v : Violation)
    (t : Turn) → slice_get t.joint.domains e ≡ o → DomainsLoad domains plain t.joint.domains →
    DomainsLoad domains plain (ends_asked o e v t).joint.domains
unfolding ends_asked
asked_end_load None domains plain e v t there loads = loads
asked_end_load (Some found) domains plain e v t there loads = end_load domains plain e found v t there loads

answers_load : (inside : Option ℕ) (o : Option Violation) (domains : List Domain) (plain : PageId → List ℕ) (t : Turn) →
    DomainsLoad domains plain t.joint.domains → DomainsLoad domains plain (answers_violation inside o t).joint.domains
unfolding answers_violation
answers_load inside None domains plain t loads = loads
answers_load None (Some v) domains plain t loads = resumed_end_load _ domains plain _ v t refl loads
answers_load (Some ctx) (Some v) domains plain t loads = asked_end_load _ domains plain _ v t refl loads

joint_load : (m : Moment) → DomainsLoad m.joint.domains m.joint.memory.plain (joint_step m).joint.domains
unfolding joint_step
joint_load m =
    let h = hart_in m.joint (next_hart m) in
    answers_load h.inside _ m.joint.domains m.joint.memory.plain (turn_of m.joint (next_hart m) h h.inside)
    (turn_load m.joint (next_hart m) h h.inside)

run_loads : (b : Bundle) (budget : ℕ) (o : RunEdge) → let r = run_of b budget o in
    (n : ℕ) (t : Turn) → slice_get r.turns n ≡ Some t →
    DomainsLoad (joint_until n r).domains (joint_until n r).memory.plain t.joint.domains
unfolding run_of
run_loads b budget o n t is =
    let turns : List Turn = turns_from budget (first_moment b o.joint) in
    let m : Moment = moment_behind (first_moment b o.joint) n turns in
    subst (λ (x : Turn). DomainsLoad m.joint.domains m.joint.memory.plain x.joint.domains)
    (step_is budget n (first_moment b o.joint) t is) (joint_load m)

pub steps_load_newest : StepsLoadNewest
steps_load_newest b from budget r is =
    of_opened b budget
    (λ (r : Run). (n : ℕ) (t : Turn) → slice_get r.turns n ≡ Some t →
    DomainsLoad (joint_until n r).domains (joint_until n r).memory.plain t.joint.domains)
    (opening_from b from) r is (λ o opens. run_loads b budget o)
