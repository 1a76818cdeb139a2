-- Whatever a step does, pages are sealed after it as before.
use Rattle.std.proofs.Common.{◌≡◌, ◌∙◌, ℕ, zero, suc, Bool, true, false, List, [], ◌∷◌, Option, Some, None, refl, ap, length, slice_set}
use Rattle.std.proofs.lemmas.Bool.{false≢true}
use Rattle.std.specs.Prelude.{◌+◌, Result, Ok, Err, slice_get}
use Rattle.std.specs.List.{find}
use Rattle.cloak_base.specs.declared.names.SpaceId.{SpaceId}
use Rattle.cloak_base.specs.declared.causes.Violation.{Violation}
use Rattle.cloak_base.specs.declared.causes.Violation.TheVariants as violation
use Rattle.cloak_model.specs.declared.context.ResumeFault.{ResumeFault}
use Rattle.cloak_model.specs.declared.answer.Answer.{Answer}
use Rattle.cloak_model.specs.declared.inside.Went.{Went}
use Rattle.cloak_model.specs.declared.inside.Went.TheVariants as went
use Rattle.cloak_model.specs.Items.{Item}
use Rattle.cloak_model.specs.Items as item
use Rattle.cloak_model.specs.declared.outcome.Kernel.{Kernel}
use Rattle.cloak_model.specs.declared.outcome.Kernel.TheVariants.{Stay, Put, Halt, Resume, Trapped}
use Rattle.cloak_model.specs.Sealing.{Sealing}
use Rattle.cloak_model.specs.Csr.{satp_of, interrupt_due}
use Rattle.cloak_model.specs.Hart.{Hart}
use Rattle.cloak_model.specs.KernelStep.{ticked}
use Rattle.cloak_model.specs.Memory.{value_in}
use Rattle.cloak_model.specs.Cloaking.{CloakedMemory, AfterSettling, settle}
use Rattle.cloak_model.specs.PageMoves.{copy_pages, drop_pages}
use Rattle.cloak_model.specs.StepFrames.{step_frames}
use Rattle.cloak_model.specs.Ahead.{is_owed, settle_found, settle_while, settle_touched, made_after, settled_step}
use Rattle.cloak_model.specs.World.{World, MidStep, Flat, Cloaked, Alone, items_of}
use Rattle.cloak_model.specs.Asking.{Told}
use Rattle.cloak_model.specs.AskPages.{ask_read, ask_write, ask_copy, ask_forget, settled_if_marked}
use Rattle.cloak_model.specs.Script.{Script, Gives, Asks, Reads, Changes, Write, Copy, Forget, asked, played}
use Rattle.cloak_model.specs.HostCalls.{SteppedKernel}
use Rattle.cloak_model.specs.Contexts.{Admitted, admit, context_at, domain_of, slot_of}
use Rattle.cloak_model.specs.DomainState.{Control, Domain}
use Rattle.cloak_model.specs.DomainStep.{DomainStepped, Resumes, resume_slot, domain_script, domain_step, interrupt}
use Rattle.cloak_model.specs.Hypercalls.{Stepped}
use Rattle.cloak_model.specs.DomainAlone.{runs_on}
use Rattle.cloak_model.specs.Fork.{forget_each}
use Rattle.cloak_model.specs.Opening.{numbers_below}
use Rattle.cloak_model.specs.Ending.{all_marked, settled_for, ask_end, cloak_for}
use Rattle.cloak_model.specs.Parts.{Joint}
use Rattle.cloak_model.specs.Resuming.{AfterResume, violated, or_none, or_refused, space_of, resume}
use Rattle.cloak_model.specs.Joint.{Moment, Turn, hart_in, cloak_of, cloak_outside, memory_of, after_kernel_step, outside_ended, after_outside, outside_step, domain_ended, with_domain, after_domain_step, pages_for, interrupt_ended, after_interrupt, by_interrupt, by_running, inside_step, turn_of, domain_met, end_domain, ends_once, ends_resumed, ends_asked, answers_violation, next_hart, step_before_end, joint_step}
use Rattle.cloak_model.specs.VeilWorld.{seal_of, is_cloaked}
use Rattle.cloak_model.specs.BlindRuns.{seal_in, SealStays}
use Rattle.cloak_model.proofs.BlindResumes.{resumed_in, resumed_by}
use Rattle.cloak_model.proofs.VeilWorlds.{settle_seal, marks_veil, asked_seals, asked_cloaked}

-- A hart outside.

found_seal : (o : Option ℕ) (next : CloakedMemory → AfterSettling) →
    ((m : CloakedMemory) → (next m).memory.ledger.keys.seal ≡ m.ledger.keys.seal) → (m : CloakedMemory) →
    (settle_found o next m).memory.ledger.keys.seal ≡ m.ledger.keys.seal
found_seal None next stays m = refl
found_seal (Some f) next stays m = stays (settle f m).memory ∙ settle_seal f m

while_seal : (frames : List (List ℕ) → List ℕ) (n : ℕ) (m : CloakedMemory) →
    (settle_while frames n m).memory.ledger.keys.seal ≡ m.ledger.keys.seal
unfolding settle_while
while_seal frames zero m = refl
while_seal frames (suc n) m = found_seal (find (is_owed m) (frames m.ram)) (settle_while frames n) (while_seal frames n) m

step_seal : (h : Hart) (disk : List ℕ) (c : MidStep) → seal_of (settled_step h disk c).world ≡ c.memory.ledger.keys.seal
unfolding settled_step settle_touched made_after
step_seal h disk c = while_seal (λ ram. step_frames h ram disk) (length c.memory.ledger.owed) c.memory

-- the memory of the machine after a step
through : (w : World) (m : CloakedMemory) → seal_of w ≡ m.ledger.keys.seal → (memory_of w m).ledger.keys.seal ≡ m.ledger.keys.seal
through (Flat seen) m e = refl
through (Cloaked c) m e = e
through (Alone h) m e = refl

none_seal : (s : Sealing) (o : Option Domain) (x : AfterResume) (next : Domain → AfterResume) → seal_in x.joint ≡ s →
    ((d : Domain) → seal_in (next d).joint ≡ s) → seal_in (or_none o x next).joint ≡ s
none_seal s None x next e later = e
none_seal s (Some d) x next e later = later d

refused_seal : (s : Sealing) (a : Result (Unit {0}) ResumeFault) (x y : AfterResume) → seal_in x.joint ≡ s → seal_in y.joint ≡ s →
    seal_in (or_refused a x y).joint ≡ s
refused_seal s (Err f) x y e e' = e
refused_seal s (Ok done) x y e e' = e'

-- a context that was admitted
abbrev admitted_so : Joint → ℕ → ℕ → Domain → Control → (SpaceId → Option ℕ) → AfterResume
admitted_so j ctx reply was control root = record {
  joint = record j {
    domains = slice_set j.domains (domain_of ctx) (record was { control = control });
    memory = record j.memory { ledger = record j.memory.ledger { root = root } };
  };
  items = item.Resume (domain_of ctx) ctx reply ∷ [];
  violation = None;
}

resumed_in_seal : (j : Joint) (satp ctx reply : ℕ) (was : Domain) (control : Control) (space : ℕ) →
    seal_in (resumed_in j satp ctx reply was control space).joint ≡ seal_in j
resumed_in_seal j satp ctx reply was control space =
    let admitted : Admitted = admit (record { domain = domain_of ctx; number = space }) satp j.memory.ledger.root in
    refused_seal (seal_in j) admitted.answer (violated j (violation.Mapping ctx satp)) (admitted_so j ctx reply was control admitted.root) refl refl

resumed_by_seal : (j : Joint) (hart satp ctx reply : ℕ) (was : Domain) → seal_in (resumed_by j hart satp ctx reply was).joint ≡ seal_in j
resumed_by_seal j hart satp ctx reply was =
    let made : Resumes = resume_slot (slot_of ctx) hart reply was.control in
    let space : ℕ = space_of (context_at was.control.contexts (slot_of ctx)) in
    refused_seal (seal_in j) made.answer (violated j (violation.Context ctx)) (resumed_in j satp ctx reply was made.control space) refl
    (resumed_in_seal j satp ctx reply was made.control space)

resume_seal : (j : Joint) (hart satp ctx reply : ℕ) → seal_in (resume j hart satp ctx reply).joint ≡ seal_in j
unfolding resume
resume_seal j hart satp ctx reply =
    none_seal (seal_in j) (slice_get j.domains (domain_of ctx)) (violated j (violation.Context ctx)) (resumed_by j hart satp ctx reply) refl
    (resumed_by_seal j hart satp ctx reply)

ended_seal : (j : Joint) (number : ℕ) (items : List Item) (e : Kernel) → seal_in (outside_ended j number items e).joint ≡ seal_in j
unfolding outside_ended
ended_seal j number items Stay = refl
ended_seal j number items Trapped = refl
ended_seal j number items (Put b) = refl
ended_seal j number items (Halt value) = refl
ended_seal j number items (Resume ctx reply) = resume_seal j number (satp_of (hart_in j number).csrs) ctx reply

outside_seal : (j : Joint) (number : ℕ) (h : Hart) → seal_in (outside_step j number h).joint ≡ seal_in j
unfolding outside_step after_outside
outside_seal j number h =
    let told : Told SteppedKernel = settled_step h j.disk (cloak_outside j.memory h) in
    ended_seal (after_kernel_step j number told) number (items_of told.world) told.answer.ending
    ∙ through told.world j.memory (step_seal h j.disk (cloak_outside j.memory h))

-- A hart inside.

plays_seal : {A : Type 0} (s : Script A) (w : World) → is_cloaked w ≡ true → seal_of (played s w).world ≡ seal_of w
unfolding ask_read ask_write ask_copy ask_forget copy_pages drop_pages
plays_seal s (Flat seen) is = absurd (false≢true is)
plays_seal s (Alone h) is = absurd (false≢true is)
plays_seal (Gives a) (Cloaked c) is = refl
plays_seal (Asks question more) (Cloaked c) is =
    let t : Told Answer = asked question (Cloaked c) in
    plays_seal (more t.answer) t.world (asked_cloaked question c) ∙ asked_seals question c
plays_seal (Reads q at width more) (Cloaked c) is = plays_seal (more (value_in (c.memory.plain q) at width)) (Cloaked c) refl
plays_seal (Changes (Write q at width value) more) (Cloaked c) is = plays_seal more (ask_write q at width value (Cloaked c)).world refl
plays_seal (Changes (Copy domain from to) more) (Cloaked c) is = plays_seal more (ask_copy domain from to (Cloaked c)).world refl
plays_seal (Changes (Forget domain resource) more) (Cloaked c) is = plays_seal more (ask_forget domain resource (Cloaked c)).world refl

domain_ended_seal : (j : Joint) (number : ℕ) (h : Hart) (d : ℕ) (w : World) (e : Went) →
    seal_in (domain_ended j number h d w e).joint ≡ seal_in j
unfolding domain_ended
domain_ended_seal j number h d w went.Stay = refl
domain_ended_seal j number h d w went.Stopped = refl
domain_ended_seal j number h d w (went.Remapped space) = refl
domain_ended_seal j number h d w (went.Leave s) = refl
domain_ended_seal j number h d w (went.SpaceGone space s) = refl

domain_seal : (j : Joint) (number : ℕ) (h : Hart) (d slot : ℕ) (domain : Domain) (c : MidStep) → c.memory ≡ j.memory →
    seal_in (after_domain_step j number h d (domain_step slot domain (Cloaked c))).joint ≡ seal_in j
unfolding after_domain_step domain_step
domain_seal j number h d slot domain c e =
    let told : Told DomainStepped = played (domain_script slot domain) (Cloaked c) in
    domain_ended_seal (record (with_domain d told.answer.domain j) { memory = memory_of told.world j.memory }) number h d told.world told.answer.went
    ∙ through told.world j.memory (plays_seal (domain_script slot domain) (Cloaked c) refl ∙ ap (λ (m : CloakedMemory). m.ledger.keys.seal) e)

interrupt_ended_seal : (j : Joint) (number : ℕ) (h : Hart) (items : List Item) (e : Went) →
    seal_in (interrupt_ended j number h items e).joint ≡ seal_in j
unfolding interrupt_ended
interrupt_ended_seal j number h items (went.Leave s) = refl
interrupt_ended_seal j number h items went.Stay = refl
interrupt_ended_seal j number h items went.Stopped = refl
interrupt_ended_seal j number h items (went.Remapped space) = refl
interrupt_ended_seal j number h items (went.SpaceGone space s) = refl

interrupt_seal : (j : Joint) (number : ℕ) (h : Hart) (d : ℕ) (domain : Domain) (s : Stepped) →
    seal_in (after_interrupt j number h d domain s).joint ≡ seal_in j
unfolding after_interrupt
interrupt_seal j number h d domain s =
    interrupt_ended_seal (with_domain d (record domain { control = s.control }) j) number h (item.Timer d ∷ []) s.went

by_interrupt_seal : (b : Bool) (j : Joint) (number : ℕ) (h : Hart) (d slot : ℕ) (domain : Domain) →
    seal_in (by_interrupt b j number h d slot domain).joint ≡ seal_in j
unfolding by_interrupt
by_interrupt_seal true j number h d slot domain = interrupt_seal j number h d domain (interrupt slot domain.control)
by_interrupt_seal false j number h d slot domain =
    domain_seal j number h d slot domain (cloak_of j.memory h d (pages_for domain (context_at domain.control.contexts slot))) refl

by_running_seal : (b : Bool) (j : Joint) (number : ℕ) (h : Hart) (ctx : ℕ) (domain : Domain) →
    seal_in (by_running b j number h ctx domain).joint ≡ seal_in j
unfolding by_running
by_running_seal false j number h ctx domain = refl
by_running_seal true j number h ctx domain =
    by_interrupt_seal (interrupt_due h.mode h.csrs) j number h (domain_of ctx) (slot_of ctx) domain

inside_seal : (j : Joint) (number : ℕ) (h : Hart) (ctx : ℕ) (o : Option Domain) →
    seal_in (inside_step j number h ctx o).joint ≡ seal_in j
unfolding inside_step
inside_seal j number h ctx None = refl
inside_seal j number h ctx (Some domain) =
    by_running_seal (runs_on number (context_at domain.control.contexts (slot_of ctx))) j number h ctx domain

turn_seal : (j : Joint) (number : ℕ) (h : Hart) (inside : Option ℕ) → seal_in (turn_of j number h inside).joint ≡ seal_in j
unfolding turn_of
turn_seal j number h None = outside_seal j number h
turn_seal j number h (Some ctx) = inside_seal j number (ticked h) ctx (slice_get j.domains (domain_of ctx))

pub before_seal : (m : Moment) → seal_in (step_before_end m).joint ≡ seal_in m.joint
before_seal m =
    let n : ℕ = next_hart m in
    turn_seal m.joint n (hart_in m.joint n) (hart_in m.joint n).inside

-- The end of a domain.

for_seal : (domain f n : ℕ) (w : World) → seal_of (settled_for domain f n w) ≡ seal_of w
unfolding settled_for
for_seal domain f zero w = refl
for_seal domain f (suc n) w =
    for_seal domain (f + 1) n (settled_if_marked domain all_marked f w) ∙ (marks_veil domain all_marked f).seals w

for_cloaked : (domain f n : ℕ) (w : World) → is_cloaked (settled_for domain f n w) ≡ is_cloaked w
unfolding settled_for
for_cloaked domain f zero w = refl
for_cloaked domain f (suc n) w =
    for_cloaked domain (f + 1) n (settled_if_marked domain all_marked f w) ∙ (marks_veil domain all_marked f).cloaked w

end_seal : (domain : ℕ) (c : MidStep) → seal_of (ask_end domain (Cloaked c)).world ≡ c.memory.ledger.keys.seal
unfolding ask_end
end_seal domain c =
    let n : ℕ = length c.memory.ram in
    plays_seal (forget_each domain (numbers_below 16)) (settled_for domain 0 n (Cloaked c)) (for_cloaked domain 0 n (Cloaked c))
    ∙ for_seal domain 0 n (Cloaked c)

end_domain_seal : (d : ℕ) (domain : Domain) (v : Violation) (t : Turn) → seal_in (end_domain d domain v t).joint ≡ seal_in t.joint
unfolding end_domain
end_domain_seal d domain v t =
    through (ask_end d (Cloaked (cloak_for t.joint.memory d))).world t.joint.memory (end_seal d (cloak_for t.joint.memory d))

once_seal : (b : Bool) (d : ℕ) (domain : Domain) (v : Violation) (t : Turn) → seal_in (ends_once b d domain v t).joint ≡ seal_in t.joint
unfolding ends_once
once_seal true d domain v t = refl
once_seal false d domain v t = end_domain_seal d domain v t

resumed_seal : (o : Option Domain) (d : ℕ) (v : Violation) (t : Turn) → seal_in (ends_resumed o d v t).joint ≡ seal_in t.joint
unfolding ends_resumed
resumed_seal None d v t = refl
resumed_seal (Some domain) d v t = once_seal domain.control.ended d domain v t

asked_end_seal : (o : Option Domain) (d : ℕ) (v : Violation) (t : Turn) → seal_in (ends_asked o d v t).joint ≡ seal_in t.joint
unfolding ends_asked
asked_end_seal None d v t = refl
asked_end_seal (Some domain) d v t = end_domain_seal d domain v t

violation_seal : (inside : Option ℕ) (o : Option Violation) (t : Turn) → seal_in (answers_violation inside o t).joint ≡ seal_in t.joint
unfolding answers_violation
violation_seal inside None t = refl
violation_seal None (Some v) t = resumed_seal (slice_get t.joint.domains (domain_met v)) (domain_met v) v t
violation_seal (Some ctx) (Some v) t = asked_end_seal (slice_get t.joint.domains (domain_of ctx)) (domain_of ctx) v t

pub seal_stays : SealStays
unfolding joint_step
seal_stays m =
    let t : Turn = step_before_end m in
    violation_seal (hart_in m.joint (next_hart m)).inside t.violation t ∙ before_seal m
