-- The registers of a context over a step that it does not make.
use Rattle.std.proofs.Common.{◌≡◌, ◌≢◌, ◌∙◌, inl, inr, ℕ, zero, suc, ◌/◌, ◌%◌, Bool, true, false, cond, List, [], ◌∷◌, map, slice_get, slice_set, Option, Some, None, Result, Ok, Err, refl, sym, ap, subst, arith}
use Rattle.std.specs.Prelude.{is_some, option_and_then}
use Rattle.std.proofs.lemmas.Bool.{false≢true}
use Rattle.std.proofs.lemmas.List.{get_or-set_other, set-set}
use Rattle.cloak_base.proofs.Choices.{either}
use Rattle.cloak_base.proofs.Lists.{slice_get-set_other}
use Rattle.cloak_base.specs.Registers.{register, with_register}
use Rattle.cloak_base.specs.declared.causes.Violation.{Violation}
use Rattle.cloak_model.specs.declared.context.Phase.{Phase}
use Rattle.cloak_model.specs.declared.context.Phase.TheVariants.{Plain, CopyIn, Waiting, CopyOut}
use Rattle.cloak_model.specs.declared.context.PageWord.{PageWord}
use Rattle.cloak_model.specs.declared.context.ResumeFault.{ResumeFault}
use Rattle.cloak_model.specs.declared.inside.Copied.{Copied}
use Rattle.cloak_model.specs.declared.inside.Copied.TheVariants as copied
use Rattle.cloak_model.specs.declared.inside.Ran.{Ran}
use Rattle.cloak_model.specs.declared.inside.Ran.TheVariants as ran
use Rattle.cloak_model.specs.declared.outcome.Kernel.{Kernel}
use Rattle.cloak_model.specs.declared.outcome.Kernel.TheVariants.{Resume}
use Rattle.cloak_model.specs.Calls.{copy_in_step, copy_out_step, finish_call}
use Rattle.cloak_model.specs.Contexts.{Context, Admitted, Resumed, context_at, with_context, set_word, in_phase, moved_on, suspended, new_context, domain_of, slot_of, context_number, is_reserved, unless_reserved, resume_if, resume_at}
use Rattle.cloak_model.specs.Csr.{interrupt_due}
use Rattle.cloak_model.specs.DomainAlone.{runs_on}
use Rattle.cloak_model.specs.DomainState.{Control, Domain}
use Rattle.cloak_model.specs.DomainStep.{DomainStepped, domain_script, instruction_ended, copy_ended, after_write, phase_step, step_if, domain_step, interrupt_if, interrupt, answer_in, answer_taken, resume_told, resume_slot}
use Rattle.cloak_model.specs.Ending.{ended_domain}
use Rattle.cloak_model.specs.Fork.{forked, child}
use Rattle.cloak_model.specs.Hart.{Hart}
use Rattle.cloak_model.specs.Hypercalls.{Hypercall, hypercall, hypercall_of, with_answer}
use Rattle.cloak_model.specs.InsideStep.{instruction_inside}
use Rattle.cloak_model.specs.Items.{Item}
use Rattle.cloak_model.specs.Items as item
use Rattle.cloak_model.specs.Joint.{Moment, Turn, next_hart, memory_of, with_domain, outside_ended, after_outside, outside_step, after_domain_step, after_interrupt, by_interrupt, by_running, inside_step, turn_of, domain_met, end_domain, ends_once, ends_resumed, ends_asked, answers_violation, cloak_of, pages_for, joint_step}
use Rattle.cloak_model.specs.KernelStep.{ticked}
use Rattle.cloak_model.specs.Parts.{Joint}
use Rattle.cloak_model.specs.Resuming.{resume}
use Rattle.cloak_model.specs.Script.{played}
use Rattle.cloak_model.specs.World.{World, Cloaked}
use Rattle.cloak_model.proofs.Playing.{by_plain, by_copy_in, by_copy_out, by_ecall}
use Rattle.cloak_model.proofs.ResumeParts.{by_root, by_context, by_domain}
use Rattle.hypercall_kinds.specs.Kinds.{CallKind, Answers, MakesNew, MakesFile, Maps, Unmaps, Starts, BeginsCopy, Calls, Stops, Forks, Ends, EndsSpace, after}
use Rattle.hypercall_kinds.proofs.ByKinds.{by_kinds}
use Rattle.resource_map.proofs.Lists.{first_free-at}
use Rattle.domain_isolation.proofs.InOrder.{decided, get_set_same}
use Rattle.latest_store.proofs.Turned.{domain_ended_so, interrupt_ended_so}
use Rattle.cause_law.specs.Causes.{moment_at, context_running}
use Rattle.cause_law.specs.Presented.{hart_of_step, StepsInside}
use Rattle.cause_law.proofs.Over.{ended_empty}
use Rattle.load_law.proofs.Runs.{steps_made}
use Rattle.context_law.specs.Registers.{RegistersStay, Same, Answered, RunsKeepRegisters}

-- a context that is there before and after
abbrev Stay : Option Context → Option Context → Type 0
Stay o o' = (x y : Context) → o ≡ Some x → o' ≡ Some y → RegistersStay x y

same_some : (x y : Context) (o : Option Context) → o ≡ Some x → o ≡ Some y → x ≡ y
same_some x y o is at = let both : Some x ≡ Some y = sym is ∙ at in cc

same_stay : (o o' : Option Context) → o' ≡ o → Stay o o'
same_stay o o' same x y is at = Same (ap (λ (c : Context). c.regs) (same_some y x o' at (same ∙ is)))

-- with other registers that are the same
same_after : (x y z : Context) → z.regs ≡ y.regs → RegistersStay x y → RegistersStay x z
same_after x y z same (Same is) = Same (same ∙ is)
same_after x y z same (Answered waits answer is) = Answered waits answer (same ∙ is)

-- The slots of a program: all but one, or all.

abbrev OthersStay : ℕ → List (Option Context) → List (Option Context) → Type 0
OthersStay slot xs ys = (k : ℕ) → k ≢ slot → Stay (context_at xs k) (context_at ys k)

abbrev AllStay : List (Option Context) → List (Option Context) → Type 0
AllStay xs ys = (k : ℕ) → Stay (context_at xs k) (context_at ys k)

set_others : (xs : List (Option Context)) (slot : ℕ) (o : Option Context) → OthersStay slot xs (slice_set xs slot o)
set_others xs slot o k other =
    same_stay (context_at xs k) (context_at (slice_set xs slot o) k) (get_or-set_other xs slot k o None other)

then_set : (xs ys : List (Option Context)) (slot : ℕ) (o : Option Context) → OthersStay slot xs ys →
    OthersStay slot xs (slice_set ys slot o)
then_set xs ys slot o stay k other x y is at =
    stay k other x y is (sym (get_or-set_other ys slot k o None other) ∙ at)

-- a free slot is taken
free_stay : (xs : List (Option Context)) (free : ℕ) (o : Option Context) → context_at xs free ≡ None →
    AllStay xs (slice_set xs free o)
free_stay xs free o none k x y is at = elim (decided k free) [
  | inl same ↦
      let both : None ≡ Some x = sym none ∙ ap (context_at xs) (sym same) ∙ is in
      absurd cc
  | inr other ↦ set_others xs free o k other x y is at
]

set_is : (xs : List (Option Context)) (slot : ℕ) (k y : Context) →
    context_at (slice_set xs slot (Some k)) slot ≡ Some y → k ≡ y
set_is [] slot k y at = absurd cc
set_is (x ∷ xs) zero k y at = cc
set_is (x ∷ xs) (suc slot) k y at = set_is xs slot k y at

-- one slot, whose context keeps its registers
set_stay : (xs : List (Option Context)) (slot : ℕ) (c k : Context) → context_at xs slot ≡ Some c → RegistersStay c k →
    AllStay xs (slice_set xs slot (Some k))
set_stay xs slot c k there stays i x y is at = elim (decided i slot) [
  | inl same ↦
      let was : c ≡ x = same_some c x (context_at xs slot) there (ap (context_at xs) (sym same) ∙ is) in
      let now : k ≡ y =
      set_is xs slot k y (ap (context_at (slice_set xs slot (Some k))) (sym same) ∙ at) in
      subst (λ (z : Context). RegistersStay x z) now (subst (λ (z : Context). RegistersStay z k) was stays)
  | inr other ↦ set_others xs slot (Some k) i other x y is at
]

-- A word that was written in ends reservations alone.

record Under (xs : List (Option Context)) (k : ℕ) (y : Context) : Type 0 where
  pub context : Context
  pub there : context_at xs k ≡ Some context
  pub same : y.regs ≡ context.regs

cond_regs : (b : Bool) (c y : Context) → Some (cond b (record c { mark = None }) c) ≡ Some y → y.regs ≡ c.regs
cond_regs true c y is =
    let here : record c { mark = None } ≡ y = cc in ap (λ (x : Context). x.regs) (sym here)
cond_regs false c y is = let here : c ≡ y = cc in ap (λ (x : Context). x.regs) (sym here)

one_under : (place : PageWord) (o : Option Context) (xs : List (Option Context)) (y : Context) →
    unless_reserved place o ≡ Some y → Under (o ∷ xs) 0 y
one_under place None xs y is = absurd cc
one_under place (Some c) xs y is =
    record { context = c; there = refl; same = cond_regs (is_reserved place c.mark) c y is }

under : (place : PageWord) (xs : List (Option Context)) (k : ℕ) (y : Context) →
    context_at (map (unless_reserved place) xs) k ≡ Some y → Under xs k y
under place [] k y is = absurd cc
under place (o ∷ xs) zero y is = one_under place o xs y is
under place (o ∷ xs) (suc k) y is =
    let rest = under place xs k y is in record { context = rest.context; there = rest.there; same = rest.same }

written_others : (wrote : Option PageWord) (s : DomainStepped) (slot : ℕ) (xs : List (Option Context)) →
    OthersStay slot xs s.domain.control.contexts →
    OthersStay slot xs (after_write wrote s).domain.control.contexts
written_others None s slot xs stay = stay
written_others (Some place) s slot xs stay =
    λ k other x y is at.
    let u = under place s.domain.control.contexts k y at in
    same_after x u.context y u.same (stay k other x u.context is u.there)

-- A step of the context of a slot.

module _ (h : Hypercall) (slot : ℕ) (c : Context) (d : Control) (w : World) where
  kind_others : (k : CallKind h slot c d w) → OthersStay slot d.contexts (after h slot c d w k).answer.control.contexts
  unfolding forked
  kind_others (Starts free lowest aligned) =
      let k = new_context c.space (register c.regs 10) (register c.regs 11) (register c.regs 12) in
      then_set d.contexts (with_context free k d.contexts) slot (Some (with_answer c (context_number d.number free)))
      (λ i other. free_stay d.contexts free (Some k) (first_free-at d.contexts free lowest).1 i)
  kind_others (Forks free new is room slots spaces ok) =
      then_set d.contexts (with_context free (child new c) d.contexts) slot
      (Some (with_answer c (context_number d.number free)))
      (λ i other. free_stay d.contexts free (Some (child new c)) (first_free-at d.contexts free slots).1 i)
  kind_others (Stops other) = λ k away. same_stay (context_at d.contexts k) (context_at d.contexts k) refl
  kind_others Ends = set_others d.contexts slot None
  kind_others (EndsSpace is none ok) = set_others d.contexts slot None
  kind_others (BeginsCopy takes good) = set_others d.contexts slot (Some (in_phase (CopyIn 0) (moved_on c)))
  kind_others (Calls good) = set_others d.contexts slot (Some (suspended (in_phase Waiting (moved_on c))))
  kind_others (Answers value fits) = set_others d.contexts slot (Some (with_answer c value))
  kind_others (MakesNew pages) = set_others d.contexts slot _
  kind_others (MakesFile pages) = set_others d.contexts slot _
  kind_others (Maps g) = set_others d.contexts slot _
  kind_others (Unmaps start) = set_others d.contexts slot _

  hypercall_others : OthersStay slot d.contexts (played (hypercall h slot c d) w).answer.control.contexts
  hypercall_others = by_kinds (λ t. OthersStay slot d.contexts t.answer.control.contexts) h slot c d w kind_others

module _ (slot : ℕ) (d : Domain) where
  abbrev Others : DomainStepped → Type 0
  Others s = OthersStay slot d.control.contexts s.domain.control.contexts

  ended_others : (k : Context) (e : Ran) (w : World) → Others (played (instruction_ended slot d k e) w).answer
  unfolding instruction_ended
  ended_others k (ran.Trap cause address) w = set_others d.control.contexts slot (Some (suspended k))
  ended_others k ran.Ecall w =
      by_ecall (λ t. Others t.answer) slot d k w (hypercall_others (hypercall_of k) slot k d.control w)
  ended_others k ran.Stopped w =
      λ i away. same_stay (context_at d.control.contexts i) (context_at d.control.contexts i) refl
  ended_others k _ w = set_others d.control.contexts slot (Some k)

  copied_others : (k : Context) (e : Copied) → Others (copy_ended slot d k e)
  unfolding copy_ended
  copied_others k copied.CallReady = set_others d.control.contexts slot (Some (suspended k))
  copied_others k (copied.Absent cause address) = set_others d.control.contexts slot (Some (suspended k))
  copied_others k copied.Stopped =
      λ i away. same_stay (context_at d.control.contexts i) (context_at d.control.contexts i) refl
  copied_others k _ = set_others d.control.contexts slot (Some k)

  phase_others : (p : Phase) (c : Context) (w : World) → Others (played (phase_step p slot c d) w).answer
  unfolding phase_step
  phase_others Plain c w =
      let t = played (instruction_inside d.control.number d.control.resources c) w in
      by_plain (λ u. Others u.answer) slot c d w
      (written_others t.answer.wrote _ slot d.control.contexts
      (ended_others t.answer.context t.answer.ending t.world))
  phase_others (CopyIn done) c w =
      let k = (played (copy_in_step d.control.number d.control.resources c done) w).answer in
      by_copy_in (λ u. Others u.answer) done slot c d w (copied_others k.context k.ending)
  phase_others Waiting c w = set_others d.control.contexts slot (Some c)
  phase_others (CopyOut done total) c w =
      let k = (played (copy_out_step d.control.number d.control.resources c done total) w).answer in
      by_copy_out (λ u. Others u.answer) done total slot c d w
      (written_others k.wrote _ slot d.control.contexts (copied_others k.context k.ending))

  step_if_others : (o : Option Context) (w : World) → Others (played (step_if o slot d) w).answer
  unfolding step_if
  step_if_others None w = λ i away. same_stay (context_at d.control.contexts i) (context_at d.control.contexts i) refl
  step_if_others (Some c) w = phase_others c.phase c w

  step_others : (w : World) → Others (domain_step slot d w).answer
  unfolding domain_step domain_script
  step_others w = step_if_others (context_at d.control.contexts slot) w

-- An interrupt, and a resuming.

all_same : (xs : List (Option Context)) → AllStay xs xs
all_same xs k = same_stay (context_at xs k) (context_at xs k) refl

interrupt_if_all : (o : Option Context) (slot : ℕ) (d : Control) → context_at d.contexts slot ≡ o →
    AllStay d.contexts (interrupt_if o slot d).control.contexts
unfolding interrupt_if
interrupt_if_all None slot d there = all_same d.contexts
interrupt_if_all (Some c) slot d there = set_stay d.contexts slot c (suspended c) there (Same refl)

interrupt_all : (slot : ℕ) (d : Control) → AllStay d.contexts (interrupt slot d).control.contexts
unfolding interrupt
interrupt_all slot d = interrupt_if_all (context_at d.contexts slot) slot d refl

finish_by : (b : Bool) (answer : ℕ) (c : Context) →
    (cond b (in_phase (CopyOut 0 answer) (set_word c 10 answer)) (in_phase Plain (set_word c 10 answer))).regs
    ≡ with_register c.regs 10 answer
finish_by true answer c = refl
finish_by false answer c = refl

finish_regs : (answer : ℕ) (c : Context) → (finish_call answer c).regs ≡ with_register c.regs 10 answer
unfolding finish_call
finish_regs answer c = finish_by _ answer c

answered_by : (p : Phase) (answer : ℕ) (c k : Context) → c.phase ≡ p → k.regs ≡ c.regs →
    RegistersStay c (answer_in p answer k)
unfolding answer_in
answered_by Waiting answer c k is same =
    Answered is answer (finish_regs answer k ∙ ap (λ (regs : List ℕ). with_register regs 10 answer) same)
answered_by _ answer c k is same = Same same

taken_all : (slot answer : ℕ) (c k : Context) (o : Option Context) (d : Control) (xs : List (Option Context)) →
    context_at xs slot ≡ Some c → k.phase ≡ c.phase → k.regs ≡ c.regs → d.contexts ≡ slice_set xs slot (Some k) →
    o ≡ context_at d.contexts slot → AllStay xs (answer_taken slot answer o d).contexts
unfolding answer_taken
taken_all slot answer c k None d xs there phase regs is found =
    subst (AllStay xs) (sym is) (set_stay xs slot c k there (Same regs))
taken_all slot answer c k (Some z) d xs there phase regs is found =
    let same : k ≡ z =
    set_is xs slot k z (ap (λ (l : List (Option Context)). context_at l slot) (sym is) ∙ sym found) in
    let made : slice_set d.contexts slot (Some (answer_in z.phase answer z))
    ≡ slice_set xs slot (Some (answer_in k.phase answer k)) =
    ap (λ (l : List (Option Context)). slice_set l slot (Some (answer_in z.phase answer z))) is
    ∙ set-set xs slot (Some k) (Some (answer_in z.phase answer z))
    ∙ ap (λ (y : Context). slice_set xs slot (Some (answer_in y.phase answer y))) (sym same) in
    subst (AllStay xs) (sym made)
    (set_stay xs slot c (answer_in k.phase answer k) there (answered_by k.phase answer c k (sym phase) regs))

told_all : (slot answer : ℕ) (c k : Context) (d : Control) (xs : List (Option Context)) →
    context_at xs slot ≡ Some c → k.phase ≡ c.phase → k.regs ≡ c.regs → d.contexts ≡ slice_set xs slot (Some k) →
    AllStay xs (resume_told slot answer (Ok tt) d).control.contexts
unfolding resume_told
told_all slot answer c k d xs there phase regs is =
    taken_all slot answer c k (context_at d.contexts slot) d xs there phase regs is refl

refused_all : (slot answer : ℕ) (f : ResumeFault) (d : Control) →
    AllStay d.contexts (resume_told slot answer (Err f) d).control.contexts
unfolding resume_told
refused_all slot answer f d = all_same d.contexts

abbrev Tells : ℕ → ℕ → Control → Resumed → Type 0
Tells slot answer d made =
    AllStay d.contexts (resume_told slot answer made.answer (record d { contexts = made.contexts })).control.contexts

resume_if_all : (slot hart answer : ℕ) (o : Option Context) (d : Control) → context_at d.contexts slot ≡ o →
    Tells slot answer d (resume_if slot hart o d.contexts)
unfolding resume_if
resume_if_all slot hart answer None d there = refused_all slot answer _ d
resume_if_all slot hart answer (Some c) d there =
    let k : Context = record c { on = Some (record { 0 = hart }) } in
    either (Tells slot answer d) (is_some c.on) _ (record { answer = Ok tt; contexts = with_context slot k d.contexts })
    (refused_all slot answer _ d)
    (told_all slot answer c k (record d { contexts = with_context slot k d.contexts }) d.contexts there refl refl refl)

resume_all : (slot hart answer : ℕ) (d : Control) → AllStay d.contexts (resume_slot slot hart answer d).control.contexts
unfolding resume_slot resume_at
resume_all slot hart answer d = resume_if_all slot hart answer (context_at d.contexts slot) d refl

-- The programs of a machine.

abbrev context_in : List Domain → ℕ → ℕ → Option Context
context_in domains d k =
    option_and_then (λ (x : Domain). context_at x.control.contexts k) (slice_get domains d)

abbrev DomainsStay : List Domain → List Domain → Type 0
DomainsStay domains domains' = (d k : ℕ) → Stay (context_in domains d k) (context_in domains' d k)

in_is : (domains : List Domain) (d k : ℕ) (x : Domain) → slice_get domains d ≡ Some x →
    context_in domains d k ≡ context_at x.control.contexts k
in_is domains d k x there = ap (option_and_then (λ (y : Domain). context_at y.control.contexts k)) there

-- one program is another, all of whose contexts stay, or all but one
set_in : (domains : List Domain) (e : ℕ) (found made : Domain) (d k : ℕ) → slice_get domains e ≡ Some found →
    (d ≡ e → Stay (context_at found.control.contexts k) (context_at made.control.contexts k)) →
    Stay (context_in domains d k) (context_in (slice_set domains e made) d k)
set_in domains e found made d k there stay x y is at = elim (decided d e) [
  | inl same ↦
      let was : context_in domains d k ≡ context_at found.control.contexts k =
      in_is domains d k found (ap (slice_get domains) same ∙ there) in
      let now : context_in (slice_set domains e made) d k ≡ context_at made.control.contexts k =
      in_is (slice_set domains e made) d k made
      (ap (slice_get (slice_set domains e made)) same ∙ get_set_same domains e found made there) in
      stay same x y (sym was ∙ is) (sym now ∙ at)
  | inr other ↦
      let now : context_in (slice_set domains e made) d k ≡ context_in domains d k =
      ap (option_and_then (λ (z : Domain). context_at z.control.contexts k))
      (slice_get-set_other domains e d made other) in
      same_stay (context_in domains d k) (context_in (slice_set domains e made) d k) now x y is at
]

same_domains : (domains domains' : List Domain) → domains' ≡ domains → DomainsStay domains domains'
same_domains domains domains' same d k =
    same_stay (context_in domains d k) (context_in domains' d k) (ap (λ (l : List Domain). context_in l d k) same)

-- A hart outside.

root_stays : (j : Joint) (satp ctx reply : ℕ) (was : Domain) (control : Control) (a : Admitted)
    (answer : Result (Unit {0}) ResumeFault) → slice_get j.domains (domain_of ctx) ≡ Some was →
    AllStay was.control.contexts control.contexts →
    DomainsStay j.domains (by_root j satp ctx reply was control a answer).joint.domains
unfolding by_root
root_stays j satp ctx reply was control a (Err fault) there stay = same_domains j.domains j.domains refl
root_stays j satp ctx reply was control a (Ok done) there stay =
    λ d k. set_in j.domains (domain_of ctx) was (record was { control = control }) d k there (λ same. stay k)

context_stays : (j : Joint) (satp ctx reply : ℕ) (was : Domain) (control : Control)
    (answer : Result (Unit {0}) ResumeFault) → slice_get j.domains (domain_of ctx) ≡ Some was →
    AllStay was.control.contexts control.contexts →
    DomainsStay j.domains (by_context j satp ctx reply was control answer).joint.domains
unfolding by_context
context_stays j satp ctx reply was control (Err fault) there stay = same_domains j.domains j.domains refl
context_stays j satp ctx reply was control (Ok done) there stay =
    root_stays j satp ctx reply was control _ _ there stay

domain_stays : (j : Joint) (hart satp ctx reply : ℕ) (found : Option Domain) →
    slice_get j.domains (domain_of ctx) ≡ found →
    DomainsStay j.domains (by_domain j hart satp ctx reply found).joint.domains
unfolding by_domain
domain_stays j hart satp ctx reply None there = same_domains j.domains j.domains refl
domain_stays j hart satp ctx reply (Some was) there =
    context_stays j satp ctx reply was _ _ there (resume_all (slot_of ctx) hart reply was.control)

resume_stays : (j : Joint) (hart satp ctx reply : ℕ) →
    DomainsStay j.domains (resume j hart satp ctx reply).joint.domains
unfolding resume by_domain by_context by_root
resume_stays j hart satp ctx reply = domain_stays j hart satp ctx reply _ refl

outside_ended_stays : (j : Joint) (number : ℕ) (items : List Item) (e : Kernel) →
    DomainsStay j.domains (outside_ended j number items e).joint.domains
unfolding outside_ended
outside_ended_stays j number items (Resume ctx reply) = resume_stays j number _ ctx reply
outside_ended_stays j number items _ = same_domains j.domains j.domains refl

outside_stays : (j : Joint) (number : ℕ) (h : Hart) → DomainsStay j.domains (outside_step j number h).joint.domains
unfolding outside_step after_outside
outside_stays j number h = outside_ended_stays _ number _ _

-- A hart inside.

module _ (m : Moment) (d k : ℕ)
    (none : (s : StepsInside m) → domain_of s.ctx ≡ d → slot_of s.ctx ≡ k → ⊥)
  where
    abbrev Stays : Turn → Type 0
    Stays t = Stay (context_in m.joint.domains d k) (context_in t.joint.domains d k)

    still : (t : Turn) → t.joint.domains ≡ m.joint.domains → Stays t
    still t same = same_domains m.joint.domains t.joint.domains same d k

    module _ (ctx : ℕ) (runs : (hart_of_step m).inside ≡ Some ctx) (found : Domain)
        (there : slice_get m.joint.domains (domain_of ctx) ≡ Some found)
      where
        turned : (made : Domain) (t : Turn) → t.joint.domains ≡ slice_set m.joint.domains (domain_of ctx) made →
            (d ≡ domain_of ctx → Stay (context_at found.control.contexts k) (context_at made.control.contexts k)) →
            Stays t
        turned made t domains stay =
            subst (λ (l : List Domain). Stay (context_in m.joint.domains d k) (context_in l d k)) (sym domains)
            (set_in m.joint.domains (domain_of ctx) found made d k there stay)

        here_stays : (o : Option Context) → context_at found.control.contexts (slot_of ctx) ≡ o →
            runs_on (next_hart m) o ≡ true →
            interrupt_due (ticked (hart_of_step m)).mode (ticked (hart_of_step m)).csrs ≡ false →
            Stays (by_interrupt false m.joint (next_hart m) (ticked (hart_of_step m)) (domain_of ctx) (slot_of ctx) found)
        unfolding by_interrupt after_domain_step
        here_stays None is on goes = absurd (false≢true on)
        here_stays (Some c) is on goes =
            let e = domain_of ctx in
            let slot = slot_of ctx in
            let h = ticked (hart_of_step m) in
            let w : World =
            Cloaked (cloak_of m.joint.memory h e (pages_for found (context_at found.control.contexts slot))) in
            let t = domain_step slot found w in
            let s : StepsInside m = record {
              ctx = ctx;
              runs = runs;
              goes = goes;
              domain = found;
              program = there;
              context = c;
              there = is;
              here = on;
            } in
            let j' : Joint = record (with_domain e t.answer.domain m.joint) {
              memory = memory_of t.world m.joint.memory;
            } in
            turned t.answer.domain (by_interrupt false m.joint (next_hart m) h e slot found)
            (domain_ended_so e j' (next_hart m) h e t.world t.answer.went).domains
            (λ same. step_others slot found w k (λ at. none s (sym same) (sym at)))

        due_stays : (due : Bool) → interrupt_due (ticked (hart_of_step m)).mode (ticked (hart_of_step m)).csrs ≡ due →
            runs_on (next_hart m) (context_at found.control.contexts (slot_of ctx)) ≡ true →
            Stays (by_interrupt due m.joint (next_hart m) (ticked (hart_of_step m)) (domain_of ctx) (slot_of ctx) found)
        unfolding by_interrupt after_interrupt
        due_stays true is on =
            let e = domain_of ctx in
            let h = ticked (hart_of_step m) in
            let made : Domain = record found { control = (interrupt (slot_of ctx) found.control).control } in
            turned made (by_interrupt true m.joint (next_hart m) h e (slot_of ctx) found)
            (interrupt_ended_so e _ (next_hart m) h (item.Timer e ∷ []) _).domains
            (λ same. interrupt_all (slot_of ctx) found.control k)
        due_stays false is on = here_stays (context_at found.control.contexts (slot_of ctx)) refl on is

        running_stays : (on : Bool) →
            runs_on (next_hart m) (context_at found.control.contexts (slot_of ctx)) ≡ on →
            Stays (by_running on m.joint (next_hart m) (ticked (hart_of_step m)) ctx found)
        unfolding by_running
        running_stays false is =
            still (by_running false m.joint (next_hart m) (ticked (hart_of_step m)) ctx found) refl
        running_stays true is =
            due_stays (interrupt_due (ticked (hart_of_step m)).mode (ticked (hart_of_step m)).csrs) refl is

    inside_stays : (ctx : ℕ) (found : Option Domain) → (hart_of_step m).inside ≡ Some ctx →
        slice_get m.joint.domains (domain_of ctx) ≡ found →
        Stays (inside_step m.joint (next_hart m) (ticked (hart_of_step m)) ctx found)
    unfolding inside_step
    inside_stays ctx None runs there =
        still (inside_step m.joint (next_hart m) (ticked (hart_of_step m)) ctx None) refl
    inside_stays ctx (Some found) runs there = running_stays ctx runs found there _ refl

    turn_stays : (inside : Option ℕ) → (hart_of_step m).inside ≡ inside →
        Stays (turn_of m.joint (next_hart m) (hart_of_step m) inside)
    unfolding turn_of
    turn_stays None runs = outside_stays m.joint (next_hart m) (hart_of_step m) d k
    turn_stays (Some ctx) runs = inside_stays ctx _ runs refl

    -- The end of a domain.

    none_left : (x : Domain) → context_at (ended_domain x).control.contexts k ≡ None
    unfolding ended_domain
    none_left x = ended_empty x refl k

    end_stays : (e : ℕ) (old : Domain) (v : Violation) (t : Turn) → slice_get t.joint.domains e ≡ Some old → Stays t →
        Stays (end_domain e old v t)
    unfolding end_domain
    end_stays e old v t there stay x y is at = elim (decided d e) [
      | inl same ↦
          let gone : context_in (slice_set t.joint.domains e (ended_domain old)) d k ≡ None =
          in_is (slice_set t.joint.domains e (ended_domain old)) d k (ended_domain old)
          (ap (slice_get (slice_set t.joint.domains e (ended_domain old))) same
          ∙ get_set_same t.joint.domains e old (ended_domain old) there)
          ∙ none_left old in
          let both : None ≡ Some y = sym gone ∙ at in
          absurd cc
      | inr other ↦
          stay x y is
          (sym (ap (option_and_then (λ (z : Domain). context_at z.control.contexts k))
          (slice_get-set_other t.joint.domains e d (ended_domain old) other)) ∙ at)
    ]

    once_stays : (over : Bool) (e : ℕ) (old : Domain) (v : Violation) (t : Turn) →
        slice_get t.joint.domains e ≡ Some old → Stays t → Stays (ends_once over e old v t)
    unfolding ends_once
    once_stays true e old v t there stay = stay
    once_stays false e old v t there stay = end_stays e old v t there stay

    resumed_stays : (found : Option Domain) (e : ℕ) (v : Violation) (t : Turn) → slice_get t.joint.domains e ≡ found →
        Stays t → Stays (ends_resumed found e v t)
    unfolding ends_resumed
    resumed_stays None e v t there stay = stay
    resumed_stays (Some old) e v t there stay = once_stays old.control.ended e old v t there stay

    asked_stays : (found : Option Domain) (e : ℕ) (v : Violation) (t : Turn) → slice_get t.joint.domains e ≡ found →
        Stays t → Stays (ends_asked found e v t)
    unfolding ends_asked
    asked_stays None e v t there stay = stay
    asked_stays (Some old) e v t there stay = end_stays e old v t there stay

    answered_stays : (inside : Option ℕ) (met : Option Violation) (t : Turn) → Stays t →
        Stays (answers_violation inside met t)
    unfolding answers_violation
    answered_stays inside None t stay = stay
    answered_stays None (Some v) t stay = resumed_stays _ (domain_met v) v t refl stay
    answered_stays (Some ctx) (Some v) t stay = asked_stays _ (domain_of ctx) v t refl stay

    step_stays : Stays (joint_step m)
    unfolding joint_step
    step_stays =
        let h = hart_of_step m in
        let t = turn_of m.joint (next_hart m) h h.inside in
        answered_stays h.inside t.violation t (turn_stays h.inside refl)

number_is : (a b : ℕ) → domain_of a ≡ domain_of b → slot_of a ≡ slot_of b → a ≡ b
number_is a b d s = let e : a / 8 ≡ b / 8 = d in let f : a % 8 ≡ b % 8 = s in omega (arith, e, f)

pub runs_keep_registers : RunsKeepRegisters
runs_keep_registers b from budget r runs n t is ctx other was after before later =
    let made = steps_made b from budget r runs n t is in
    let stays = step_stays (moment_at b r n) (domain_of ctx) (slot_of ctx)
    (λ s d k. other s (number_is s.ctx ctx d k)) in
    stays was after before (ap (λ (x : Turn). context_running x.joint ctx) made.step ∙ later)
