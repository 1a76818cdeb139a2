-- The registers of contexts over the steps of a run.
use Rattle.std.proofs.Common.{◌≡◌, ◌∙◌, ℕ, suc, List, length, slice_get, Option, Some, None, refl, sym, ap, subst, arith}
use Rattle.std.specs.Prelude.{IfSome, option_and_then}
use Rattle.cloak_base.specs.Registers.{register}
use Rattle.cloak_base.specs.declared.causes.Violation.{Violation}
use Rattle.cloak_model.specs.Asking.{Told}
use Rattle.cloak_model.specs.Contexts.{Context, context_at, domain_of, slot_of}
use Rattle.cloak_model.specs.DomainState.{Domain}
use Rattle.cloak_model.specs.DomainStep.{DomainStepped, domain_step}
use Rattle.cloak_model.specs.Ending.{ended_domain}
use Rattle.cloak_model.specs.Halves.{inward_half}
use Rattle.cloak_model.specs.Hart.{Hart}
use Rattle.cloak_model.specs.Items.{Item}
use Rattle.cloak_model.specs.Joint.{Moment, Turn, next_hart, memory_of, domain_ended, with_domain, after_domain_step, end_domain, ends_asked, answers_violation, step_before_end, joint_step}
use Rattle.cloak_model.specs.KernelStep.{ticked}
use Rattle.cloak_model.specs.Parts.{Joint}
use Rattle.cloak_model.specs.World.{items_of}
use Rattle.cloak_model.proofs.Steps.{after_step}
use Rattle.kernel_isolation.specs.Isolation.{joint_until}
use Rattle.kernel_isolation.proofs.Numbers.{number_at}
use Rattle.domain_isolation.proofs.InOrder.{get_set_same}
use Rattle.frozen_state.specs.Limits.{IsContext, KeepsLimits}
use Rattle.limit_law.proofs.Runs.{runs_keep_limits}
use Rattle.page_law.proofs.OwnDraws.{is_step}
use Rattle.latest_store.specs.Moves.{Move}
use Rattle.latest_store.specs.LatestStore.{history_until}
use Rattle.latest_store.proofs.Histories.{runs_give_latest}
use Rattle.latest_store.proofs.Moved.{Agrees}
use Rattle.latest_store.proofs.Turned.{domain_ended_so}
use Rattle.cause_law.specs.Causes.{moment_at, context_running}
use Rattle.cause_law.specs.Presented.{hart_of_step, StepsInside, world_inside}
use Rattle.cause_law.proofs.Over.{ended_empty}
use Rattle.cause_law.proofs.Presented.{context_turn}
use Rattle.load_law.proofs.Runs.{steps_made}
use Rattle.context_law.specs.Registers.{registers_after, RunsHaveRegisters}
use Rattle.context_law.proofs.HypercallRegisters.{Has}
use Rattle.context_law.proofs.StepRegisters.{Registers, step_has}

-- the context of this number after a turn, if it is there, has these registers by what its program was told
abbrev TurnHas : ℕ → (List Item → List ℕ) → Turn → Type 0
TurnHas ctx regs t = Has (regs (inward_half (domain_of ctx) t.items)) (context_running t.joint ctx)

-- the context of a domain that is there
running_is : (j : Joint) (ctx : ℕ) (x : Domain) → slice_get j.domains (domain_of ctx) ≡ Some x →
    context_running j ctx ≡ context_at x.control.contexts (slot_of ctx)
running_is j ctx x there =
    ap (option_and_then (λ (d : Domain). context_at d.control.contexts (slot_of ctx))) there

no_context : (x : Domain) (slot : ℕ) → context_at (ended_domain x).control.contexts slot ≡ None
unfolding ended_domain
no_context x slot = ended_empty x refl slot

-- a domain that ends has no contexts
end_has : (ctx : ℕ) (regs : List Item → List ℕ) (x : Domain) (v : Violation) (t : Turn) →
    slice_get t.joint.domains (domain_of ctx) ≡ Some x → TurnHas ctx regs (end_domain (domain_of ctx) x v t)
unfolding end_domain
end_has ctx regs x v t there k is =
    let d = domain_of ctx in
    let j = (end_domain d x v t).joint in
    let none : context_running j ctx ≡ None =
    running_is j ctx (ended_domain x) (get_set_same t.joint.domains d x (ended_domain x) there)
    ∙ no_context x (slot_of ctx) in
    let both : None ≡ Some k = sym none ∙ is in
    absurd cc

asked_has : (found : Option Domain) (ctx : ℕ) (regs : List Item → List ℕ) (v : Violation) (t : Turn) →
    slice_get t.joint.domains (domain_of ctx) ≡ found → TurnHas ctx regs t →
    TurnHas ctx regs (ends_asked found (domain_of ctx) v t)
unfolding ends_asked
asked_has None ctx regs v t there has = has
asked_has (Some x) ctx regs v t there has = end_has ctx regs x v t there

answered_has : (met : Option Violation) (ctx : ℕ) (regs : List Item → List ℕ) (t : Turn) → TurnHas ctx regs t →
    TurnHas ctx regs (answers_violation (Some ctx) met t)
unfolding answers_violation
answered_has None ctx regs t has = has
answered_has (Some v) ctx regs t has = asked_has (slice_get t.joint.domains (domain_of ctx)) ctx regs v t refl has

-- a step of its context
stepped_has : (j : Joint) (number : ℕ) (h : Hart) (ctx : ℕ) (found : Domain) (regs : List Item → List ℕ)
    (t : Told DomainStepped) → slice_get j.domains (domain_of ctx) ≡ Some found →
    found.control.number ≡ domain_of ctx → Registers (slot_of ctx) found regs t →
    TurnHas ctx regs (after_domain_step j number h (domain_of ctx) t)
unfolding after_domain_step
stepped_has j number h ctx found regs t there own steps k is =
    let e = domain_of ctx in
    let j' : Joint = record (with_domain e t.answer.domain j) { memory = memory_of t.world j.memory } in
    let turn = domain_ended j' number h e t.world t.answer.went in
    let ended = domain_ended_so e j' number h e t.world t.answer.went in
    let told : inward_half e turn.items ≡ steps.answers =
    ended.told ∙ subst (λ (n : ℕ). inward_half n (items_of t.world) ≡ steps.answers) own steps.told in
    let here : slice_get turn.joint.domains e ≡ Some t.answer.domain =
    ap (λ (l : List Domain). slice_get l e) ended.domains ∙ get_set_same j.domains e found t.answer.domain there in
    steps.has k (sym (running_is turn.joint ctx t.answer.domain here) ∙ is) ∙ ap regs (sym told)

moment_has : (m : Moment) (s : StepsInside m) (history : List Move) → s.domain.control.number ≡ domain_of s.ctx →
    Agrees history m.joint.memory.plain →
    TurnHas s.ctx (registers_after s.context.phase history s.domain.control s.context) (joint_step m)
unfolding joint_step
moment_has m s history own agrees =
    let regs = registers_after s.context.phase history s.domain.control s.context in
    let h = ticked (hart_of_step m) in
    let told = domain_step (slot_of s.ctx) s.domain (world_inside m s) in
    let turn = after_domain_step m.joint (next_hart m) h (domain_of s.ctx) told in
    let whole : joint_step m ≡ answers_violation (Some s.ctx) turn.violation turn =
    ap (λ (o : Option ℕ). let t = step_before_end m in answers_violation o t.violation t) s.runs
    ∙ ap (λ (t : Turn). answers_violation (Some s.ctx) t.violation t) (context_turn m s) in
    subst (TurnHas s.ctx regs) (sym whole)
    (answered_has turn.violation s.ctx regs turn
    (stepped_has m.joint (next_hart m) h s.ctx s.domain regs told s.program own
    (step_has (slot_of s.ctx) s.domain s.context s.there history m.joint.memory.plain (world_inside m s) agrees
    (record { form = refl; regime = sym own; pages = refl; told = refl }))))

-- a context that is there keeps its limits

program_steady : (o : Option Domain) (slot : ℕ) (c : Context) →
    ((program : Domain) → o ≡ Some program → KeepsLimits program.control) →
    option_and_then (λ (d : Domain). context_at d.control.contexts slot) o ≡ Some c →
    (length c.regs ≡ 32) × (register c.regs 0 ≡ 0)
program_steady None slot c limits is = absurd cc
program_steady (Some program) slot c limits is =
    let here = subst (λ (o : Option Context). IfSome o (IsContext program.control.resources)) is
    ((limits program refl).contexts slot) in
    (here.steady.registers, here.steady.zero_register)

pub runs_have_registers : RunsHaveRegisters
runs_have_registers b from budget r grammar begins runs n t is s after there =
    let m : Moment = moment_at b r n in
    let made = steps_made b from budget r runs n t is in
    let low = is_step r.turns n t is in
    let history : List Move = history_until b from n r in
    let gives = runs_give_latest b from budget r grammar begins runs in
    let regs = registers_after s.context.phase history s.domain.control s.context in
    let has : TurnHas s.ctx regs t =
    subst (TurnHas s.ctx regs) made.step
    (moment_has m s history (number_at (domain_of s.ctx) m.joint.domains s.domain made.steady.programs s.program)
    (gives.pages n (omega (arith, low)))) in
    let next : joint_until (suc n) r ≡ t.joint = after_step r.opened.joint r.turns n t is in
    let steady = program_steady (slice_get t.joint.domains (domain_of s.ctx)) (slot_of s.ctx) after
    (λ program found. runs_keep_limits b from budget r grammar runs (suc n) (domain_of s.ctx) program
    (ap (λ (j : Joint). slice_get j.domains (domain_of s.ctx)) next ∙ found)) there in
    record { registers = has after there; long = steady.0; zero = steady.1 }
