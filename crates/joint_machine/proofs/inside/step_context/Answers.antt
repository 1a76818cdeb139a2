use Rattle.std.proofs.Common.{◌∙◌, subst, ℕ, ap, false, refl, sym, true}
use Rattle.cloak_model.specs.Csr.{interrupt_due}
use Rattle.cloak_model.specs.Hart.{Hart}
use Rattle.cloak_model.proofs.Emitting.{some_then}
use Rattle.joint_machine.proofs.Insides.{begun_is, turns_interrupted, turns_now, turns_stepping, steps_on}
use Rattle.cloak_base.specs.declared.names.SpaceId.{SpaceId}
use Rattle.space_law.specs.Mapping.{AreWhole}
use Rattle.joint_machine.proofs.Mapped.{makes_due, makes_stepped, whole_of}
use Rattle.joint_machine.proofs.Running.{is_taken, taken_slot}
use Rattle.joint_machine.proofs.Tracked.{goes_due, goes_same, goes_stepped}
use Rattle.joint_machine.proofs.inside.step_context.Goals as goal

pub returns-then-due-clause-turns : goal.returns-then-due-clause-turns
returns-then-due-clause-turns g c j was stands holds are unclashed =
    let due = sym (ap (λ (h : Hart). interrupt_due h.mode h.csrs) c.h.view_is) ∙ sym c.due.ensures ∙ c.if-due.true in
    turns_now g.E.Emit.gave _ _ c.args.h.now _ _ _ _ _ j c.args.number c.args.d c.args.slot was _ true due
    (λ none. turns_interrupted g.E.Emit.gave _ _ c.args.h.now _ _ _ c.args.memory.now c.take_interrupt.new.memory _ j c.args.number c.args.d c.args.slot was refl holds
    c.take_interrupt.ensures.unmarks are (c.take_interrupt.ensures.interrupts j was stands)) unclashed

pub returns-clause-emits_some : goal.returns-clause-emits_some
returns-clause-emits_some g c = some_then c.step_domain.ensures.emits_some c.go_on.ensures.emits_some

pub returns-clause-turns : goal.returns-clause-turns
returns-clause-turns g c j was stands holds are unclashed =
    let due = sym (ap (λ (h : Hart). interrupt_due h.mode h.csrs) c.h.view_is) ∙ sym c.due.ensures ∙ c.if-due.false in
    let v = c.regime_of-regime.ensures in
    let regime = c.regime_of-regime.result in
    let begins = begun_is j.memory regime c.args.slot was c.args.h.now c.args.d v.satp v.sum v.mxr v.domain in
    turns_now g.E.Emit.gave _ _ c.args.h.now _ _ _ _ _ j c.args.number c.args.d c.args.slot was _ false due
    (turns_stepping g.E.Emit.gave _ _ _ c.args.h.now _ _ c.args.roots.now _ c.end_space.new.memory c.go_on.new.memory c.step_domain.new.stepped _ j c.args.number c.args.d c.args.slot was regime begins are
    (λ u. steps_on g.E.Emit.gave _ _ c.step_domain.new.memory c.end_space.new.memory _ _ _ c.end_space.ensures.holds
    (c.step_domain.ensures.steps j.memory was holds stands u)) (λ after w met same. c.go_on.ensures.goes_on after w met same)) unclashed

pub returns-then-due-clause-goes : goal.returns-then-due-clause-goes
returns-then-due-clause-goes g c j was stands holds unclashed =
    let due = sym (ap (λ (h : Hart). interrupt_due h.mode h.csrs) c.h.view_is) ∙ sym c.due.ensures ∙ c.if-due.true in
    goes_same c.args.memory.now c.args.memory.now c.take_interrupt.new.memory _ c.take_interrupt.ensures.unmarks.same
    (goes_due c.args.memory.now _ j c.args.h.now c.args.d c.args.slot was _ due)

pub returns-clause-goes : goal.returns-clause-goes
returns-clause-goes g c j was stands holds unclashed =
    let due = sym (ap (λ (h : Hart). interrupt_due h.mode h.csrs) c.h.view_is) ∙ sym c.due.ensures ∙ c.if-due.false in
    let v = c.regime_of-regime.ensures in
    let regime = c.regime_of-regime.result in
    let begins = begun_is j.memory regime c.args.slot was c.args.h.now c.args.d v.satp v.sum v.mxr v.domain in
    let there = taken_slot c.args.domain.now was c.args.slot c.args.space stands c.requires.runs in
    goes_same c.args.memory.now c.end_space.new.memory c.go_on.new.memory _ c.go_on.ensures.same
    (goes_stepped c.args.memory.now c.step_domain.new.memory c.end_space.new.memory _ j c.args.number c.args.h.now c.args.d c.args.slot was there.0 _ regime c.step_domain.new.stepped.went
    due there.1.0 (ap (λ (n : ℕ). let s : SpaceId = record { domain = c.args.d; number = n } in s) there.1.1) begins
    (λ u. ((c.step_domain.ensures.steps j.memory was holds stands u).went, c.step_domain.ensures.goes j.memory was holds stands u))
    c.end_space.ensures.goes unclashed)

pub returns-then-due-clause-makes : goal.returns-then-due-clause-makes
returns-then-due-clause-makes g c j was mapped stands same =
    let due = sym (ap (λ (h : Hart). interrupt_due h.mode h.csrs) c.h.view_is) ∙ sym c.due.ensures ∙ c.if-due.true in
    makes_due mapped _ j c.args.h.now c.args.d c.args.slot was _ due

pub returns-clause-makes : goal.returns-clause-makes
returns-clause-makes g c j was mapped stands same =
    let due = sym (ap (λ (h : Hart). interrupt_due h.mode h.csrs) c.h.view_is) ∙ sym c.due.ensures ∙ c.if-due.false in
    let there = taken_slot c.args.domain.now was c.args.slot c.args.space stands c.requires.runs in
    makes_stepped mapped _ j c.args.h.now c.args.d c.args.slot was there.0 due there.1.0
    (subst (λ (n : ℕ). AreWhole was n) (sym there.1.1) (whole_of c.args.domain.now was _ stands c.whole.ensures)) same

pub take_interrupt-requires : goal.take_interrupt-requires
take_interrupt-requires g c = record { runs = is_taken _ c.args.space c.requires.runs }

pub step_domain-requires-clause-runs : goal.step_domain-requires-clause-runs
step_domain-requires-clause-runs g c = is_taken _ c.args.space c.requires.runs
