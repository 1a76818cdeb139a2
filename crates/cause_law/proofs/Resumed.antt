-- Resuming: it is refused if there is no such context, or it runs, or its space has another page table, each by its
-- violation.
use Rattle.std.proofs.Common.{◌≡◌, ◌∙◌, ℕ, Bool, true, false, cond, Option, Some, None, Result, Ok, Err, is_some, refl, ap}
use Rattle.std.specs.Prelude.{slice_get, option_and_then}
use Rattle.std.proofs.lemmas.Bool.{false≢true}
use Rattle.cloak_base.specs.declared.causes.Violation.{Violation}
use Rattle.cloak_base.specs.declared.causes.Violation.TheVariants as violation
use Rattle.cloak_base.specs.declared.names.HartId.{HartId}
use Rattle.cloak_base.specs.declared.names.SpaceId.{SpaceId}
use Rattle.cloak_model.specs.declared.context.ResumeFault.{ResumeFault}
use Rattle.cloak_model.specs.declared.context.ResumeFault.TheVariants.{Busy, WrongRoot}
use Rattle.cloak_model.specs.Contexts.{Context, Resumed, Admitted, context_at, with_context, domain_of, slot_of, resume_if, resume_at, admit, is_root}
use Rattle.cloak_model.specs.DomainState.{Control, Domain}
use Rattle.cloak_model.specs.DomainStep.{resume_told, resume_slot}
use Rattle.cloak_model.specs.Parts.{Joint}
use Rattle.cloak_model.specs.Resuming.{AfterResume, violated, space_of, resume}
use Rattle.cloak_model.proofs.ResumeParts.{by_root, by_context, by_domain}
use Rattle.cause_law.specs.Causes.{context_running}
use Rattle.cause_law.proofs.Kept.{IsKept}

-- the space of a context, by the context's number
abbrev pub space_id : ℕ → Context → SpaceId
space_id ctx c = record { domain = domain_of ctx; number = c.space }

-- the violation of a resuming, by the context that is there
abbrev pub refusal : Joint → ℕ → ℕ → Option Context → Option Violation
refusal j satp ctx None = Some (violation.Context ctx)
refusal j satp ctx (Some c) =
    cond (is_some c.on) (Some (violation.Context ctx))
    (cond (is_root satp (j.memory.ledger.root (space_id ctx c))) None (Some (violation.Mapping ctx satp)))

-- By the page table.

root_by : (j : Joint) (satp ctx reply : ℕ) (was : Domain) (control : Control) (b : Bool) (a a' : Admitted) →
    a.answer ≡ Ok tt → a'.answer ≡ Err WrongRoot →
    (by_root j satp ctx reply was control (cond b a a') (cond b a a').answer).violation
    ≡ cond b None (Some (violation.Mapping ctx satp))
unfolding by_root
root_by j satp ctx reply was control true a a' ok err =
    ap (λ (answer : Result (Unit {0}) ResumeFault). (by_root j satp ctx reply was control a answer).violation) ok
root_by j satp ctx reply was control false a a' ok err =
    ap (λ (answer : Result (Unit {0}) ResumeFault). (by_root j satp ctx reply was control a' answer).violation) err

admitted_by : (j : Joint) (satp ctx reply : ℕ) (was : Domain) (control : Control) (s : SpaceId) →
    let a = admit s satp j.memory.ledger.root in
    (by_root j satp ctx reply was control a a.answer).violation
    ≡ cond (is_root satp (j.memory.ledger.root s)) None (Some (violation.Mapping ctx satp))
unfolding admit
admitted_by j satp ctx reply was control s = root_by j satp ctx reply was control _ _ _ refl refl

-- By the context.

on_by : (j : Joint) (hart satp ctx reply : ℕ) (was : Domain) (c : Context) (on : Option HartId) →
    context_at was.control.contexts (slot_of ctx) ≡ Some c →
    let made : Resumed = cond (is_some on) (record { answer = Err Busy; contexts = was.control.contexts })
    (record {
      answer = Ok tt;
      contexts = with_context (slot_of ctx) (record c { on = Some (record { 0 = hart }) }) was.control.contexts;
    }) in
    let r = resume_told (slot_of ctx) reply made.answer (record was.control { contexts = made.contexts }) in
    (by_context j satp ctx reply was r.control r.answer).violation
    ≡ cond (is_some on) (Some (violation.Context ctx))
    (cond (is_root satp (j.memory.ledger.root (space_id ctx c))) None (Some (violation.Mapping ctx satp)))
unfolding by_context resume_told
on_by j hart satp ctx reply was c (Some h) is = refl
on_by j hart satp ctx reply was c None is =
    admitted_by j satp ctx reply was _ _
    ∙ ap (λ (o : Option Context).
    cond (is_root satp (j.memory.ledger.root (record { domain = domain_of ctx; number = space_of o }))) None
    (Some (violation.Mapping ctx satp))) is

slot_by : (j : Joint) (hart satp ctx reply : ℕ) (was : Domain) (o : Option Context) →
    context_at was.control.contexts (slot_of ctx) ≡ o →
    let made = resume_if (slot_of ctx) hart o was.control.contexts in
    let r = resume_told (slot_of ctx) reply made.answer (record was.control { contexts = made.contexts }) in
    (by_context j satp ctx reply was r.control r.answer).violation ≡ refusal j satp ctx o
unfolding by_context resume_told resume_if
slot_by j hart satp ctx reply was None is = refl
slot_by j hart satp ctx reply was (Some c) is = on_by j hart satp ctx reply was c c.on is

domain_by : (j : Joint) (hart satp ctx reply : ℕ) (found : Option Domain) →
    (by_domain j hart satp ctx reply found).violation
    ≡ refusal j satp ctx (option_and_then (λ (d : Domain). context_at d.control.contexts (slot_of ctx)) found)
unfolding by_domain resume_slot resume_at
domain_by j hart satp ctx reply None = refl
domain_by j hart satp ctx reply (Some was) = slot_by j hart satp ctx reply was _ refl

-- the violation of a resuming
pub resume_refuses : (j : Joint) (hart satp ctx reply : ℕ) →
    (resume j hart satp ctx reply).violation ≡ refusal j satp ctx (context_running j ctx)
unfolding resume by_domain by_context by_root
resume_refuses j hart satp ctx reply = domain_by j hart satp ctx reply (slice_get j.domains (domain_of ctx))

-- What it leaves.

pub record Leaves (j : Joint) (r : AfterResume) : Type 0 where
  pub kept : IsKept j.memory → IsKept r.joint.memory
  pub harts : r.joint.harts ≡ j.harts
  pub ended : r.joint.ended ≡ j.ended
  pub refused : r.joint.refused ≡ j.refused
  -- if it is refused
  pub domains : is_some r.violation ≡ true → r.joint.domains ≡ j.domains

refused_leaves : (j : Joint) (v : Violation) → Leaves j (violated j v)
refused_leaves j v = record { kept = λ kept. kept; harts = refl; ended = refl; refused = refl; domains = λ some. refl }

root_leaves : (j : Joint) (satp ctx reply : ℕ) (was : Domain) (control : Control) (a : Admitted)
    (answer : Result (Unit {0}) ResumeFault) → Leaves j (by_root j satp ctx reply was control a answer)
unfolding by_root
root_leaves j satp ctx reply was control a (Err fault) = refused_leaves j (violation.Mapping ctx satp)
root_leaves j satp ctx reply was control a (Ok done) = record {
  kept = λ kept. record { places = kept.places; once = kept.once };
  harts = refl;
  ended = refl;
  refused = refl;
  domains = λ some. absurd (false≢true some);
}

context_leaves : (j : Joint) (satp ctx reply : ℕ) (was : Domain) (control : Control)
    (answer : Result (Unit {0}) ResumeFault) → Leaves j (by_context j satp ctx reply was control answer)
unfolding by_context
context_leaves j satp ctx reply was control (Err fault) = refused_leaves j (violation.Context ctx)
context_leaves j satp ctx reply was control (Ok done) = root_leaves j satp ctx reply was control _ _

domain_leaves : (j : Joint) (hart satp ctx reply : ℕ) (found : Option Domain) →
    Leaves j (by_domain j hart satp ctx reply found)
unfolding by_domain
domain_leaves j hart satp ctx reply None = refused_leaves j (violation.Context ctx)
domain_leaves j hart satp ctx reply (Some was) = context_leaves j satp ctx reply was _ _

pub resume_leaves : (j : Joint) (hart satp ctx reply : ℕ) → Leaves j (resume j hart satp ctx reply)
unfolding resume by_domain by_context by_root
resume_leaves j hart satp ctx reply = domain_leaves j hart satp ctx reply _
