-- A resuming in parts, for proofs that go by cases: each is what the definition is, unfolded.
use Rattle.std.proofs.Common.{◌≡◌, ℕ, List, [], ◌∷◌, Option, Some, None, Result, Ok, Err, refl, slice_set}
use Rattle.cloak_base.specs.declared.names.SpaceId.{SpaceId}
use Rattle.cloak_base.specs.declared.causes.Violation.TheVariants as violation
use Rattle.cloak_model.specs.declared.context.ResumeFault.{ResumeFault}
use Rattle.cloak_model.specs.Items.{Resume}
use Rattle.cloak_model.specs.Cloaking.{CloakedMemory}
use Rattle.cloak_model.specs.Contexts.{Context, context_at, domain_of, slot_of, Admitted, admit}
use Rattle.cloak_model.specs.DomainState.{Control, Domain}
use Rattle.cloak_model.specs.DomainStep as domain
use Rattle.cloak_model.specs.DomainStep.{answer_taken, resume_told, resume_slot, interrupt_if}
use Rattle.cloak_model.specs.Parts.{Joint}
use Rattle.cloak_model.specs.Resuming.{AfterResume, violated, or_none, or_refused, space_of}

-- these page tables are recorded
abbrev pub with_roots : (SpaceId → Option ℕ) → CloakedMemory → CloakedMemory
with_roots root m = record m { ledger = record m.ledger { root = root } }

-- contexts and resources of a domain are these
abbrev pub with_domain_control : ℕ → Domain → Control → List Domain → List Domain
with_domain_control d was control domains = slice_set domains d (record was { control = control })

-- by the answer of the admission
unfoldable pub by_root : Joint → ℕ → ℕ → ℕ → Domain → Control → Admitted → Result (Unit {0}) ResumeFault → AfterResume
by_root j satp ctx reply d control admitted answer =
    or_refused answer (violated j (violation.Mapping ctx satp)) (record {
      joint = record j {
        domains = with_domain_control (domain_of ctx) d control j.domains;
        memory = with_roots admitted.root j.memory;
      };
      items = Resume (domain_of ctx) ctx reply ∷ [];
      violation = None;
    })

-- by the answer of the domain
unfoldable pub by_context : Joint → ℕ → ℕ → ℕ → Domain → Control → Result (Unit {0}) ResumeFault → AfterResume
by_context j satp ctx reply d control answer =
    or_refused answer (violated j (violation.Context ctx)) (
    let admitted = admit
    (record {
      domain = domain_of ctx;
      number = space_of (context_at d.control.contexts (slot_of ctx));
    }) satp j.memory.ledger.root in
    by_root j satp ctx reply d control admitted admitted.answer)

-- by the domain
unfoldable pub by_domain : Joint → ℕ → ℕ → ℕ → ℕ → Option Domain → AfterResume
by_domain j hart satp ctx reply found =
    or_none found (violated j (violation.Context ctx)) (λ d.
    let r = domain.resume_slot (slot_of ctx) hart reply d.control in
    by_context j satp ctx reply d r.control r.answer)

-- What a resume leaves of a domain.

pub answer_taken_number : (slot answer : ℕ) (o : Option Context) (d : Control) →
    (answer_taken slot answer o d).number ≡ d.number
unfolding answer_taken
answer_taken_number slot answer None d = refl
answer_taken_number slot answer (Some c) d = refl

answer_taken_resources : (slot answer : ℕ) (o : Option Context) (d : Control) →
    (answer_taken slot answer o d).resources ≡ d.resources
unfolding answer_taken
answer_taken_resources slot answer None d = refl
answer_taken_resources slot answer (Some c) d = refl

resume_told_resources : (slot answer : ℕ) (a : Result (Unit {0}) ResumeFault) (d : Control) →
    (resume_told slot answer a d).control.resources ≡ d.resources
unfolding resume_told
resume_told_resources slot answer (Err f) d = refl
resume_told_resources slot answer (Ok done) d = answer_taken_resources slot answer _ d

pub resume_slot_resources : (slot hart answer : ℕ) (d : Control) →
    (resume_slot slot hart answer d).control.resources ≡ d.resources
unfolding resume_slot
resume_slot_resources slot hart answer d = resume_told_resources slot answer _ _

pub interrupt_if_resources : (o : Option Context) (slot : ℕ) (d : Control) →
    (interrupt_if o slot d).control.resources ≡ d.resources
unfolding interrupt_if
interrupt_if_resources None slot d = refl
interrupt_if_resources (Some c) slot d = refl
