-- Resuming a context, by the results of its parts.
use Rattle.std.proofs.Common.{◌≡◌, ◌≤◌, ◌∙◌, ℕ, Bool, true, false, List, [], ◌∷◌, Option, Some, None, Result, Ok, Err, length, slice_get, slice_set, refl, ap, sym, subst, if◌then◌else◌}
use Rattle.std.specs.Prelude.{is_some, is_err, OnErr}
use Rattle.std.proofs.lemmas.Bool.{false≢true}
use Rattle.cloak_base.specs.declared.names.SpaceId.{SpaceId}
use Rattle.cloak_base.specs.declared.causes.Violation.{Violation}
use Rattle.cloak_base.specs.declared.causes.Violation.TheVariants as violation
use Rattle.cloak_model.specs.declared.context.ResumeFault.{ResumeFault}
use Rattle.cloak_model.specs.declared.context.ResumeFault.TheVariants.{NoContext, Busy}
use Rattle.cloak_model.specs.Items as item
use Rattle.cloak_model.specs.Contexts.{Context, context_at, domain_of, slot_of, Admitted, admit, Resumed as Made, resume_if, resume_at, with_context}
use Rattle.cloak_model.specs.DomainState as program
use Rattle.cloak_model.specs.DomainStep.{resume_slot, resume_told}
use Rattle.cloak_model.specs.Exchange.{Piece, Emits, item_pieces}
use Rattle.cloak_model.specs.Parts as model
use Rattle.cloak_model.specs.Resuming.{AfterResume, resume, space_of, violated}
use Rattle.cloak_model.proofs.ResumeParts.{by_context, by_domain, by_root}
use Rattle.cloaked_side.specs.Holding.{Holds}
use Rattle.cloaked_side.specs.declared.memory.Memory.{Memory}
use Rattle.cloak_model.proofs.Emitting.{emits_none}
use Rattle.hypercalls.specs.declared.domain.Domain.{Domain}
use Rattle.hypercalls.specs.Standing.{StandsFor, ResumesAs, control_of}
use Rattle.thread_context.specs.Recorded.{root_at}
use Rattle.joint_machine.specs.declared.joint.Joint.{Joint}
use Rattle.joint_machine.specs.Standing.{AreDomains, StandsForJoint}
use Rattle.joint_machine.specs.Turning.{AreRoots, ResumesJoint, ResumesIn, idle_space}
use Rattle.joint_machine.proofs.Gone.{holds_rooted}
use Rattle.joint_machine.proofs.Places.{domain_at, domains_set, none_past}
use Rattle.cloak_base.proofs.Lists.{set_itself}

-- Whether a context may run.

idle_granted : (k : program.Control) (slot hart reply space : ℕ) → idle_space (context_at k.contexts slot) ≡ Some space → (resume_slot slot hart reply k).answer ≡ Ok tt
unfolding resume_slot resume_told resume_at resume_if
idle_granted k slot hart reply space idle = by (context_at k.contexts slot) idle
  where
    told : Option Context → Result (Unit {0}) ResumeFault
    told o = let made = resume_if slot hart o k.contexts in (resume_told slot reply made.answer (record k { contexts = made.contexts })).answer

    of_made : Made → Result (Unit {0}) ResumeFault
    of_made m = (resume_told slot reply m.answer (record k { contexts = m.contexts })).answer

    made : Context → Bool → Made
    made c b = if◌then◌else◌ {A = Made} b (record { answer = Err Busy; contexts = k.contexts }) (record { answer = Ok tt; contexts = with_context slot (record c { on = Some (record { 0 = hart }) }) k.contexts })

    on_hart : (c : Context) (b : Bool) → (if b then None else Some c.space) ≡ Some space → of_made (made c b) ≡ Ok tt
    on_hart c true is = absurd (cc)
    on_hart c false is = refl

    by : (o : Option Context) → idle_space o ≡ Some space → told o ≡ Ok tt
    by None is = absurd (cc)
    by (Some c) is = on_hart c (is_some c.on) is

idle_refused : (k : program.Control) (slot hart reply : ℕ) → idle_space (context_at k.contexts slot) ≡ None → (f : ResumeFault) × ((resume_slot slot hart reply k).answer ≡ Err f)
unfolding resume_slot resume_told resume_at resume_if
idle_refused k slot hart reply idle = by (context_at k.contexts slot) idle
  where
    told : Option Context → Result (Unit {0}) ResumeFault
    told o = let made = resume_if slot hart o k.contexts in (resume_told slot reply made.answer (record k { contexts = made.contexts })).answer

    of_made : Made → Result (Unit {0}) ResumeFault
    of_made m = (resume_told slot reply m.answer (record k { contexts = m.contexts })).answer

    made : Context → Bool → Made
    made c b = if◌then◌else◌ {A = Made} b (record { answer = Err Busy; contexts = k.contexts }) (record { answer = Ok tt; contexts = with_context slot (record c { on = Some (record { 0 = hart }) }) k.contexts })

    on_hart : (c : Context) (b : Bool) → (if b then None else Some c.space) ≡ None → (f : ResumeFault) × (of_made (made c b) ≡ Err f)
    on_hart c true is = (Busy, refl)
    on_hart c false is = absurd (cc)

    by : (o : Option Context) → idle_space o ≡ None → (f : ResumeFault) × (told o ≡ Err f)
    by None is = (NoContext, refl)
    by (Some c) is = on_hart c (is_some c.on) is

idle_is : (o : Option Context) (space : ℕ) → idle_space o ≡ Some space → space_of o ≡ space
idle_is None space is = absurd (cc)
idle_is (Some c) space is = by (is_some c.on) is
  where
    by : (b : Bool) → (if b then None else Some c.space) ≡ Some space → c.space ≡ space
    by true e = absurd (cc)
    by false e = cc

-- that the code's resume is granted
pub resume_granted : (k : program.Control) (slot hart reply space : ℕ) → Some space ≡ idle_space (context_at k.contexts slot) → (resume_slot slot hart reply k).answer ≡ Ok tt
resume_granted k slot hart reply space idle = idle_granted k slot hart reply space (sym idle)

-- what tests of an answer tell
err_of : (a : Result (Unit {0}) ResumeFault) (b : Bool) → b ≡ is_err a → b ≡ true → (f : ResumeFault) × (a ≡ Err f)
err_of (Ok tt) b test on = absurd (false≢true (sym test ∙ on))
err_of (Err f) b test on = (f, refl)

ok_of : (a : Result (Unit {0}) ResumeFault) (b : Bool) → b ≡ is_err a → b ≡ false → a ≡ Ok tt
ok_of (Ok tt) b test off = refl
ok_of (Err f) b test off = absurd (false≢true (sym off ∙ test))

on_err : (a : Result (Unit {0}) ResumeFault) (f : ResumeFault) (P : Type 0) → a ≡ Err f → OnErr a P → P
on_err (Ok tt) f P is holds = absurd (cc)
on_err (Err g) f P is holds = holds

-- an answer that is granted is no fault
pub no_fault : (a b : Result (Unit {0}) ResumeFault) (f : ResumeFault) → a ≡ Err f → a ≡ b → b ≡ Ok tt → ⊥
no_fault a b f err same ok = cc

-- The definition, by these.

module _ (j : model.Joint) (hart satp ctx reply : ℕ) (was : program.Domain) where
  abbrev resumed : program.Control
  resumed = (resume_slot (slot_of ctx) hart reply was.control).control

  abbrev its_space : ℕ → SpaceId
  its_space space = record { domain = domain_of ctx; number = space }

  pub is_refused : idle_space (context_at was.control.contexts (slot_of ctx)) ≡ None → by_domain j hart satp ctx reply (Some was) ≡ violated j (violation.Context ctx)
  unfolding by_domain by_context
  is_refused idle = let told = idle_refused was.control (slot_of ctx) hart reply idle in ap (λ (a : Result (Unit {0}) ResumeFault). by_context j satp ctx reply was resumed a) told.1

  by_admitted : (space : ℕ) → idle_space (context_at was.control.contexts (slot_of ctx)) ≡ Some space →
      by_domain j hart satp ctx reply (Some was) ≡ (let admitted = admit (its_space space) satp j.memory.ledger.root in by_root j satp ctx reply was resumed admitted admitted.answer)
  unfolding by_domain by_context
  by_admitted space idle =
      ap (λ (a : Result (Unit {0}) ResumeFault). by_context j satp ctx reply was resumed a) (idle_granted was.control (slot_of ctx) hart reply space idle)
      ∙ ap (λ (n : ℕ). let admitted = admit (its_space n) satp j.memory.ledger.root in by_root j satp ctx reply was resumed admitted admitted.answer) (idle_is (context_at was.control.contexts (slot_of ctx)) space idle)

  pub is_mapping : (space : ℕ) (f : ResumeFault) → idle_space (context_at was.control.contexts (slot_of ctx)) ≡ Some space → (admit (its_space space) satp j.memory.ledger.root).answer ≡ Err f → by_domain j hart satp ctx reply (Some was) ≡ violated j (violation.Mapping ctx satp)
  unfolding by_root
  is_mapping space f idle wrong = by_admitted space idle ∙ ap (λ (a : Result (Unit {0}) ResumeFault). by_root j satp ctx reply was resumed (admit (its_space space) satp j.memory.ledger.root) a) wrong

  pub is_granted : (space : ℕ) → idle_space (context_at was.control.contexts (slot_of ctx)) ≡ Some space → (admit (its_space space) satp j.memory.ledger.root).answer ≡ Ok tt →
      by_domain j hart satp ctx reply (Some was) ≡ by_root j satp ctx reply was resumed (admit (its_space space) satp j.memory.ledger.root) (Ok tt)
  is_granted space idle right = by_admitted space idle ∙ ap (λ (a : Result (Unit {0}) ResumeFault). by_root j satp ctx reply was resumed (admit (its_space space) satp j.memory.ledger.root) a) right

-- What the code's parts resulted in.

idle_of : (domain : Domain) (was : program.Domain) (slot : ℕ) (o : Option ℕ) → StandsFor domain was → o ≡ idle_space (context_at (control_of domain).contexts slot) → idle_space (context_at was.control.contexts slot) ≡ o
idle_of domain was slot o stands is = ap (λ (k : program.Control). idle_space (context_at k.contexts slot)) stands.control ∙ sym is

same_roots : (roots : List (List (Option ℕ))) (root : SpaceId → Option ℕ) → AreRoots roots root → (λ (s : SpaceId). root_at roots s) ≡ root
same_roots roots root are = λ i s. are s i

refused_in : {E : Type 0} (gave : E → E → List Piece → Type 0) (e : E) (domain : Domain) (roots : List (List (Option ℕ))) (given : Option Violation) (j : model.Joint) (d : ℕ) (was : program.Domain) (v : Violation) (r : AfterResume) →
    r ≡ violated j v → given ≡ Some v → slice_get j.domains d ≡ Some was → StandsFor domain was → AreRoots roots j.memory.ledger.root → ResumesIn gave e e domain roots given j d r
refused_in gave e domain roots given j d was v r is met there stands are = subst (λ (x : AfterResume). ResumesIn gave e e domain roots given j d x) (sym is) (record {
  emits = emits_none gave e;
  violation = met;
  after = was;
  stands = stands;
  domains = sym (set_itself j.domains d was there);
  roots_are = are;
  holds = λ memory holds. holds;
  harts = refl;
  disk = refl;
  ends = record { ended = refl; refused = refl };
})

module _ {E : Type 0} (gave : E → E → List Piece → Type 0) (e : E) (domain : Domain) (roots : List (List (Option ℕ))) (hart satp ctx reply : ℕ) (given : Option Violation) (j : model.Joint) (was : program.Domain) (there : slice_get j.domains (domain_of ctx) ≡ Some was) (stands : StandsFor domain was) (are : AreRoots roots j.memory.ledger.root) where
  -- there is no context that may run
  pub resumes_refused : (o : Option ℕ) → o ≡ idle_space (context_at (control_of domain).contexts (slot_of ctx)) → o ≡ None → given ≡ Some (violation.Context ctx) → ResumesIn gave e e domain roots given j (domain_of ctx) (by_domain j hart satp ctx reply (Some was))
  resumes_refused o is none met = refused_in gave e domain roots given j (domain_of ctx) was (violation.Context ctx) _ (is_refused j hart satp ctx reply was (idle_of domain was (slot_of ctx) o stands is ∙ none)) met there stands are

  admitted_is : (s : SpaceId) → admit s satp (λ (t : SpaceId). root_at roots t) ≡ admit s satp j.memory.ledger.root
  admitted_is s = ap (λ (root : SpaceId → Option ℕ). admit s satp root) (same_roots roots j.memory.ledger.root are)

  -- the page table is another one
  pub resumes_mapping : (roots' : List (List (Option ℕ))) (o : Option ℕ) (space : ℕ) (a : Result (Unit {0}) ResumeFault) (b : Bool) → b ≡ is_err a → b ≡ true → OnErr a (roots' ≡ roots) → o ≡ idle_space (context_at (control_of domain).contexts (slot_of ctx)) → o ≡ Some space → a ≡ (admit (record { domain = domain_of ctx; number = space }) satp (root_at roots)).answer → given ≡ Some (violation.Mapping ctx satp) →
      ResumesIn gave e e domain roots' given j (domain_of ctx) (by_domain j hart satp ctx reply (Some was))
  resumes_mapping roots' o space a b test on same is idle wrong met =
      let fault = err_of a b test on in
      let f = fault.0 in
      let mapping = is_mapping j hart satp ctx reply was space f (idle_of domain was (slot_of ctx) o stands is ∙ idle) (sym (sym fault.1 ∙ wrong ∙ ap (λ (x : Admitted). x.answer) (admitted_is (record { domain = domain_of ctx; number = space })))) in
      subst (λ (r : List (List (Option ℕ))). ResumesIn gave e e domain r given j (domain_of ctx) (by_domain j hart satp ctx reply (Some was))) (sym (on_err a f (roots' ≡ roots) fault.1 same))
      (refused_in gave e domain roots given j (domain_of ctx) was (violation.Mapping ctx satp) _ mapping met there stands are)

  -- the context runs
  pub resumes_granted : (e' : E) (o : Option ℕ) (space : ℕ) (a : Result (Unit {0}) ResumeFault) (b : Bool) (answer : Result (Unit {0}) ResumeFault) (domain' : Domain) (roots' : List (List (Option ℕ))) → o ≡ idle_space (context_at (control_of domain).contexts (slot_of ctx)) → b ≡ is_err a → b ≡ false → o ≡ Some space → a ≡ (admit (record { domain = domain_of ctx; number = space }) satp (root_at roots)).answer →
      ((t : SpaceId) → root_at roots' t ≡ (admit (record { domain = domain_of ctx; number = space }) satp (root_at roots)).root t) →
      ResumesAs domain' was answer (resume_slot (slot_of ctx) hart reply was.control) → Emits gave e e' (item_pieces (item.Resume (domain_of ctx) ctx reply ∷ [])) → given ≡ None →
      ResumesIn gave e e' domain' roots' given j (domain_of ctx) (by_domain j hart satp ctx reply (Some was))
  unfolding by_root
  resumes_granted e' o space a b answer domain' roots' is test off idle right each resumed emits none =
      let s : SpaceId = record { domain = domain_of ctx; number = space } in
      let granted = is_granted j hart satp ctx reply was space (idle_of domain was (slot_of ctx) o stands is ∙ idle) (sym (sym (ok_of a b test off) ∙ right ∙ ap (λ (x : Admitted). x.answer) (admitted_is s))) in
      subst (λ (x : AfterResume). ResumesIn gave e e' domain' roots' given j (domain_of ctx) x) (sym granted) (record {
        emits = emits;
        violation = none;
        after = record was { control = (resume_slot (slot_of ctx) hart reply was.control).control };
        stands = resumed.domain_stands;
        domains = refl;
        roots_are = λ t. each t ∙ ap (λ (x : Admitted). x.root t) (admitted_is s);
        holds = λ memory holds. holds_rooted memory j.memory _ holds;
        harts = refl;
        disk = refl;
        ends = record { ended = refl; refused = refl };
      })

-- The machine after a resuming in the program of its place.

pub resumes_none : {E : Type 0} (gave : E → E → List Piece → Type 0) (e : E) (joint : Joint) (given : Option Violation) (j : model.Joint) (number satp ctx reply : ℕ) →
    StandsForJoint joint j → length joint.domains.items ≤ domain_of ctx → given ≡ Some (violation.Context ctx) → ResumesJoint gave e e joint given (resume j number satp ctx reply)
unfolding resume by_domain by_context by_root
resumes_none gave e joint given j number satp ctx reply s past met = subst (λ (o : Option program.Domain). ResumesJoint gave e e joint given (by_domain j number satp ctx reply o)) (sym (none_past joint.domains.items j.domains (domain_of ctx) s.domains past)) (record {
  emits = emits_none gave e;
  violation = met;
  stands = s;
})

pub resumes_there : {E : Type 0} (gave : E → E → List Piece → Type 0) (e e' : E) (old new : Joint) (given : Option Violation) (j : model.Joint) (number satp word ctx reply : ℕ) (x x' : Domain) → satp ≡ word →
    StandsForJoint old j → slice_get old.domains.items (domain_of ctx) ≡ Some x →
    new.harts.items ≡ old.harts.items → new.disk ≡ old.disk → new.memory ≡ old.memory → new.domains.items ≡ slice_set old.domains.items (domain_of ctx) x' →
    new.ended ≡ old.ended → new.refused ≡ old.refused →
    ((was : program.Domain) → slice_get j.domains (domain_of ctx) ≡ Some was → StandsFor x was → ResumesIn gave e e' x' new.roots given j (domain_of ctx) (by_domain j number satp ctx reply (Some was))) →
    ResumesJoint gave e e' new given (resume j number word ctx reply)
unfolding resume by_domain by_context by_root
resumes_there gave e e' old new given j number satp word ctx reply x x' same s there harts disk memory domains ended refused resumes =
    let at = domain_at old.domains.items j.domains (domain_of ctx) x s.domains there in
    let was = at.0 in
    let r = resumes was at.1.0 at.1.1 in
    subst (λ (w : ℕ). ResumesJoint gave e e' new given (by_domain j number w ctx reply (slice_get j.domains (domain_of ctx)))) same (subst (λ (o : Option program.Domain). ResumesJoint gave e e' new given (by_domain j number satp ctx reply o)) (sym at.1.0) (record {
      emits = r.emits;
      violation = r.violation;
      stands = record {
        harts = harts ∙ s.harts ∙ sym r.harts;
        disk = disk ∙ s.disk ∙ sym r.disk;
        memory = r.holds new.memory (subst (λ (m : Memory). Holds m j.memory) (sym memory) s.memory);
        domains = subst (λ (xs : List Domain). AreDomains xs (by_domain j number satp ctx reply (Some was)).joint.domains) (sym domains)
            (subst (λ (ds : List program.Domain). AreDomains (slice_set old.domains.items (domain_of ctx) x') ds) (sym r.domains) (domains_set old.domains.items j.domains (domain_of ctx) x' r.after s.domains r.stands));
        roots = r.roots_are;
        ended = ended ∙ s.ended ∙ sym r.ends.ended;
        refused = refused ∙ s.refused ∙ sym r.ends.refused;
      };
    }))
