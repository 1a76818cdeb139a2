-- Resuming under the veil.
use Rattle.std.proofs.Common.{◌≡◌, ◌∙◌, ℕ, zero, suc, Bool, true, false, List, [], ◌∷◌, map, Option, Some, None, is_some, refl, sym, ap, slice_set}
use Rattle.std.specs.Prelude.{if◌then◌else◌, Result, Ok, Err, option_map, slice_get}
use Rattle.std.proofs.lemmas.List.{map-set}
use Rattle.std.proofs.lemmas.Option.{slice_get-map}
use Rattle.cloak_base.specs.declared.causes.Violation.{Violation}
use Rattle.cloak_base.specs.declared.causes.Violation.TheVariants as violation
use Rattle.cloak_model.specs.declared.context.ResumeFault.{ResumeFault}
use Rattle.cloak_model.specs.declared.context.ResumeFault.TheVariants.{NoContext, Busy}
use Rattle.cloak_model.specs.declared.context.Phase.{Phase}
use Rattle.cloak_model.specs.declared.context.Phase.TheVariants.{Plain, CopyIn, Waiting, CopyOut}
use Rattle.cloak_model.specs.Items.{Resume}
use Rattle.cloak_model.specs.Calls.{finish_call}
use Rattle.cloak_model.specs.Contexts.{Context, Resumed, Admitted, context_at, resume_if, resume_at, admit, domain_of, slot_of, in_phase, set_word}
use Rattle.cloak_model.specs.DomainState.{Control, Domain}
use Rattle.cloak_model.specs.DomainStep.{Resumes, answer_in, answer_taken, resume_told, resume_slot}
use Rattle.cloak_model.specs.Parts.{Joint}
use Rattle.cloak_model.specs.Resuming.{AfterResume, violated, or_none, or_refused, space_of, resume}
use Rattle.cloak_model.specs.Veil.{veiled}
use Rattle.cloak_model.specs.BlindRuns.{veiled_context, veiled_control, veiled_domain, veiled_joint}

abbrev pub vcs : List (Option Context) → List (Option Context)
vcs xs = map (option_map veiled_context) xs

pub vcs_twice : (xs : List (Option Context)) → vcs (vcs xs) ≡ vcs xs
vcs_twice [] = refl
vcs_twice (None ∷ xs) = ap (λ (ys : List (Option Context)). None ∷ ys) (vcs_twice xs)
vcs_twice (Some c ∷ xs) = ap (λ (ys : List (Option Context)). Some (veiled_context c) ∷ ys) (vcs_twice xs)

pub control_twice : (d : Control) → veiled_control (veiled_control d) ≡ veiled_control d
control_twice d = ap (λ (xs : List (Option Context)). let c : Control = record (veiled_control d) { contexts = xs } in c) (vcs_twice d.contexts)

pub context_veiled : (xs : List (Option Context)) (slot : ℕ) → context_at (vcs xs) slot ≡ option_map veiled_context (context_at xs slot)
context_veiled [] slot = refl
context_veiled (x ∷ xs) zero = refl
context_veiled (x ∷ xs) (suc slot) = context_veiled xs slot

-- a slot is set
pub set_veiled : (xs : List (Option Context)) (slot : ℕ) (x x' : Option Context) → option_map veiled_context x' ≡ option_map veiled_context x →
    vcs (slice_set (vcs xs) slot x') ≡ vcs (slice_set xs slot x)
set_veiled xs slot x x' e =
    map-set (option_map veiled_context) (vcs xs) slot x'
    ∙ (ap (λ (ys : List (Option Context)). slice_set ys slot (option_map veiled_context x')) (vcs_twice xs)
    ∙ (ap (λ (y : Option Context). slice_set (vcs xs) slot y) e ∙ sym (map-set (option_map veiled_context) xs slot x)))

abbrev veiled_resumed : Resumed → Resumed
veiled_resumed r = record r { contexts = vcs r.contexts }

resumed_choice : (b : Bool) (x x' y y' : Resumed) → veiled_resumed x ≡ veiled_resumed x' → veiled_resumed y ≡ veiled_resumed y' →
    veiled_resumed (if b then x else y) ≡ veiled_resumed (if b then x' else y')
resumed_choice true x x' y y' e e' = e
resumed_choice false x x' y y' e e' = e'

abbrev resumed_so : Result (Unit {0}) ResumeFault → List (Option Context) → Resumed
resumed_so a xs = record { answer = a; contexts = xs }

resume_if_veils : (slot hart : ℕ) (o : Option Context) (xs : List (Option Context)) →
    veiled_resumed (resume_if slot hart (option_map veiled_context o) (vcs xs)) ≡ veiled_resumed (resume_if slot hart o xs)
unfolding resume_if
resume_if_veils slot hart None xs = ap (resumed_so (Err NoContext)) (vcs_twice xs)
resume_if_veils slot hart (Some c) xs =
    resumed_choice (is_some c.on) _ _ _ _
    (ap (resumed_so (Err Busy)) (vcs_twice xs))
    (ap (resumed_so (Ok tt))
    (set_veiled xs slot (Some (record c { on = Some (record { 0 = hart }) })) (Some (record (veiled_context c) { on = Some (record { 0 = hart }) })) refl))

resume_at_veils : (slot hart : ℕ) (xs : List (Option Context)) → veiled_resumed (resume_at slot hart (vcs xs)) ≡ veiled_resumed (resume_at slot hart xs)
unfolding resume_at
resume_at_veils slot hart xs =
    ap (λ (o : Option Context). veiled_resumed (resume_if slot hart o (vcs xs))) (context_veiled xs slot)
    ∙ resume_if_veils slot hart (context_at xs slot) xs

abbrev pub veiled_resumes : Resumes → Resumes
veiled_resumes r = record r { control = veiled_control r.control }

-- a call takes its answer

finished : (b : Bool) (c : Context) (p q : Phase) → veiled_context (if b then in_phase p c else in_phase q c) ≡ veiled_context c
finished true c p q = refl
finished false c p q = refl

answer_veiled : (phase : Phase) (reply : ℕ) (c : Context) → veiled_context (answer_in phase reply c) ≡ veiled_context c
unfolding finish_call answer_in
answer_veiled Plain reply c = refl
answer_veiled (CopyIn done) reply c = refl
answer_veiled Waiting reply c =
    finished _ (set_word c 10 reply) (CopyOut 0 reply) Plain
answer_veiled (CopyOut done total) reply c = refl

abbrev with_slots : Control → List (Option Context) → Control
with_slots d xs = record d { contexts = xs }

taken_veils : (slot reply : ℕ) (o : Option Context) (d : Control) →
    veiled_control (answer_taken slot reply (option_map veiled_context o) (veiled_control d)) ≡ veiled_control (answer_taken slot reply o d)
unfolding answer_taken answer_in
taken_veils slot reply None d = control_twice d
taken_veils slot reply (Some c) d =
    ap (λ (xs : List (Option Context)). let k : Control = record (veiled_control d) { contexts = xs } in k)
    (set_veiled d.contexts slot (Some (answer_in c.phase reply c)) (Some (veiled_context c)) (ap (λ (x : Context). Some x) (sym (answer_veiled c.phase reply c))))

told_veils : (slot reply : ℕ) (a : Result (Unit {0}) ResumeFault) (d : Control) →
    veiled_resumes (resume_told slot reply a (veiled_control d)) ≡ veiled_resumes (resume_told slot reply a d)
unfolding resume_told
told_veils slot reply (Err f) d = ap (λ (k : Control). let r : Resumes = record { answer = Err f; control = k } in r) (control_twice d)
told_veils slot reply (Ok done) d =
    ap (λ (k : Control). let r : Resumes = record { answer = Ok tt; control = k } in r)
    (ap (λ (o : Option Context). veiled_control (answer_taken slot reply o (veiled_control d))) (context_veiled d.contexts slot)
    ∙ taken_veils slot reply (context_at d.contexts slot) d)

pub resume_slot_veils : (slot hart reply : ℕ) (d : Control) →
    veiled_resumes (resume_slot slot hart reply (veiled_control d)) ≡ veiled_resumes (resume_slot slot hart reply d)
unfolding resume_slot
resume_slot_veils slot hart reply d =
    let made : Resumed = resume_at slot hart d.contexts in
    let made' : Resumed = resume_at slot hart (vcs d.contexts) in
    sym (told_veils slot reply made'.answer (with_slots (veiled_control d) made'.contexts))
    ∙ (ap (λ (r : Resumed). veiled_resumes (resume_told slot reply r.answer (record (veiled_control d) { contexts = r.contexts }))) (resume_at_veils slot hart d.contexts)
    ∙ told_veils slot reply made.answer (with_slots d made.contexts))

-- The joint machine.

pub domains_twice : (ds : List Domain) → map veiled_domain (map veiled_domain ds) ≡ map veiled_domain ds
domains_twice [] = refl
domains_twice (d ∷ ds) =
    ap (λ (c : Control). let x : Domain = record { control = c; loads = [] } in x ∷ map veiled_domain (map veiled_domain ds)) (control_twice d.control)
    ∙ ap (λ (xs : List Domain). veiled_domain d ∷ xs) (domains_twice ds)

pub joint_twice : (j : Joint) → veiled_joint (veiled_joint j) ≡ veiled_joint j
joint_twice j = ap (λ (ds : List Domain). let x : Joint = record (veiled_joint j) { domains = ds } in x) (domains_twice j.domains)

pub set_domain_veiled : (ds : List Domain) (n : ℕ) (x x' : Domain) → veiled_domain x' ≡ veiled_domain x →
    map veiled_domain (slice_set (map veiled_domain ds) n x') ≡ map veiled_domain (slice_set ds n x)
set_domain_veiled ds n x x' e =
    map-set veiled_domain (map veiled_domain ds) n x'
    ∙ (ap (λ (ys : List Domain). slice_set ys n (veiled_domain x')) (domains_twice ds)
    ∙ (ap (λ (y : Domain). slice_set (map veiled_domain ds) n y) e ∙ sym (map-set veiled_domain ds n x)))

abbrev pub veiled_resume : AfterResume → AfterResume
veiled_resume r = record r { joint = veiled_joint r.joint }

violated_veils : (j : Joint) (v : Violation) → veiled_resume (violated (veiled_joint j) v) ≡ veiled_resume (violated j v)
violated_veils j v = ap (λ (x : Joint). let r : AfterResume = record { joint = x; items = []; violation = Some v } in r) (joint_twice j)

space_veiled : (o : Option Context) → space_of (option_map veiled_context o) ≡ space_of o
space_veiled None = refl
space_veiled (Some c) = refl

-- a context that may run, of a space
abbrev pub resumed_in : Joint → ℕ → ℕ → ℕ → Domain → Control → ℕ → AfterResume
resumed_in j satp ctx reply was control space =
    let admitted = admit (record { domain = domain_of ctx; number = space }) satp j.memory.ledger.root in
    or_refused admitted.answer (violated j (violation.Mapping ctx satp)) (record {
      joint = record j {
        domains = slice_set j.domains (domain_of ctx) (record was { control = control });
        memory = record j.memory { ledger = record j.memory.ledger { root = admitted.root } };
      };
      items = Resume (domain_of ctx) ctx reply ∷ [];
      violation = None;
    })

refused_veils : (a : Result (Unit {0}) ResumeFault) (x x' y y' : AfterResume) → veiled_resume x ≡ veiled_resume x' →
    veiled_resume y ≡ veiled_resume y' → veiled_resume (or_refused a x y) ≡ veiled_resume (or_refused a x' y')
refused_veils (Err f) x x' y y' e e' = e
refused_veils (Ok done) x x' y y' e e' = e'

resumed_in_veils : (j : Joint) (satp ctx reply : ℕ) (was : Domain) (control control' : Control) (space : ℕ) →
    veiled_control control' ≡ veiled_control control →
    veiled_resume (resumed_in (veiled_joint j) satp ctx reply (veiled_domain was) control' space)
    ≡ veiled_resume (resumed_in j satp ctx reply was control space)
resumed_in_veils j satp ctx reply was control control' space e =
    let admitted : Admitted = admit (record { domain = domain_of ctx; number = space }) satp j.memory.ledger.root in
    refused_veils admitted.answer _ _ _ _ (violated_veils j (violation.Mapping ctx satp))
    (ap (λ (ds : List Domain). let r : AfterResume = record {
      joint = record (veiled_joint j) {
        domains = ds;
        memory = veiled (record j.memory { ledger = record j.memory.ledger { root = admitted.root } });
      };
      items = Resume (domain_of ctx) ctx reply ∷ [];
      violation = None;
    } in r)
    (set_domain_veiled j.domains (domain_of ctx) (record was { control = control }) (record (veiled_domain was) { control = control' })
    (ap (λ (c : Control). let x : Domain = record { control = c; loads = [] } in x) e)))

abbrev pub resumed_by : Joint → ℕ → ℕ → ℕ → ℕ → Domain → AfterResume
resumed_by j hart satp ctx reply was =
    let made = resume_slot (slot_of ctx) hart reply was.control in
    or_refused made.answer (violated j (violation.Context ctx))
    (resumed_in j satp ctx reply was made.control (space_of (context_at was.control.contexts (slot_of ctx))))

resumed_by_veils : (j : Joint) (hart satp ctx reply : ℕ) (was : Domain) →
    veiled_resume (resumed_by (veiled_joint j) hart satp ctx reply (veiled_domain was)) ≡ veiled_resume (resumed_by j hart satp ctx reply was)
resumed_by_veils j hart satp ctx reply was =
    let made : Resumes = resume_slot (slot_of ctx) hart reply was.control in
    let made' : Resumes = resume_slot (slot_of ctx) hart reply (veiled_control was.control) in
    let e : veiled_resumes made' ≡ veiled_resumes made = resume_slot_veils (slot_of ctx) hart reply was.control in
    let space' : ℕ = space_of (context_at (vcs was.control.contexts) (slot_of ctx)) in
    ap (λ (r : Resumes). veiled_resume (or_refused r.answer (violated (veiled_joint j) (violation.Context ctx)) (resumed_in (veiled_joint j) satp ctx reply (veiled_domain was) made'.control space'))) e
    ∙ (ap (λ (n : ℕ). veiled_resume (or_refused made.answer (violated (veiled_joint j) (violation.Context ctx)) (resumed_in (veiled_joint j) satp ctx reply (veiled_domain was) made'.control n)))
    (ap space_of (context_veiled was.control.contexts (slot_of ctx)) ∙ space_veiled (context_at was.control.contexts (slot_of ctx)))
    ∙ refused_veils made.answer _ _ _ _ (violated_veils j (violation.Context ctx))
    (resumed_in_veils j satp ctx reply was made.control made'.control (space_of (context_at was.control.contexts (slot_of ctx)))
    (ap (λ (r : Resumes). r.control) e)))

resume_found : (o : Option Domain) (j : Joint) (hart satp ctx reply : ℕ) →
    veiled_resume (or_none (option_map veiled_domain o) (violated (veiled_joint j) (violation.Context ctx)) (resumed_by (veiled_joint j) hart satp ctx reply))
    ≡ veiled_resume (or_none o (violated j (violation.Context ctx)) (resumed_by j hart satp ctx reply))
resume_found None j hart satp ctx reply = violated_veils j (violation.Context ctx)
resume_found (Some was) j hart satp ctx reply = resumed_by_veils j hart satp ctx reply was

pub resume_veils : (j : Joint) (hart satp ctx reply : ℕ) →
    veiled_resume (resume (veiled_joint j) hart satp ctx reply) ≡ veiled_resume (resume j hart satp ctx reply)
unfolding resume
resume_veils j hart satp ctx reply =
    ap (λ (o : Option Domain). veiled_resume (or_none o (violated (veiled_joint j) (violation.Context ctx)) (resumed_by (veiled_joint j) hart satp ctx reply)))
    (slice_get-map veiled_domain j.domains (domain_of ctx))
    ∙ resume_found (slice_get j.domains (domain_of ctx)) j hart satp ctx reply
