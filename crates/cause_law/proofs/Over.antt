-- What has ended: a step itself ends no domain, and gives no context to one that has ended. So none could be resumed,
-- and none could make a step.
use Rattle.std.proofs.Common.{◌≡◌, ◌<◌, length, subst, ◌∙◌, ◌+◌, ℕ, zero, suc, Bool, true, false, List, [], ◌∷◌, Option, Some, None, Result, Ok, Err, refl, sym, ap, inl, inr}
use Rattle.std.specs.Prelude.{is_some, slice_index_or, replicate, slice_get, slice_set}
use Rattle.std.proofs.lemmas.Bool.{false≢true, cases_lt}
use Rattle.std.proofs.lemmas.List.{get_or-set_same, get_or-set_other, get_or_past, get_or-replicate}
use Rattle.cloak_base.specs.declared.causes.Violation.{Violation}
use Rattle.cloak_model.specs.declared.context.PageWord.{PageWord}
use Rattle.cloak_model.specs.declared.context.Phase.{Phase}
use Rattle.cloak_model.specs.declared.context.Phase.TheVariants.{Plain, CopyIn, Waiting, CopyOut}
use Rattle.cloak_model.specs.declared.context.ResumeFault.{ResumeFault}
use Rattle.cloak_model.specs.declared.inside.Copied.{Copied}
use Rattle.cloak_model.specs.declared.inside.Copied.TheVariants as copied
use Rattle.cloak_model.specs.declared.inside.Ran.{Ran}
use Rattle.cloak_model.specs.declared.inside.Ran.TheVariants as ran
use Rattle.cloak_model.specs.declared.inside.Went.TheVariants as went
use Rattle.cloak_model.specs.Items.{Item}
use Rattle.cloak_model.specs.declared.image.Program.{Program}
use Rattle.cloak_model.specs.declared.outcome.Kernel.{Kernel}
use Rattle.cloak_model.specs.declared.outcome.Kernel.TheVariants as kernel
use Rattle.cloak_model.specs.Contexts.{Context, Admitted, context_at, slot_of, domain_of, resume_if, resume_at}
use Rattle.cloak_model.specs.DomainAlone.{runs_on}
use Rattle.cloak_model.specs.DomainState.{Control, Domain, started_control, started_domain}
use Rattle.cloak_model.specs.DomainStep.{domain_script, DomainStepped, instruction_ended, copy_ended, after_write, phase_step, step_if, domain_step, interrupt_if, interrupt, answer_taken, resume_told, resume_slot}
use Rattle.cloak_model.specs.Ending.{ended_domain}
use Rattle.cloak_model.specs.Hart.{Hart}
use Rattle.cloak_model.specs.Joint.{outside_ended, after_outside, outside_step, after_domain_step, after_interrupt, by_interrupt, by_running, inside_step, turn_of}
use Rattle.cloak_model.specs.KernelStep.{ticked}
use Rattle.cloak_model.specs.Opening.{started_domains}
use Rattle.cloak_model.specs.Parts.{Joint}
use Rattle.cloak_model.specs.Resuming.{resume}
use Rattle.cloak_model.proofs.ResumeParts.{by_root, by_context, by_domain}
use Rattle.cloak_model.specs.Asking.{Told}
use Rattle.cloak_model.specs.World.{World}
use Rattle.cloak_model.specs.Script.{played}
use Rattle.cloak_model.proofs.Playing.{by_plain, by_copy_in, by_copy_out, by_ecall}
use Rattle.hypercall_kinds.proofs.ByKinds.{hypercall_ended}
use Rattle.domain_isolation.proofs.InOrder.{decided}
use Rattle.domain_isolation.proofs.InsideSteps.{ended_domains, interrupt_ended_domains}
use Rattle.cloak_base.proofs.Lists.{slice_get-set_other}

-- If it has ended, no slot has a context.
abbrev pub IsEmptyIf : Control → Type 0
IsEmptyIf d = d.ended ≡ true → (slot : ℕ) → context_at d.contexts slot ≡ None

abbrev pub AreEmpty : List Domain → Type 0
AreEmpty domains = (d : ℕ) (domain : Domain) → slice_get domains d ≡ Some domain → IsEmptyIf domain.control

set_at : {A : Type 0} (xs : List A) (i : ℕ) (x y : A) → slice_get (slice_set xs i x) i ≡ Some y → y ≡ x
set_at [] i x y is = absurd cc
set_at (z ∷ xs) zero x y is = cc
set_at (z ∷ xs) (suc i) x y is = set_at xs i x y is

-- one is replaced
pub empty_set : (domains : List Domain) (i : ℕ) (new : Domain) → AreEmpty domains → IsEmptyIf new.control →
    AreEmpty (slice_set domains i new)
empty_set domains i new all is d domain there over slot = elim (decided d i) [
  | inl same ↦
      let it : domain ≡ new = set_at domains i new domain
      (ap (slice_get (slice_set domains i new)) (sym same) ∙ there) in
      ap (λ (x : Domain). context_at x.control.contexts slot) it
      ∙ is (ap (λ (x : Domain). x.control.ended) (sym it) ∙ over) slot
  | inr other ↦ all d domain (sym (slice_get-set_other domains i d new other) ∙ there) over slot
]

-- Programs as a step itself leaves them: as they were, or one is changed. That has ended if it had before, and has then
-- no context if it had none before.
pub data Moves (old new : List Domain) : Type 0 where
  Stays : new ≡ old → Moves old new
  Sets : (i : ℕ) (was now : Domain) → slice_get old i ≡ Some was → new ≡ slice_set old i now →
      now.control.ended ≡ was.control.ended → (IsEmptyIf was.control → IsEmptyIf now.control) → Moves old new

pub moved_empty : (old new : List Domain) → Moves old new → AreEmpty old → AreEmpty new
moved_empty old new (Stays same) all = subst AreEmpty (sym same) all
moved_empty old new (Sets i was now there same over is) all =
    subst AreEmpty (sym same) (empty_set old i now all (is (all i was there)))

-- Each of four is listed exactly if it has ended.
abbrev pub AreListed : List Domain → List (Option Violation) → Type 0
AreListed domains ended =
    (d : ℕ) (domain : Domain) → d < 4 → slice_get domains d ≡ Some domain →
    domain.control.ended ≡ is_some (slice_index_or ended d None)

pub moved_listed : (old new : List Domain) (ended : List (Option Violation)) → Moves old new → AreListed old ended →
    AreListed new ended
moved_listed old new ended (Stays same) all = subst (λ (l : List Domain). AreListed l ended) (sym same) all
moved_listed old new ended (Sets i was now there same over is) all =
    subst (λ (l : List Domain). AreListed l ended) (sym same) (λ d domain low found. elim (decided d i) [
      | inl here ↦
          let it : domain ≡ now = set_at old i now domain (ap (slice_get (slice_set old i now)) (sym here) ∙ found) in
          ap (λ (x : Domain). x.control.ended) it ∙ over ∙ all i was (subst (λ (n : ℕ). n < 4) here low) there
          ∙ ap (λ (n : ℕ). is_some (slice_index_or ended n None)) (sym here)
      | inr other ↦ all d domain low (sym (slice_get-set_other old i d now other) ∙ found)
    ])

-- the end of one
pub ended_listed : (domains : List Domain) (ended : List (Option Violation)) (i : ℕ) (domain : Domain)
    (v : Violation) → length ended ≡ 4 → AreListed domains ended →
    AreListed (slice_set domains i (ended_domain domain)) (slice_set ended i (Some v))
unfolding ended_domain
ended_listed domains ended i domain v places all d found low there = elim (decided d i) [
  | inl here ↦
      let it : found ≡ ended_domain domain =
      set_at domains i (ended_domain domain) found
      (ap (slice_get (slice_set domains i (ended_domain domain))) (sym here) ∙ there) in
      let within : i < length ended =
      subst (λ (n : ℕ). i < n) (sym places) (subst (λ (n : ℕ). n < 4) here low) in
      ap (λ (x : Domain). x.control.ended) it
      ∙ ap (λ (o : Option Violation). is_some o) (sym (get_or-set_same ended i (Some v) None within))
      ∙ ap (λ (n : ℕ). is_some (slice_index_or (slice_set ended i (Some v)) n None)) (sym here)
  | inr other ↦
      all d found low (sym (slice_get-set_other domains i d (ended_domain domain) other) ∙ there)
      ∙ ap (λ (o : Option Violation). is_some o) (sym (get_or-set_other ended i d (Some v) None other))
]

-- one that has a context has not ended
goes_on : {P : Type 0} (d : Control) (slot : ℕ) (c : Context) → IsEmptyIf d → context_at d.contexts slot ≡ Some c →
    d.ended ≡ true → P
goes_on d slot c is there over = let clash : None ≡ Some c = sym (is over slot) ∙ there in absurd cc

pub has_not_ended : (d : Control) (slot : ℕ) (c : Context) → IsEmptyIf d → context_at d.contexts slot ≡ Some c →
    d.ended ≡ false
has_not_ended d slot c is there = by d.ended refl
  where
    by : (b : Bool) → d.ended ≡ b → b ≡ false
    by true over = goes_on d slot c is there over
    by false over = refl

-- A domain's own step does not end it.

over_instruction : (slot : ℕ) (d : Domain) (c : Context) (e : Ran) (w : World) →
    (played (instruction_ended slot d c e) w).answer.domain.control.ended ≡ d.control.ended
unfolding instruction_ended
over_instruction slot d c ran.Ecall w =
    by_ecall (λ (t : Told DomainStepped). t.answer.domain.control.ended ≡ d.control.ended) slot d c w
    (hypercall_ended _ slot c d.control w)
over_instruction slot d c _ w = refl

over_copy : (slot : ℕ) (d : Domain) (c : Context) (e : Copied) →
    (copy_ended slot d c e).domain.control.ended ≡ d.control.ended
unfolding copy_ended
over_copy slot d c copied.Going = refl
over_copy slot d c _ = refl

over_written : (wrote : Option PageWord) (s : DomainStepped) →
    (after_write wrote s).domain.control.ended ≡ s.domain.control.ended
over_written None s = refl
over_written (Some place) s = refl

over_phase : (phase : Phase) (slot : ℕ) (c : Context) (d : Domain) (w : World) →
    (played (phase_step phase slot c d) w).answer.domain.control.ended ≡ d.control.ended
unfolding phase_step
over_phase Plain slot c d w =
    by_plain (λ (t : Told DomainStepped). t.answer.domain.control.ended ≡ d.control.ended) slot c d w
    (over_written _ _ ∙ over_instruction slot d _ _ _)
over_phase (CopyIn done) slot c d w =
    by_copy_in (λ (t : Told DomainStepped). t.answer.domain.control.ended ≡ d.control.ended) done slot c d w
    (over_copy slot d _ _)
over_phase Waiting slot c d w = refl
over_phase (CopyOut done total) slot c d w =
    by_copy_out (λ (t : Told DomainStepped). t.answer.domain.control.ended ≡ d.control.ended) done total slot c d w
    (over_written _ _ ∙ over_copy slot d _ _)

over_if : (c : Option Context) (slot : ℕ) (d : Domain) (w : World) →
    (played (step_if c slot d) w).answer.domain.control.ended ≡ d.control.ended
unfolding step_if
over_if None slot d w = refl
over_if (Some c) slot d w = over_phase c.phase slot c d w

pub over_step : (slot : ℕ) (d : Domain) (w : World) → (domain_step slot d w).answer.domain.control.ended ≡ d.control.ended
unfolding domain_step domain_script
over_step slot d w = over_if _ slot d w

over_interrupt_if : (c : Option Context) (slot : ℕ) (d : Control) → (interrupt_if c slot d).control.ended ≡ d.ended
unfolding interrupt_if
over_interrupt_if None slot d = refl
over_interrupt_if (Some c) slot d = refl

pub over_interrupt : (slot : ℕ) (d : Control) → (interrupt slot d).control.ended ≡ d.ended
unfolding interrupt
over_interrupt slot d = over_interrupt_if _ slot d

-- Resuming.

over_taken : (slot answer : ℕ) (c : Option Context) (d : Control) → (answer_taken slot answer c d).ended ≡ d.ended
unfolding answer_taken
over_taken slot answer None d = refl
over_taken slot answer (Some c) d = refl

over_told : (slot answer : ℕ) (r : Result (Unit {0}) ResumeFault) (d : Control) →
    (resume_told slot answer r d).control.ended ≡ d.ended
unfolding resume_told
over_told slot answer (Err f) d = refl
over_told slot answer (Ok done) d = over_taken slot answer _ d

resumed_if : (slot hart answer : ℕ) (d : Control) (o : Option Context) → IsEmptyIf d →
    context_at d.contexts slot ≡ o →
    let made = resume_if slot hart o d.contexts in
    IsEmptyIf (resume_told slot answer made.answer (record d { contexts = made.contexts })).control
unfolding resume_if resume_told
resumed_if slot hart answer d None is there = is
resumed_if slot hart answer d (Some c) is there =
    let made = resume_if slot hart (Some c) d.contexts in
    λ over. goes_on d slot c is there
    (sym (over_told slot answer made.answer (record d { contexts = made.contexts })) ∙ over)

resumed_empty : (slot hart answer : ℕ) (d : Control) → IsEmptyIf d → IsEmptyIf (resume_slot slot hart answer d).control
unfolding resume_slot resume_at
resumed_empty slot hart answer d is = resumed_if slot hart answer d _ is refl

pub resumed_over : (slot hart answer : ℕ) (d : Control) → (resume_slot slot hart answer d).control.ended ≡ d.ended
unfolding resume_slot
resumed_over slot hart answer d = over_told slot answer _ _

root_moves : (j : Joint) (satp ctx reply : ℕ) (was : Domain) (control : Control) (a : Admitted)
    (answer : Result (Unit {0}) ResumeFault) → slice_get j.domains (domain_of ctx) ≡ Some was →
    control.ended ≡ was.control.ended → (IsEmptyIf was.control → IsEmptyIf control) →
    Moves j.domains (by_root j satp ctx reply was control a answer).joint.domains
unfolding by_root
root_moves j satp ctx reply was control a (Err fault) there over is = Stays refl
root_moves j satp ctx reply was control a (Ok done) there over is =
    Sets (domain_of ctx) was (record was { control = control }) there refl over is

context_moves : (j : Joint) (satp ctx reply : ℕ) (was : Domain) (control : Control)
    (answer : Result (Unit {0}) ResumeFault) → slice_get j.domains (domain_of ctx) ≡ Some was →
    control.ended ≡ was.control.ended → (IsEmptyIf was.control → IsEmptyIf control) →
    Moves j.domains (by_context j satp ctx reply was control answer).joint.domains
unfolding by_context
context_moves j satp ctx reply was control (Err fault) there over is = Stays refl
context_moves j satp ctx reply was control (Ok done) there over is =
    root_moves j satp ctx reply was control _ _ there over is

domain_moves : (j : Joint) (hart satp ctx reply : ℕ) (found : Option Domain) →
    slice_get j.domains (domain_of ctx) ≡ found → Moves j.domains (by_domain j hart satp ctx reply found).joint.domains
unfolding by_domain
domain_moves j hart satp ctx reply None there = Stays refl
domain_moves j hart satp ctx reply (Some was) there =
    context_moves j satp ctx reply was _ _ there (resumed_over (slot_of ctx) hart reply was.control)
    (resumed_empty (slot_of ctx) hart reply was.control)

outside_moves : (j : Joint) (number : ℕ) (items : List Item) (e : Kernel) →
    Moves j.domains (outside_ended j number items e).joint.domains
unfolding outside_ended resume by_domain by_context by_root
outside_moves j number items (kernel.Resume ctx reply) = domain_moves j number _ ctx reply _ refl
outside_moves j number items _ = Stays refl

-- A hart inside.

due_moves : (due : Bool) (j : Joint) (number : ℕ) (h : Hart) (d slot : ℕ) (was : Domain) (c : Context) →
    slice_get j.domains d ≡ Some was → context_at was.control.contexts slot ≡ Some c →
    Moves j.domains (by_interrupt due j number h d slot was).joint.domains
unfolding by_interrupt after_interrupt after_domain_step
due_moves true j number h d slot was c there has =
    let over = over_interrupt slot was.control in
    Sets d was _ there (interrupt_ended_domains _ number h _ (interrupt slot was.control).went) over
    (λ is now. goes_on was.control slot c is has (sym over ∙ now))
due_moves false j number h d slot was c there has =
    let over = over_step slot was _ in
    Sets d was _ there (ended_domains _ number h d _ _) over
    (λ is now. goes_on was.control slot c is has (sym over ∙ now))

runs_there : (number : ℕ) (o : Option Context) (P : Type 0) → runs_on number o ≡ true →
    ((c : Context) → o ≡ Some c → P) → P
runs_there number None P runs more = absurd (false≢true runs)
runs_there number (Some c) P runs more = more c refl

running_moves : (runs : Bool) (j : Joint) (number : ℕ) (h : Hart) (ctx : ℕ) (was : Domain) →
    slice_get j.domains (domain_of ctx) ≡ Some was →
    runs_on number (context_at was.control.contexts (slot_of ctx)) ≡ runs →
    Moves j.domains (by_running runs j number h ctx was).joint.domains
unfolding by_running
running_moves false j number h ctx was there runs = Stays refl
running_moves true j number h ctx was there runs =
    runs_there number (context_at was.control.contexts (slot_of ctx)) _ runs
    (λ c has. due_moves _ j number h (domain_of ctx) (slot_of ctx) was c there has)

inside_moves : (j : Joint) (number : ℕ) (h : Hart) (ctx : ℕ) (found : Option Domain) →
    slice_get j.domains (domain_of ctx) ≡ found → Moves j.domains (inside_step j number h ctx found).joint.domains
unfolding inside_step
inside_moves j number h ctx None there = Stays refl
inside_moves j number h ctx (Some was) there = running_moves _ j number h ctx was there refl

-- Every step.
pub turn_moves : (j : Joint) (number : ℕ) (h : Hart) (inside : Option ℕ) →
    Moves j.domains (turn_of j number h inside).joint.domains
unfolding turn_of outside_step after_outside
turn_moves j number h None = outside_moves _ number _ _
turn_moves j number h (Some ctx) = inside_moves j number (ticked h) ctx _ refl

-- The end of a domain, and the beginning.

pub ended_empty : (d : Domain) → IsEmptyIf (ended_domain d).control
unfolding ended_domain
ended_empty d over slot = elim (cases_lt slot 8) [
  | inl low ↦ get_or-replicate 8 slot None None low
  | inr past ↦ get_or_past (replicate 8 None) slot None past
]

started_over : (n d : ℕ) (programs : List Program) (domain : Domain) →
    slice_get (started_domains n programs) d ≡ Some domain → domain.control.ended ≡ false
unfolding started_domain started_control
started_over n d [] domain there = absurd cc
started_over n zero (p ∷ programs) domain there =
    let it : started_domain n p.start ≡ domain = cc in sym (ap (λ (x : Domain). x.control.ended) it)
started_over n (suc d) (p ∷ programs) domain there = started_over (n + 1) d programs domain there

pub started_empty : (n : ℕ) (programs : List Program) → AreEmpty (started_domains n programs)
started_empty n programs d domain there over slot =
    absurd (false≢true (sym (started_over n d programs domain there) ∙ over))

pub started_listed : (programs : List Program) → AreListed (started_domains 0 programs) (replicate 4 None)
started_listed programs d domain low there =
    started_over 0 d programs domain there
    ∙ ap (λ (o : Option Violation). is_some o) (sym (get_or-replicate 4 d None None low))
