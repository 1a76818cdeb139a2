-- A refusal is counted exactly in a step that asks to resume a context, and has no answer among its items.
use Rattle.std.proofs.Common.{◌≡◌, ◌∙◌, ◌<◌, ◌≤◌, ◌+◌, ◌-◌, ◌^◌, ◌&&◌, ◌||◌, ℕ, zero, suc, Bool, true, false, not, if◌then◌else◌, List, [], ◌∷◌, ◌++◌, length, Option, Some, None, Result, Ok, Err, refl, sym, ap, subst, append-nil, arith}
use Rattle.std.specs.Prelude.{min, slice_get}
use Rattle.std.specs.List.{list_any}
use Rattle.std.proofs.lemmas.List.Folds.{list_any-append}
use Rattle.cloak_base.specs.declared.causes.Violation.{Violation}
use Rattle.cloak_model.specs.declared.context.ResumeFault.{ResumeFault}
use Rattle.cloak_model.specs.declared.image.Bundle.{Bundle}
use Rattle.cloak_model.specs.declared.outcome.Kernel.{Kernel}
use Rattle.cloak_model.specs.declared.outcome.Kernel.TheVariants as outcome
use Rattle.cloak_model.specs.Ahead.{made_after, settle_touched, settled_step}
use Rattle.cloak_model.specs.Contexts.{Admitted, domain_of}
use Rattle.cloak_model.specs.Csr.{satp_of}
use Rattle.cloak_model.specs.DomainState.{Control, Domain}
use Rattle.cloak_model.specs.Ending.{ask_end, cloak_for}
use Rattle.cloak_model.specs.Hart.{Hart}
use Rattle.cloak_model.specs.Items.{Item}
use Rattle.cloak_model.specs.Items as item
use Rattle.cloak_model.specs.Joint.{Moment, Turn, after_kernel_step, after_outside, answers_violation, cloak_outside, domain_met, end_domain, ends_asked, ends_once, ends_resumed, hart_in, joint_step, next_hart, outside_ended, outside_step, quiet, refuses, turn_of}
use Rattle.cloak_model.specs.Parts.{Joint}
use Rattle.cloak_model.specs.Resuming.{AfterResume, resume, violated}
use Rattle.cloak_model.specs.Run.{Run, joint_after}
use Rattle.cloak_model.specs.World.{Cloaked, cipher_items, items_of}
use Rattle.cloak_model.proofs.ResumeParts.{by_context, by_domain, by_root}
use Rattle.cause_law.specs.Causes.{moment_at}
use Rattle.cause_law.specs.Presented.{hart_of_step}
use Rattle.cause_law.proofs.Ends.{turn_leaves}
use Rattle.cause_law.proofs.Runs.{RunSo, run_so}
use Rattle.recorded_law.specs.Recorded.{RefusalsAreRecorded, asks, is_answer, is_unanswered, unanswered}

-- one more, or as many
abbrev counted : Bool → ℕ → ℕ
counted one n = if one then min (n + 1) (2 ^ 64 - 1) else n

-- A resuming: it is done, and answered; or it is refused, and changes nothing.

data Resuming (j : Joint) (r : AfterResume) : Type 0 where
  Resumes : (domain ctx reply : ℕ) → r.items ≡ item.Resume domain ctx reply ∷ [] → r.violation ≡ None →
      r.joint.refused ≡ j.refused → Resuming j r
  Refuses : (v : Violation) → r ≡ violated j v → Resuming j r

root_resumes : (j : Joint) (satp ctx reply : ℕ) (was : Domain) (control : Control) (a : Admitted)
    (answer : Result (Unit {0}) ResumeFault) → Resuming j (by_root j satp ctx reply was control a answer)
unfolding by_root
root_resumes j satp ctx reply was control a (Err fault) = Refuses _ refl
root_resumes j satp ctx reply was control a (Ok done) = Resumes (domain_of ctx) ctx reply refl refl refl

context_resumes : (j : Joint) (satp ctx reply : ℕ) (was : Domain) (control : Control)
    (answer : Result (Unit {0}) ResumeFault) → Resuming j (by_context j satp ctx reply was control answer)
unfolding by_context
context_resumes j satp ctx reply was control (Err fault) = Refuses _ refl
context_resumes j satp ctx reply was control (Ok done) = root_resumes j satp ctx reply was control _ _

domain_resumes : (j : Joint) (hart satp ctx reply : ℕ) (found : Option Domain) →
    Resuming j (by_domain j hart satp ctx reply found)
unfolding by_domain
domain_resumes j hart satp ctx reply None = Refuses _ refl
domain_resumes j hart satp ctx reply (Some was) = context_resumes j satp ctx reply was _ _

resumes : (j : Joint) (hart satp ctx reply : ℕ) → Resuming j (resume j hart satp ctx reply)
unfolding resume by_domain by_context by_root
resumes j hart satp ctx reply = domain_resumes j hart satp ctx reply _

-- What follows a step of a hart outside that met a violation.

-- whether an item among these answers
abbrev has_answer : List Item → Bool
has_answer items = list_any is_answer items

none_more : (items : List Item) → has_answer items ≡ false → has_answer (items ++ []) ≡ false
none_more items none = ap has_answer (append-nil items) ∙ none

or_last : (b : Bool) → (b || (true || false)) ≡ true
or_last true = refl
or_last false = refl

or_true : (b : Bool) → (b || true) ≡ true
or_true true = refl
or_true false = refl

-- an item at the end that answers
answer_last : (items more : List Item) (i : Item) → is_answer i ≡ true → has_answer (items ++ (more ++ i ∷ [])) ≡ true
answer_last items more i is =
    list_any-append is_answer items (more ++ i ∷ [])
    ∙ (ap (λ (b : Bool). has_answer items || b) (list_any-append is_answer more (i ∷ []))
    ∙ (ap (λ (b : Bool). has_answer items || (has_answer more || (b || false))) is
    ∙ (ap (λ (b : Bool). has_answer items || b) (or_last (has_answer more)) ∙ or_true (has_answer items))))

-- counted as is told, by the items of the step
abbrev CountsBy : Bool → ℕ → Turn → Type 0
CountsBy asked n t = t.joint.refused ≡ counted (asked && not (has_answer t.items)) n

answered_none : (n : ℕ) (t : Turn) → t.joint.refused ≡ n → has_answer t.items ≡ true → CountsBy true n t
answered_none n t same is = same ∙ ap (λ (b : Bool). counted (true && not b) n) (sym is)

unanswered_one : (n : ℕ) (t : Turn) → t.joint.refused ≡ min (n + 1) (2 ^ 64 - 1) → has_answer t.items ≡ false →
    CountsBy true n t
unanswered_one n t one is = one ∙ ap (λ (b : Bool). counted (true && not b) n) (sym is)

once_counts : (over : Bool) (d : ℕ) (domain : Domain) (v : Violation) (t : Turn) → has_answer t.items ≡ false →
    CountsBy true t.joint.refused (ends_once over d domain v t)
unfolding ends_once end_domain
once_counts true d domain v t none = unanswered_one t.joint.refused (refuses t) refl none
once_counts false d domain v t none =
    answered_none t.joint.refused (end_domain d domain v t) refl
    (answer_last t.items (items_of (ask_end d (Cloaked (cloak_for t.joint.memory d))).world) (item.Ended d) refl)

found_counts : (found : Option Domain) (d : ℕ) (v : Violation) (t : Turn) → has_answer t.items ≡ false →
    CountsBy true t.joint.refused (ends_resumed found d v t)
unfolding ends_resumed
found_counts None d v t none = unanswered_one t.joint.refused (refuses t) refl none
found_counts (Some domain) d v t none = once_counts domain.control.ended d domain v t none

-- what the step makes of a resuming
abbrev resumed_turn : List Item → AfterResume → Turn
resumed_turn items r = record (quiet r.joint (items ++ r.items)) { violation = r.violation }

resuming_counts : (j : Joint) (items : List Item) (r : AfterResume) → has_answer items ≡ false → Resuming j r →
    CountsBy true j.refused (answers_violation None r.violation (resumed_turn items r))
unfolding answers_violation
resuming_counts j items r none (Refuses v is) =
    subst (λ (x : AfterResume). CountsBy true j.refused (answers_violation None x.violation (resumed_turn items x)))
    (sym is)
    (found_counts (slice_get j.domains (domain_met v)) (domain_met v) v (resumed_turn items (violated j v))
    (none_more items none))
resuming_counts j items r none (Resumes domain ctx reply written met same) =
    subst (λ (o : Option Violation). CountsBy true j.refused (answers_violation None o (resumed_turn items r))) (sym met)
    (answered_none j.refused (resumed_turn items r) same
    (ap (λ (l : List Item). has_answer (items ++ l)) written
    ∙ answer_last items [] (item.Resume domain ctx reply) refl))

-- A step of a hart outside.

ended_counts : (j : Joint) (number : ℕ) (items : List Item) (e : Kernel) → has_answer items ≡ false →
    let t = outside_ended j number items e in
    CountsBy (asks None e) j.refused (answers_violation None t.violation t)
unfolding outside_ended answers_violation
ended_counts j number items (outcome.Resume ctx reply) none =
    resuming_counts j items _ none (resumes j number (satp_of (hart_in j number).csrs) ctx reply)
ended_counts j number items outcome.Stay none = refl
ended_counts j number items outcome.Trapped none = refl
ended_counts j number items (outcome.Put byte) none = refl
ended_counts j number items (outcome.Halt value) none = refl

ciphers_answer_none : (ciphers : List (ℕ × List ℕ)) → has_answer (cipher_items ciphers) ≡ false
ciphers_answer_none [] = refl
ciphers_answer_none (c ∷ ciphers) = ciphers_answer_none ciphers

outside_answers_none : (j : Joint) (h : Hart) →
    has_answer (items_of (settled_step h j.disk (cloak_outside j.memory h)).world) ≡ false
unfolding settled_step made_after
outside_answers_none j h = ciphers_answer_none (settle_touched h j.disk j.memory).ciphers

outside_counts : (j : Joint) (number : ℕ) (h : Hart) →
    let t = outside_step j number h in
    CountsBy (asks None (settled_step h j.disk (cloak_outside j.memory h)).answer.ending) j.refused
    (answers_violation None t.violation t)
unfolding outside_step after_outside
outside_counts j number h =
    let told = settled_step h j.disk (cloak_outside j.memory h) in
    ended_counts (after_kernel_step j number told) number (items_of told.world) told.answer.ending
    (outside_answers_none j h)

-- A step of a hart inside.

asked_counts_none : (found : Option Domain) (d : ℕ) (v : Violation) (t : Turn) →
    (ends_asked found d v t).joint.refused ≡ t.joint.refused
unfolding ends_asked end_domain
asked_counts_none None d v t = refl
asked_counts_none (Some domain) d v t = refl

inside_counts_none : (ctx : ℕ) (met : Option Violation) (t : Turn) →
    (answers_violation (Some ctx) met t).joint.refused ≡ t.joint.refused
unfolding answers_violation
inside_counts_none ctx None t = refl
inside_counts_none ctx (Some v) t = asked_counts_none _ (domain_of ctx) v t

-- A step.

outside_turn_counts : (j : Joint) (number : ℕ) (h : Hart) →
    let t = turn_of j number h None in
    CountsBy (asks None (settled_step h j.disk (cloak_outside j.memory h)).answer.ending) j.refused
    (answers_violation None t.violation t)
unfolding turn_of
outside_turn_counts j number h = outside_counts j number h

turn_counts : (j : Joint) (number : ℕ) (h : Hart) (inside : Option ℕ) →
    let t = turn_of j number h inside in
    CountsBy (asks inside (settled_step h j.disk (cloak_outside j.memory h)).answer.ending) j.refused
    (answers_violation inside t.violation t)
turn_counts j number h (Some ctx) =
    inside_counts_none ctx _ (turn_of j number h (Some ctx)) ∙ (turn_leaves j number h (Some ctx)).refused
turn_counts j number h None = outside_turn_counts j number h

step_counts : (m : Moment) → (joint_step m).joint.refused ≡ counted (is_unanswered m) m.joint.refused
unfolding joint_step
step_counts m = turn_counts m.joint (next_hart m) (hart_of_step m) (hart_of_step m).inside

-- All steps.

sum_counted : (one : Bool) (n u : ℕ) → n ≡ min u (2 ^ 64 - 1) →
    counted one n ≡ min (u + (if one then 1 else 0)) (2 ^ 64 - 1)
sum_counted true n u is = omega (arith, is)
sum_counted false n u is = omega (arith, is)

none_counted : 0 ≡ min 0 (2 ^ 64 - 1)
none_counted = omega arith

counted_by : (b : Bundle) (r : Run) → RunSo b r → (n : ℕ) → n ≤ length r.turns →
    (moment_at b r n).joint.refused ≡ min (unanswered b r n) (2 ^ 64 - 1)
unfolding unanswered joint_after
counted_by b r so zero le = so.counted ∙ none_counted
counted_by b r so (suc n) le =
    let low : n < length r.turns = omega (arith, le) in
    ap (λ (j : Joint). j.refused) (so.reaches n low).next
    ∙ (step_counts (moment_at b r n)
    ∙ sum_counted (is_unanswered (moment_at b r n)) (moment_at b r n).joint.refused (unanswered b r n)
    (counted_by b r so n (omega (arith, low))))

pub refusals_are_recorded : RefusalsAreRecorded
refusals_are_recorded b from budget r is =
    let so = run_so b from budget r is in
    so.closed.refused ∙ counted_by b r so (length r.turns) (omega arith)
