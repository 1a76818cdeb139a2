-- The reservations of every program's contexts over a step of the joint machine.
use Rattle.std.proofs.Common.{◌≡◌, ◌≢◌, ◌∙◌, ◌⊎◌, inl, inr, ℕ, zero, suc, ◌%◌, Bool, true, false, List, [], ◌∷◌, slice_get, slice_set, Option, Some, None, Result, Ok, Err, refl, sym, ap, subst, arith}
use Rattle.std.specs.Prelude.{is_some, replicate}
use Rattle.std.specs.List.{list_any}
use Rattle.cloak_base.specs.declared.causes.Violation.{Violation}
use Rattle.cloak_model.specs.declared.context.ResumeFault.{ResumeFault}
use Rattle.cloak_model.specs.declared.context.PageWord.{PageWord}
use Rattle.cloak_model.specs.Items.{Item}
use Rattle.cloak_model.specs.Items as item
use Rattle.cloak_model.specs.declared.outcome.Kernel.{Kernel}
use Rattle.cloak_model.specs.declared.outcome.Kernel.TheVariants.{Resume}
use Rattle.cloak_model.specs.Asking.{Told}
use Rattle.cloak_model.specs.Contexts.{Admitted, context_at, domain_of, slot_of}
use Rattle.cloak_model.specs.Csr.{interrupt_due}
use Rattle.cloak_model.specs.DomainAlone.{runs_on}
use Rattle.cloak_model.specs.DomainState.{Control, Domain}
use Rattle.cloak_model.specs.DomainStep.{DomainStepped, domain_step, interrupt}
use Rattle.cloak_model.specs.Ending.{ended_domain}
use Rattle.cloak_model.specs.Halves.{inward_half}
use Rattle.cloak_model.specs.Hart.{Hart}
use Rattle.cloak_model.specs.Joint.{Moment, Turn, next_hart, hart_in, cloak_of, memory_of, outside_ended, after_outside, outside_step, domain_ended, after_domain_step, pages_for, after_interrupt, by_interrupt, by_running, inside_step, turn_of, domain_met, end_domain, ends_once, ends_resumed, ends_asked, answers_violation, joint_step}
use Rattle.cloak_model.specs.KernelStep.{ticked}
use Rattle.cloak_model.specs.Parts.{Joint}
use Rattle.cloak_model.specs.Resuming.{resume}
use Rattle.cloak_model.proofs.ResumeParts.{by_root, by_context, by_domain}
use Rattle.cloak_model.specs.World.{MidStep, Cloaked, items_of}
use Rattle.cloak_model.specs.Resources.{resource_at}
use Rattle.domain_isolation.proofs.InOrder.{get_set_same}
use Rattle.kernel_isolation.proofs.Numbers.{AreFrom, number_at}
use Rattle.resource_map.proofs.Lists.{get_or-replicate_none}
use Rattle.latest_store.specs.Moves.{Move}
use Rattle.latest_store.specs.Deeds.{context_moves, program_moves, step_moves}
use Rattle.latest_store.proofs.Moved.{Agrees}
use Rattle.latest_store.proofs.Heard.{Heard}
use Rattle.latest_store.specs.Sums.{writes_in}
use Rattle.context_law.specs.Inside.{page_of, Reached, reserved_by, context_reached, program_reached, step_reached}
use Rattle.context_law.proofs.Marks.{mark_of, mark_at, NoMore}
use Rattle.context_law.proofs.Others.{Misses, context_misses}
use Rattle.context_law.proofs.StepMarks.{Origin, Stepping, step_stepping, interrupt_none, resume_none}
use Rattle.latest_store.proofs.Turned.{timer_told, domain_ended_so, interrupt_ended_so, silent_none, timer_none}

-- Programs.

abbrev pub mark_in : Option Domain → ℕ → Option PageWord
mark_in None k = None
mark_in (Some d) k = mark_at d.control.contexts k

-- the reservation of the context of slot k of program d
abbrev pub marks_in : List Domain → ℕ → ℕ → Option PageWord
marks_in domains d k = mark_in (slice_get domains d) k

-- each reservation was there before
abbrev pub NoneNew : List Domain → List Domain → Type 0
NoneNew domains domains' =
    (d k : ℕ) (word : PageWord) → marks_in domains' d k ≡ Some word → marks_in domains d k ≡ Some word

set_in : (domains : List Domain) (e : ℕ) (made : Domain) (d k : ℕ) (word : PageWord) →
    marks_in (slice_set domains e made) d k ≡ Some word →
    ((e ≡ d) × (mark_at made.control.contexts k ≡ Some word)) ⊎ ((e ≢ d) × (marks_in domains d k ≡ Some word))
set_in [] e made zero k word is = absurd cc
set_in [] e made (suc d) k word is = absurd cc
set_in (x ∷ domains) zero made zero k word is = inl (refl, is)
set_in (x ∷ domains) zero made (suc d) k word is = inr ((λ same. omega (arith, same)), is)
set_in (x ∷ domains) (suc e) made zero k word is = inr ((λ same. omega (arith, same)), is)
set_in (x ∷ domains) (suc e) made (suc d) k word is = elim (set_in domains e made d k word is) [
  | inl here ↦ inl (ap (λ (n : ℕ). suc n) here.0, here.1)
  | inr there ↦ inr ((λ same. there.0 (omega (arith, same))), there.1)
]

-- the contexts of a program are others
set_none_new : (domains : List Domain) (e : ℕ) (found made : Domain) → slice_get domains e ≡ Some found →
    NoMore found.control.contexts made.control.contexts → NoneNew domains (slice_set domains e made)
set_none_new domains e found made there none d k word is = elim (set_in domains e made d k word is) [
  | inl here ↦
      ap (λ (o : Option Domain). mark_in o k) (ap (slice_get domains) (sym here.0) ∙ there) ∙ none k word here.1
  | inr away ↦ away.1
]

-- A hart outside.

root_none : (j : Joint) (satp ctx reply : ℕ) (was : Domain) (control : Control) (a : Admitted)
    (answer : Result (Unit {0}) ResumeFault) → slice_get j.domains (domain_of ctx) ≡ Some was →
    NoMore was.control.contexts control.contexts →
    NoneNew j.domains (by_root j satp ctx reply was control a answer).joint.domains
unfolding by_root
root_none j satp ctx reply was control a (Err fault) there none d k word is = is
root_none j satp ctx reply was control a (Ok done) there none d k word is =
    set_none_new j.domains (domain_of ctx) was (record was { control = control }) there none d k word is

context_none : (j : Joint) (satp ctx reply : ℕ) (was : Domain) (control : Control)
    (answer : Result (Unit {0}) ResumeFault) → slice_get j.domains (domain_of ctx) ≡ Some was →
    NoMore was.control.contexts control.contexts →
    NoneNew j.domains (by_context j satp ctx reply was control answer).joint.domains
unfolding by_context
context_none j satp ctx reply was control (Err fault) there none d k word is = is
context_none j satp ctx reply was control (Ok done) there none d k word is =
    root_none j satp ctx reply was control _ _ there none d k word is

domain_none : (j : Joint) (hart satp ctx reply : ℕ) (found : Option Domain) →
    slice_get j.domains (domain_of ctx) ≡ found →
    NoneNew j.domains (by_domain j hart satp ctx reply found).joint.domains
unfolding by_domain
domain_none j hart satp ctx reply None there d k word is = is
domain_none j hart satp ctx reply (Some was) there d k word is =
    context_none j satp ctx reply was _ _ there (resume_none (slot_of ctx) hart reply was.control) d k word is

resumed_none : (j : Joint) (hart satp ctx reply : ℕ) → NoneNew j.domains (resume j hart satp ctx reply).joint.domains
unfolding resume by_domain by_context by_root
resumed_none j hart satp ctx reply d k word is = domain_none j hart satp ctx reply _ refl d k word is

outside_ended_none : (j : Joint) (number : ℕ) (items : List Item) (e : Kernel) →
    NoneNew j.domains (outside_ended j number items e).joint.domains
unfolding outside_ended
outside_ended_none j number items (Resume ctx reply) d k word is = resumed_none j number _ ctx reply d k word is
outside_ended_none j number items _ d k word is = is

outside_none : (j : Joint) (number : ℕ) (h : Hart) → NoneNew j.domains (outside_step j number h).joint.domains
unfolding outside_step after_outside
outside_none j number h d k word is = outside_ended_none _ number _ _ d k word is

-- A hart inside.

-- the context made the reservation
pub record Reserves (ctx : ℕ) (reached : Option Reached) (d k : ℕ) (word : PageWord) : Type 0 where
  pub domain : domain_of ctx ≡ d
  pub slot : slot_of ctx ≡ k
  pub by : reserved_by reached ≡ Some word

-- a resource of a program is in use

abbrev pub used_in : Option Domain → ℕ → Bool
used_in None n = false
used_in (Some d) n = is_some (resource_at d.control.resources n)

abbrev pub UsedIn : List Domain → ℕ → ℕ → Type 0
UsedIn domains d n = used_in (slice_get domains d) n ≡ true

-- it stood before, in a word in which no move writes, if its resource is in use before and after
pub record Stands (domains domains' : List Domain) (moves : List Move) (d k : ℕ) (word : PageWord) : Type 0 where
  pub was : marks_in domains d k ≡ Some word
  pub unwritten : UsedIn domains d word.resource → UsedIn domains' d word.resource → Misses d word moves

abbrev pub MarksBy : List Domain → ℕ → Option Reached → List Move → List Domain → Type 0
MarksBy domains ctx reached moves domains' =
    (d k : ℕ) (word : PageWord) → word.at % 4 ≡ 0 → marks_in domains' d k ≡ Some word →
    Reserves ctx reached d k word ⊎ Stands domains domains' moves d k word

-- by the program that is there, and what it was told
abbrev MarksTold : List Move → List Domain → ℕ → Option Domain → List Item → List Domain → Type 0
MarksTold history domains ctx found items domains' =
    let told = inward_half (domain_of ctx) items in
    MarksBy domains ctx (program_reached found history (slot_of ctx) told)
    (program_moves found history (slot_of ctx) told)
    domains'

-- nothing that is stored by a program is of another one
other_misses : (history : List Move) (domains : List Domain) (e slot d : ℕ) (word : PageWord) (found : Option Domain)
    (answers : List Item) → slice_get domains e ≡ found → AreFrom 0 domains → e ≢ d →
    Misses d word (program_moves found history slot answers)
unfolding program_moves
other_misses history domains e slot d word None answers there programs other = refl
other_misses history domains e slot d word (Some was) answers there programs other =
    context_misses d word was.control
    (λ same. other (sym (number_at e domains was programs there) ∙ same))
    (context_at was.control.contexts slot) history answers

module _ (history : List Move) (j : Joint) (ctx : ℕ) (found : Domain)
    (there : slice_get j.domains (domain_of ctx) ≡ Some found) (own : found.control.number ≡ domain_of ctx)
  where
    built : (made : Domain) (t : Turn) (answers : List Item) → inward_half (domain_of ctx) t.items ≡ answers →
        t.joint.domains ≡ slice_set j.domains (domain_of ctx) made →
        ((k : ℕ) (word : PageWord) → word.at % 4 ≡ 0 → mark_at made.control.contexts k ≡ Some word →
        Origin (slot_of ctx) found.control made.control.resources
        (context_reached (context_at found.control.contexts (slot_of ctx)) history found.control answers)
        (context_moves (context_at found.control.contexts (slot_of ctx)) history found.control answers) k word) →
        MarksTold history j.domains ctx (Some found) t.items t.joint.domains
    unfolding program_moves
    built made t answers told domains marks d k word aligned is =
        let o = context_at found.control.contexts (slot_of ctx) in
        let reached : List Item → Option Reached = context_reached o history found.control in
        let moves : List Item → List Move = context_moves o history found.control in
        subst (λ (l : List Domain). Reserves ctx (reached (inward_half (domain_of ctx) t.items)) d k word
        ⊎ Stands j.domains l (moves (inward_half (domain_of ctx) t.items)) d k word) (sym domains)
        (subst (λ (l : List Item). Reserves ctx (reached l) d k word
        ⊎ Stands j.domains (slice_set j.domains (domain_of ctx) made) (moves l) d k word) (sym told)
        (elim (set_in j.domains (domain_of ctx) made d k word
        (ap (λ (l : List Domain). marks_in l d k) (sym domains) ∙ is)) [
          | inl here ↦
              elim (marks k word aligned here.1) [
                | inl makes ↦ inl (record { domain = here.0; slot = sym makes.0; by = makes.1 })
                | inr stood ↦ inr (record {
                  was = ap (λ (p : Option Domain). mark_in p k) (ap (slice_get j.domains) (sym here.0) ∙ there)
                      ∙ stood.0;
                  unwritten = λ before later.
                      subst (λ (n : ℕ). Misses n word (moves answers)) (own ∙ here.0)
                      (stood.1
                      (ap (λ (p : Option Domain). used_in p word.resource)
                      (sym (ap (slice_get j.domains) (sym here.0) ∙ there)) ∙ before)
                      (ap (λ (p : Option Domain). used_in p word.resource)
                      (sym (ap (slice_get (slice_set j.domains (domain_of ctx) made)) (sym here.0)
                      ∙ get_set_same j.domains (domain_of ctx) found made there)) ∙ later));
                })
              ]
          | inr away ↦ inr (record {
            was = away.1;
            unwritten = λ before later.
                context_misses d word found.control (λ same. away.0 (sym own ∙ same)) o history answers;
          })
        ]))

    -- it did nothing, and no reservation is new
    quiet : (made : Domain) (t : Turn) (answers : List Item) → inward_half (domain_of ctx) t.items ≡ answers →
        t.joint.domains ≡ slice_set j.domains (domain_of ctx) made →
        NoMore found.control.contexts made.control.contexts →
        context_moves (context_at found.control.contexts (slot_of ctx)) history found.control answers ≡ [] →
        MarksTold history j.domains ctx (Some found) t.items t.joint.domains
    quiet made t answers told domains none nothing =
        built made t answers told domains (λ k word aligned is.
        inr (
          none k word is,
          (λ before later.
              ap (list_any (writes_in (page_of found.control.number word) word.at)) nothing),
        ))

-- if nothing or the timer is told of, nothing is done

silent_program : (o : Option Domain) (history : List Move) (slot : ℕ) → program_moves o history slot [] ≡ []
unfolding program_moves
silent_program None history slot = refl
silent_program (Some d) history slot = silent_none (context_at d.control.contexts slot) history d.control

-- a step of its context
stepped_marks : (history : List Move) (j : Joint) (number : ℕ) (h : Hart) (ctx : ℕ) (found : Domain)
    (t : Told DomainStepped) → slice_get j.domains (domain_of ctx) ≡ Some found →
    found.control.number ≡ domain_of ctx →
    Stepping (slot_of ctx) found
    (context_moves (context_at found.control.contexts (slot_of ctx)) history found.control)
    (context_reached (context_at found.control.contexts (slot_of ctx)) history found.control) t →
    let turn = after_domain_step j number h (domain_of ctx) t in
    MarksTold history j.domains ctx (Some found) turn.items turn.joint.domains
unfolding after_domain_step
stepped_marks history j number h ctx found t there own steps =
    let e = domain_of ctx in
    let o = context_at found.control.contexts (slot_of ctx) in
    let j' : Joint = record j {
      domains = slice_set j.domains e t.answer.domain;
      memory = memory_of t.world j.memory;
    } in
    let ended = domain_ended_so e j' number h e t.world t.answer.went in
    built history j ctx found there own t.answer.domain (domain_ended j' number h e t.world t.answer.went)
    steps.answers (ended.told ∙ subst (λ (n : ℕ). inward_half n (items_of t.world) ≡ steps.answers) own steps.told)
    ended.domains
    steps.marks

due_marks : (due : Bool) (history : List Move) (j : Joint) (number : ℕ) (h : Hart) (ctx : ℕ) (found : Domain) →
    slice_get j.domains (domain_of ctx) ≡ Some found → found.control.number ≡ domain_of ctx →
    Agrees history j.memory.plain →
    let t = by_interrupt due j number h (domain_of ctx) (slot_of ctx) found in
    MarksTold history j.domains ctx (Some found) t.items t.joint.domains
unfolding by_interrupt after_interrupt
due_marks true history j number h ctx found there own agrees =
    let e = domain_of ctx in
    let made : Domain = record found { control = (interrupt (slot_of ctx) found.control).control } in
    let ended = interrupt_ended_so e _ number h (item.Timer e ∷ []) _ in
    quiet history j ctx found there own made (by_interrupt true j number h e (slot_of ctx) found)
    (item.Timer e ∷ []) (ended.told ∙ timer_told e) ended.domains
    (interrupt_none (slot_of ctx) found.control)
    (timer_none (context_at found.control.contexts (slot_of ctx)) history found.control e)
due_marks false history j number h ctx found there own agrees =
    let e = domain_of ctx in
    let slot = slot_of ctx in
    let c : MidStep = cloak_of j.memory h e (pages_for found (context_at found.control.contexts slot)) in
    let heard : Heard found.control.number j.memory.plain [] (Cloaked c) =
    record { form = refl; regime = sym own; pages = refl; told = refl } in
    stepped_marks history j number h ctx found (domain_step slot found (Cloaked c)) there own
    (step_stepping slot found history j.memory.plain (Cloaked c) agrees heard)

-- a context that does not run on the hart is left
left_marks : (history : List Move) (domains : List Domain) (ctx : ℕ) (found : Option Domain) →
    MarksBy domains ctx (program_reached found history (slot_of ctx) []) (program_moves found history (slot_of ctx) [])
    domains
left_marks history domains ctx found d k word aligned is = inr (record {
  was = is;
  unwritten = λ before later.
      ap (list_any (writes_in (page_of d word) word.at)) (silent_program found history (slot_of ctx));
})

running_marks : (runs : Bool) (history : List Move) (j : Joint) (number : ℕ) (h : Hart) (ctx : ℕ) (found : Domain) →
    slice_get j.domains (domain_of ctx) ≡ Some found → found.control.number ≡ domain_of ctx →
    Agrees history j.memory.plain →
    let t = by_running runs j number h ctx found in
    MarksTold history j.domains ctx (Some found) t.items t.joint.domains
unfolding by_running
running_marks false history j number h ctx found there own agrees = left_marks history j.domains ctx (Some found)
running_marks true history j number h ctx found there own agrees =
    due_marks (interrupt_due h.mode h.csrs) history j number h ctx found there own agrees

inside_marks : (history : List Move) (j : Joint) (number : ℕ) (h : Hart) (ctx : ℕ) (found : Option Domain) →
    slice_get j.domains (domain_of ctx) ≡ found → AreFrom 0 j.domains → Agrees history j.memory.plain →
    let t = inside_step j number h ctx found in MarksTold history j.domains ctx found t.items t.joint.domains
unfolding inside_step
inside_marks history j number h ctx None there programs agrees = left_marks history j.domains ctx None
inside_marks history j number h ctx (Some found) there programs agrees =
    running_marks (runs_on number (context_at found.control.contexts (slot_of ctx))) history j number h ctx found there
    (number_at (domain_of ctx) j.domains found programs there) agrees

-- Every step, and the end of a domain after it.

-- of a step of a hart that was inside this context, or in none
abbrev pub MarksAfter : List Move → List Domain → Option ℕ → List Item → List Domain → Type 0
MarksAfter history domains None items domains' = NoneNew domains domains'
MarksAfter history domains (Some ctx) items domains' =
    MarksBy domains ctx (step_reached history domains (Some ctx) items) (step_moves history domains (Some ctx) items)
    domains'

turn_marks : (history : List Move) (j : Joint) (number : ℕ) (h : Hart) (inside : Option ℕ) → AreFrom 0 j.domains →
    Agrees history j.memory.plain →
    let t = turn_of j number h inside in MarksAfter history j.domains inside t.items t.joint.domains
unfolding turn_of step_moves
turn_marks history j number h None programs agrees = outside_none j number h
turn_marks history j number h (Some ctx) programs agrees =
    inside_marks history j number (ticked h) ctx _ refl programs agrees

-- an ended domain has no contexts
ended_none : (old : Domain) (k : ℕ) (word : PageWord) → mark_at (ended_domain old).control.contexts k ≡ Some word → ⊥
unfolding ended_domain
ended_none old k word is =
    let none : context_at (replicate 8 None) k ≡ None = get_or-replicate_none 8 k in
    let gone : mark_at (replicate 8 None) k ≡ None = ap mark_of none in
    cc

module _ (history : List Move) (domains : List Domain) (programs : AreFrom 0 domains) where
  ended_outside : (t : Turn) (e : ℕ) (old : Domain) (v : Violation) → NoneNew domains t.joint.domains →
      NoneNew domains (end_domain e old v t).joint.domains
  unfolding end_domain
  ended_outside t e old v none d k word is = elim (set_in t.joint.domains e (ended_domain old) d k word is) [
    | inl here ↦ absurd (ended_none old k word here.1)
    | inr away ↦ none d k word away.1
  ]

  ended_inside : (ctx : ℕ) (t : Turn) (old : Domain) (v : Violation) →
      MarksAfter history domains (Some ctx) t.items t.joint.domains →
      MarksAfter history domains (Some ctx) (end_domain (domain_of ctx) old v t).items
      (end_domain (domain_of ctx) old v t).joint.domains
  unfolding end_domain step_moves
  ended_inside ctx t old v marks d k word aligned is =
      elim (set_in t.joint.domains (domain_of ctx) (ended_domain old) d k word is) [
        | inl here ↦ absurd (ended_none old k word here.1)
        | inr away ↦
            elim (marks d k word aligned away.1) [
              | inl makes ↦ absurd (away.0 makes.domain)
              | inr stood ↦ inr (record {
                was = stood.was;
                unwritten = λ before later.
                    other_misses history domains (domain_of ctx) (slot_of ctx) d word _ _ refl programs away.0;
              })
            ]
      ]

  once_marks : (over : Bool) (t : Turn) (e : ℕ) (old : Domain) (v : Violation) → NoneNew domains t.joint.domains →
      NoneNew domains (ends_once over e old v t).joint.domains
  unfolding ends_once
  once_marks true t e old v none = none
  once_marks false t e old v none = ended_outside t e old v none

  resumed_marks : (found : Option Domain) (t : Turn) (e : ℕ) (v : Violation) → NoneNew domains t.joint.domains →
      NoneNew domains (ends_resumed found e v t).joint.domains
  unfolding ends_resumed
  resumed_marks None t e v none = none
  resumed_marks (Some old) t e v none = once_marks old.control.ended t e old v none

  asked_marks : (found : Option Domain) (ctx : ℕ) (t : Turn) (v : Violation) →
      MarksAfter history domains (Some ctx) t.items t.joint.domains →
      MarksAfter history domains (Some ctx) (ends_asked found (domain_of ctx) v t).items
      (ends_asked found (domain_of ctx) v t).joint.domains
  unfolding ends_asked
  asked_marks None ctx t v marks = marks
  asked_marks (Some old) ctx t v marks = ended_inside ctx t old v marks

  answered_marks : (inside : Option ℕ) (met : Option Violation) (t : Turn) →
      MarksAfter history domains inside t.items t.joint.domains →
      MarksAfter history domains inside (answers_violation inside met t).items
      (answers_violation inside met t).joint.domains
  unfolding answers_violation
  answered_marks inside None t marks = marks
  answered_marks None (Some v) t marks = resumed_marks _ t (domain_met v) v marks
  answered_marks (Some ctx) (Some v) t marks = asked_marks _ ctx t v marks

pub step_marks : (history : List Move) (m : Moment) → AreFrom 0 m.joint.domains → Agrees history m.joint.memory.plain →
    MarksAfter history m.joint.domains (hart_in m.joint (next_hart m)).inside (joint_step m).items
    (joint_step m).joint.domains
unfolding joint_step
step_marks history m programs agrees =
    let h = hart_in m.joint (next_hart m) in
    let t = turn_of m.joint (next_hart m) h h.inside in
    answered_marks history m.joint.domains programs h.inside t.violation t
    (turn_marks history m.joint (next_hart m) h h.inside programs agrees)
