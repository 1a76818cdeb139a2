-- A program whose domain has ended: none of its contexts is there, so no step changes it, but for one more end.
use Rattle.std.proofs.Common.{◌≡◌, ◌≢◌, ◌∙◌, ℕ, Bool, true, false, ◌||◌, List, [], ◌∷◌, ◌++◌, slice_get, Option, Some, None, Result, Ok, Err, inl, inr, refl, sym, ap, subst}
use Rattle.std.specs.Prelude.{◌==◌}
use Rattle.std.proofs.lemmas.Bool.{false≢true, eqb-true}
use Rattle.std.proofs.lemmas.List.Folds.{list_any-append}
use Rattle.cloak_base.specs.declared.causes.Violation.{Violation}
use Rattle.cloak_model.specs.declared.context.ResumeFault.{ResumeFault}
use Rattle.cloak_model.specs.declared.context.ResumeFault.TheVariants.{NoContext}
use Rattle.cloak_model.specs.declared.inside.Went.{Went}
use Rattle.cloak_model.specs.declared.inside.Went.TheVariants as went
use Rattle.cloak_model.specs.Items.{Item}
use Rattle.cloak_model.specs.Items as item
use Rattle.cloak_model.specs.declared.outcome.Kernel.{Kernel}
use Rattle.cloak_model.specs.declared.outcome.Kernel.TheVariants.{Resume}
use Rattle.cloak_model.specs.Contexts.{Context, Admitted, Resumed, context_at, domain_of, slot_of, resume_if, resume_at}
use Rattle.cloak_model.specs.DomainAlone.{runs_on}
use Rattle.cloak_model.specs.DomainState.{Control, Domain}
use Rattle.cloak_model.specs.DomainStep.{resume_told, resume_slot}
use Rattle.cloak_model.specs.Ending.{ended_domain}
use Rattle.cloak_model.specs.Hart.{Hart}
use Rattle.cloak_model.specs.Joint.{Moment, Turn, next_hart, hart_in, outside_ended, after_outside, outside_step, domain_ended, after_domain_step, interrupt_ended, after_interrupt, by_interrupt, by_running, inside_step, turn_of, domain_met, end_domain, refuses, ends_once, ends_resumed, ends_asked, answers_violation, joint_step}
use Rattle.cloak_model.specs.KernelStep.{ticked}
use Rattle.cloak_model.specs.Parts.{Joint}
use Rattle.cloak_model.specs.Resuming.{resume}
use Rattle.cloak_model.proofs.ResumeParts.{by_root, by_context, by_domain}
use Rattle.cloak_model.specs.World.{World, items_of}
use Rattle.domain_isolation.proofs.Endings.{end_world, end_leaves}
use Rattle.domain_isolation.proofs.InOrder.{decided, get_set_same}
use Rattle.kernel_isolation.proofs.Numbers.{AreFrom}
use Rattle.resource_map.proofs.Lists.{get_or-replicate_none}
use Rattle.page_law.specs.OwnPages.{is_end_of, ends_in}
use Rattle.latest_store.proofs.Numbers.{no_resources}
use Rattle.latest_store.proofs.Told.{EndsNone, unheard_ends, turn_told}
use Rattle.std.proofs.lemmas.Option.{same_Some}
use Rattle.cloak_base.proofs.Lists.{slice_get-set_other}

-- Domain d is there, has completed these loads, and has neither a context nor a resource.
pub record IsOver (d : ℕ) (loads : List (ℕ × ℕ)) (j : Joint) : Type 0 where
  pub program : Domain
  pub there : slice_get j.domains d ≡ Some program
  pub completed : program.loads ≡ loads
  pub idle : (slot : ℕ) → context_at program.control.contexts slot ≡ None
  pub resources : program.control.resources ≡ no_resources

-- It is over at one moment and at another one, between which it completed no load.
pub record OverFrom (d : ℕ) (j j' : Joint) : Type 0 where
  pub loads : List (ℕ × ℕ)
  pub first : IsOver d loads j
  pub later : IsOver d loads j'

-- A step changes nothing of it.

none_resumed : (slot hart reply : ℕ) (c : Control) → context_at c.contexts slot ≡ None →
    (resume_slot slot hart reply c).answer ≡ Err NoContext
unfolding resume_slot resume_at resume_if resume_told
none_resumed slot hart reply c none =
    ap (λ (o : Option Context). let made : Resumed = resume_if slot hart o c.contexts in
    (resume_told slot reply made.answer (record c { contexts = made.contexts })).answer) none

module _ (d : ℕ) where
  -- the program of domain d is the same
  abbrev Same : Joint → Joint → Type 0
  Same j j' = slice_get j'.domains d ≡ slice_get j.domains d

  root_same : (j : Joint) (satp ctx reply : ℕ) (w : Domain) (control : Control) (a : Admitted)
      (answer : Result (Unit {0}) ResumeFault) → d ≢ domain_of ctx →
      Same j (by_root j satp ctx reply w control a answer).joint
  unfolding by_root
  root_same j satp ctx reply w control a (Err fault) other = refl
  root_same j satp ctx reply w control a (Ok done) other = slice_get-set_other j.domains (domain_of ctx) d _ other

  context_same : (j : Joint) (satp ctx reply : ℕ) (w : Domain) (control : Control)
      (answer : Result (Unit {0}) ResumeFault) → d ≢ domain_of ctx →
      Same j (by_context j satp ctx reply w control answer).joint
  unfolding by_context
  context_same j satp ctx reply w control (Err fault) other = refl
  context_same j satp ctx reply w control (Ok done) other = root_same j satp ctx reply w control _ _ other

  refused_same : (j : Joint) (satp ctx reply : ℕ) (w : Domain) (control : Control)
      (answer : Result (Unit {0}) ResumeFault) → answer ≡ Err NoContext →
      Same j (by_context j satp ctx reply w control answer).joint
  unfolding by_context
  refused_same j satp ctx reply w control (Err fault) is = refl
  refused_same j satp ctx reply w control (Ok done) is = absurd cc

  went_same : (j : Joint) (number : ℕ) (h : Hart) (e : ℕ) (w : World) (how : Went) →
      Same j (domain_ended j number h e w how).joint
  unfolding domain_ended
  went_same j number h e w went.Stay = refl
  went_same j number h e w _ = refl

  interrupt_same : (j : Joint) (number : ℕ) (h : Hart) (items : List Item) (how : Went) →
      Same j (interrupt_ended j number h items how).joint
  unfolding interrupt_ended
  interrupt_same j number h items (went.Leave s) = refl
  interrupt_same j number h items _ = refl

  -- a step of another program
  due_same : (due : Bool) (j : Joint) (number : ℕ) (h : Hart) (e slot : ℕ) (found : Domain) → d ≢ e →
      Same j (by_interrupt due j number h e slot found).joint
  unfolding by_interrupt after_interrupt after_domain_step
  due_same true j number h e slot found other =
      interrupt_same _ number h (item.Timer e ∷ []) _ ∙ slice_get-set_other j.domains e d _ other
  due_same false j number h e slot found other =
      went_same _ number h e _ _ ∙ slice_get-set_other j.domains e d _ other

  running_same : (runs : Bool) (j : Joint) (number : ℕ) (h : Hart) (ctx : ℕ) (found : Domain) → d ≢ domain_of ctx →
      Same j (by_running runs j number h ctx found).joint
  unfolding by_running
  running_same false j number h ctx found other = refl
  running_same true j number h ctx found other = due_same _ j number h (domain_of ctx) (slot_of ctx) found other

  -- a context that does not run on the hart
  left_same : (runs : Bool) (j : Joint) (number : ℕ) (h : Hart) (ctx : ℕ) (found : Domain) → runs ≡ false →
      Same j (by_running runs j number h ctx found).joint
  unfolding by_running
  left_same false j number h ctx found is = refl
  left_same true j number h ctx found is = absurd (false≢true (sym is))

  module _ (loads : List (ℕ × ℕ)) (j : Joint) (over : IsOver d loads j) where
    -- what is found under its number
    idle_at : (e : ℕ) (found : Domain) → d ≡ e → slice_get j.domains e ≡ Some found → (slot : ℕ) →
        context_at found.control.contexts slot ≡ None
    idle_at e found same is slot =
        let it : over.program ≡ found =
        same_Some over.program found (sym over.there ∙ ap (slice_get j.domains) same ∙ is) in
        ap (λ (x : Domain). context_at x.control.contexts slot) (sym it) ∙ over.idle slot

    domain_same : (j' : Joint) (hart satp ctx reply : ℕ) (found : Option Domain) → j'.domains ≡ j.domains →
        slice_get j.domains (domain_of ctx) ≡ found → Same j' (by_domain j' hart satp ctx reply found).joint
    unfolding by_domain
    domain_same j' hart satp ctx reply None alike is = refl
    domain_same j' hart satp ctx reply (Some found) alike is = elim (decided d (domain_of ctx)) [
      | inl same ↦
          refused_same j' satp ctx reply found _ _
          (none_resumed (slot_of ctx) hart reply found.control (idle_at (domain_of ctx) found same is (slot_of ctx)))
      | inr other ↦ context_same j' satp ctx reply found _ _ other
    ]

    kernel_same : (j' : Joint) (number : ℕ) (items : List Item) (k : Kernel) → j'.domains ≡ j.domains →
        Same j' (outside_ended j' number items k).joint
    unfolding outside_ended resume by_domain by_context by_root
    kernel_same j' number items (Resume ctx answer) alike =
        domain_same j' number _ ctx answer (slice_get j'.domains (domain_of ctx)) alike
        (ap (λ (domains : List Domain). slice_get domains (domain_of ctx)) (sym alike))
    kernel_same j' number items _ alike = refl

    found_same : (number : ℕ) (h : Hart) (ctx : ℕ) (found : Option Domain) →
        slice_get j.domains (domain_of ctx) ≡ found →
        Same j (inside_step j number h ctx found).joint
    unfolding inside_step
    found_same number h ctx None is = refl
    found_same number h ctx (Some found) is = elim (decided d (domain_of ctx)) [
      | inl same ↦
          left_same _ j number h ctx found
          (ap (runs_on number) (idle_at (domain_of ctx) found same is (slot_of ctx)))
      | inr other ↦ running_same _ j number h ctx found other
    ]

    turn_same : (number : ℕ) (h : Hart) (inside : Option ℕ) → Same j (turn_of j number h inside).joint
    unfolding turn_of outside_step after_outside
    turn_same number h None = kernel_same _ number _ _ refl
    turn_same number h (Some ctx) = found_same number (ticked h) ctx (slice_get j.domains (domain_of ctx)) refl

  over_same : (loads : List (ℕ × ℕ)) (j j' : Joint) → IsOver d loads j → Same j j' → IsOver d loads j'
  over_same loads j j' over same = record {
    program = over.program;
    there = same ∙ over.there;
    completed = over.completed;
    idle = over.idle;
    resources = over.resources;
  }

  -- An end.

  -- its own
  ends_own : (t : Turn) (old : Domain) (v : Violation) → slice_get t.joint.domains d ≡ Some old →
      IsOver d old.loads (end_domain d old v t).joint
  unfolding end_domain ended_domain
  ends_own t old v there = record {
    program = ended_domain old;
    there = get_set_same t.joint.domains d old (ended_domain old) there;
    completed = refl;
    idle = λ slot. get_or-replicate_none 8 slot;
    resources = refl;
  }

  end_over : (loads : List (ℕ × ℕ)) (t : Turn) (e : ℕ) (old : Domain) (v : Violation) → IsOver d loads t.joint →
      slice_get t.joint.domains e ≡ Some old → IsOver d loads (end_domain e old v t).joint
  unfolding end_domain
  end_over loads t e old v over there = elim (decided d e) [
    | inl same ↦
        let here : slice_get t.joint.domains d ≡ Some old = ap (slice_get t.joint.domains) same ∙ there in
        let it : old ≡ over.program = same_Some old over.program (sym here ∙ over.there) in
        subst (λ (l : List (ℕ × ℕ)). IsOver d l (end_domain e old v t).joint)
        (ap (λ (x : Domain). x.loads) it ∙ over.completed)
        (subst (λ (k : ℕ). IsOver d old.loads (end_domain k old v t).joint) same (ends_own t old v here))
    | inr other ↦
        over_same loads t.joint (end_domain e old v t).joint over
        (slice_get-set_other t.joint.domains e d (ended_domain old) other)
  ]

  once_over : (loads : List (ℕ × ℕ)) (ended : Bool) (e : ℕ) (old : Domain) (v : Violation) (t : Turn) →
      slice_get t.joint.domains e ≡ Some old → IsOver d loads t.joint → IsOver d loads (ends_once ended e old v t).joint
  unfolding ends_once
  once_over loads true e old v t is over = over_same loads t.joint (refuses t).joint over refl
  once_over loads false e old v t is over = end_over loads t e old v over is

  resumed_over : (loads : List (ℕ × ℕ)) (found : Option Domain) (e : ℕ) (v : Violation) (t : Turn) →
      slice_get t.joint.domains e ≡ found → IsOver d loads t.joint → IsOver d loads (ends_resumed found e v t).joint
  unfolding ends_resumed
  resumed_over loads None e v t is over = over_same loads t.joint (refuses t).joint over refl
  resumed_over loads (Some old) e v t is over = once_over loads old.control.ended e old v t is over

  asked_over : (loads : List (ℕ × ℕ)) (found : Option Domain) (e : ℕ) (v : Violation) (t : Turn) →
      slice_get t.joint.domains e ≡ found → IsOver d loads t.joint → IsOver d loads (ends_asked found e v t).joint
  unfolding ends_asked
  asked_over loads None e v t is over = over
  asked_over loads (Some old) e v t is over = end_over loads t e old v over is

  answers_over : (loads : List (ℕ × ℕ)) (inside : Option ℕ) (o : Option Violation) (t : Turn) → IsOver d loads t.joint →
      IsOver d loads (answers_violation inside o t).joint
  unfolding answers_violation
  answers_over loads inside None t over = over
  answers_over loads None (Some v) t over = resumed_over loads _ (domain_met v) v t refl over
  answers_over loads (Some ctx) (Some v) t over = asked_over loads _ (domain_of ctx) v t refl over

  -- the next step leaves it so
  pub step_over : (loads : List (ℕ × ℕ)) (m : Moment) → IsOver d loads m.joint → IsOver d loads (joint_step m).joint
  unfolding joint_step
  step_over loads m over =
      let h = hart_in m.joint (next_hart m) in
      let t = turn_of m.joint (next_hart m) h h.inside in
      answers_over loads h.inside t.violation t
      (over_same loads m.joint t.joint over (turn_same loads m.joint over (next_hart m) h h.inside))

  -- Where it ended.

  pub record GoesOver (j : Joint) : Type 0 where
    pub loads : List (ℕ × ℕ)
    pub over : IsOver d loads j

  ended_by : (t : Turn) (e : ℕ) (old : Domain) (v : Violation) → EndsNone t.items →
      slice_get t.joint.domains e ≡ Some old → ends_in d (end_domain e old v t).items ≡ true →
      GoesOver (end_domain e old v t).joint
  unfolding end_domain
  ended_by t e old v none there ends =
      let shown = items_of (end_world e t.joint.memory) in
      let split : ends_in d (t.items ++ (shown ++ item.Ended e ∷ [])) ≡ (e == d) || false =
      list_any-append (is_end_of d) t.items (shown ++ item.Ended e ∷ [])
      ∙ ap (λ (b : Bool). b || ends_in d (shown ++ item.Ended e ∷ [])) (none d)
      ∙ list_any-append (is_end_of d) shown (item.Ended e ∷ [])
      ∙ ap (λ (b : Bool). b || ((e == d) || false))
      (unheard_ends shown (λ k. (end_leaves e t.joint.memory).items k) d) in
      let same : e ≡ d = eqb-true e d (or_false (e == d) (sym split ∙ ends)) in
      record {
        loads = old.loads;
        over = subst (λ (k : ℕ). IsOver d old.loads (end_domain k old v t).joint) (sym same)
            (ends_own t old v (ap (slice_get t.joint.domains) (sym same) ∙ there));
      }
    where
      or_false : (b : Bool) → (b || false) ≡ true → b ≡ true
      or_false true is = refl
      or_false false is = is

  once_ends : (ended : Bool) (e : ℕ) (old : Domain) (v : Violation) (t : Turn) → EndsNone t.items →
      slice_get t.joint.domains e ≡ Some old → ends_in d (ends_once ended e old v t).items ≡ true →
      GoesOver (ends_once ended e old v t).joint
  unfolding ends_once
  once_ends true e old v t none is ends = absurd (false≢true (sym (none d) ∙ ends))
  once_ends false e old v t none is ends = ended_by t e old v none is ends

  resumed_ends : (found : Option Domain) (e : ℕ) (v : Violation) (t : Turn) → EndsNone t.items →
      slice_get t.joint.domains e ≡ found → ends_in d (ends_resumed found e v t).items ≡ true →
      GoesOver (ends_resumed found e v t).joint
  unfolding ends_resumed
  resumed_ends None e v t none is ends = absurd (false≢true (sym (none d) ∙ ends))
  resumed_ends (Some old) e v t none is ends = once_ends old.control.ended e old v t none is ends

  asked_ends : (found : Option Domain) (e : ℕ) (v : Violation) (t : Turn) → EndsNone t.items →
      slice_get t.joint.domains e ≡ found → ends_in d (ends_asked found e v t).items ≡ true →
      GoesOver (ends_asked found e v t).joint
  unfolding ends_asked
  asked_ends None e v t none is ends = absurd (false≢true (sym (none d) ∙ ends))
  asked_ends (Some old) e v t none is ends = ended_by t e old v none is ends

  goes_over : (inside : Option ℕ) (o : Option Violation) (t : Turn) → EndsNone t.items →
      ends_in d (answers_violation inside o t).items ≡ true → GoesOver (answers_violation inside o t).joint
  unfolding answers_violation
  goes_over inside None t none ends = absurd (false≢true (sym (none d) ∙ ends))
  goes_over None (Some v) t none ends = resumed_ends _ (domain_met v) v t none refl ends
  goes_over (Some ctx) (Some v) t none ends = asked_ends _ (domain_of ctx) v t none refl ends

  -- a step in which it ends leaves it over
  pub step_goes_over : (m : Moment) → AreFrom 0 m.joint.domains → ends_in d (joint_step m).items ≡ true →
      GoesOver (joint_step m).joint
  unfolding joint_step
  step_goes_over m programs ends =
      let h = hart_in m.joint (next_hart m) in
      let t = turn_of m.joint (next_hart m) h h.inside in
      goes_over h.inside t.violation t (turn_told m.joint (next_hart m) h h.inside programs).ends ends
