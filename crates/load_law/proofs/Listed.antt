-- A violation that is listed stays listed to the end of a run.
use Rattle.std.proofs.Common.{◌≡◌, ◌∙◌, ◌⊎◌, inl, inr, ℕ, zero, suc, ◌<◌, ◌≤◌, true, false, List, length, take, take_all, slice_get, slice_index_or, Option, Some, None, Ok, refl, sym, ap, subst, arith}
use Rattle.std.specs.Prelude.{is_some}
use Rattle.std.proofs.lemmas.Bool.{false≢true, cases_lt}
use Rattle.std.proofs.lemmas.List.{get_or-set_other}
use Rattle.cloak_base.specs.declared.causes.Violation.{Violation}
use Rattle.cloak_model.specs.declared.image.Bundle.{Bundle}
use Rattle.cloak_model.specs.Beginning.{Beginning, opening_from}
use Rattle.cloak_model.specs.Bundle.{IsInGrammar}
use Rattle.cloak_model.specs.Joint.{Moment, Turn, next_hart, domain_met, answers_violation, step_before_end, joint_step}
use Rattle.cloak_model.specs.Opening.{RunEdge}
use Rattle.cloak_model.specs.Parts.{Joint}
use Rattle.cloak_model.specs.Run.{Run, run_from, turns_from, joint_after, closing, first_moment, run_of}
use Rattle.kernel_isolation.specs.Isolation.{joint_until}
use Rattle.kernel_isolation.proofs.Isolated.{of_opened}
use Rattle.domain_isolation.proofs.InOrder.{decided}
use Rattle.frozen_state.specs.Limits.{has_ended, TellsEnded}
use Rattle.limit_law.proofs.EndedRuns.{ended_are_told}
use Rattle.cause_law.specs.Causes.{moment_at, EndsBy, CountsRefused}
use Rattle.cause_law.specs.Presented.{hart_of_step}
use Rattle.cause_law.proofs.Ends.{turn_leaves, answers_met}
use Rattle.cause_law.proofs.Runs.{violation_has_cause, presented_is_refused}
use Rattle.load_law.specs.Outcomes.{ListedStay}
use Rattle.page_law.proofs.OwnDraws.{is_step}
use Rattle.latest_store.proofs.Histories.{has_step}
use Rattle.load_law.proofs.Runs.{steps_made}
use Rattle.cloak_model.proofs.Steps.{after_step}

abbrev Lists : Joint → ℕ → Violation → Type 0
Lists j d v = slice_index_or j.ended d None ≡ Some v

-- without a violation the list stays
calm_lists : (m : Moment) → (joint_step m).violation ≡ None → (joint_step m).joint.ended ≡ m.joint.ended
unfolding joint_step answers_violation
calm_lists m calm =
    let h = hart_of_step m in
    let t : Turn = step_before_end m in
    let none : t.violation ≡ None = sym (answers_met h.inside t.violation t) ∙ calm in
    subst (λ (o : Option Violation). (answers_violation h.inside o t).joint.ended ≡ m.joint.ended) (sym none)
    (turn_leaves m.joint (next_hart m) h h.inside).listed

-- a domain that ends was not listed
ends_other : (j j' : Joint) (d : ℕ) (v w : Violation) → TellsEnded j → EndsBy j j' w → Lists j d v → Lists j' d v
ends_other j j' d v w tells ends is =
    let i : ℕ = domain_met w in
    ap (λ (l : List (Option Violation)). slice_index_or l d None) ends.listed
    ∙ elim (decided d i) [
      | inl same ↦
          let over : true ≡ false =
          ap (λ (o : Option Violation). is_some o) (sym is)
          ∙ (tells.taken d
          ∙ (ap (λ (n : ℕ). has_ended (slice_get j.domains n)) same ∙ (ap has_ended ends.there ∙ ends.not_ended))) in
          absurd (false≢true (sym over))
      | inr other ↦ get_or-set_other j.ended i d (Some w) None other ∙ is
    ]

does_keep : (j j' : Joint) (d : ℕ) (v w : Violation) → TellsEnded j → EndsBy j j' w ⊎ CountsRefused j j' w →
    Lists j d v → Lists j' d v
does_keep j j' d v w tells (inl ends) is = ends_other j j' d v w tells ends is
does_keep j j' d v w tells (inr counts) is =
    ap (λ (l : List (Option Violation)). slice_index_or l d None) counts.listed ∙ is

module _ (b : Bundle) (from : Beginning) (budget : ℕ) (r : Run) (grammar : IsInGrammar b)
    (runs : run_from b from budget ≡ Ok r)
  where
    step_lists : (n d : ℕ) (v : Violation) → n < length r.turns → (o : Option Violation) →
        (joint_step (moment_at b r n)).violation ≡ o → Lists (moment_at b r n).joint d v →
        Lists (joint_step (moment_at b r n)).joint d v
    step_lists n d v low None met is =
        ap (λ (l : List (Option Violation)). slice_index_or l d None) (calm_lists (moment_at b r n) met) ∙ is
    step_lists n d v low (Some w) met is =
        let cause = violation_has_cause b from budget r runs n low w met in
        let refused = presented_is_refused b from budget r runs n low w cause.presents in
        does_keep (moment_at b r n).joint (joint_step (moment_at b r n)).joint d v w
        (ended_are_told b from budget r grammar runs n) refused.does is

    next_lists : (n d : ℕ) (v : Violation) (t : Turn) → slice_get r.turns n ≡ Some t → n < length r.turns →
        Lists (joint_until n r) d v → Lists (joint_until (suc n) r) d v
    next_lists n d v t there low is =
        let made = steps_made b from budget r runs n t there in
        subst (λ (j : Joint). Lists j d v)
        (ap (λ (x : Turn). x.joint) made.step ∙ sym (after_step r.opened.joint r.turns n t there))
        (step_lists n d v low _ refl is)

    until_lists : (n to d : ℕ) (v : Violation) → n ≤ to → to ≤ length r.turns → Lists (joint_until n r) d v →
        Lists (joint_until to r) d v
    until_lists n zero d v past low is =
        let same : n ≡ 0 = omega (arith, past) in subst (λ (k : ℕ). Lists (joint_until k r) d v) same is
    until_lists n (suc to) d v past low is = elim (cases_lt to n) [
      | inl over ↦
          let same : n ≡ suc to = omega (arith, past, over) in
          subst (λ (k : ℕ). Lists (joint_until k r) d v) same is
      | inr before ↦
          let step = has_step r.turns to (omega (arith, low)) in
          next_lists to d v step.turn step.is (omega (arith, low)) (until_lists n to d v before (omega (arith, low)) is)
    ]

-- The closing leaves the list.

abbrev ClosesSo : Run → Type 0
ClosesSo r = r.closed.joint.ended ≡ (joint_until (length r.turns) r).ended

opened_closes : (b : Bundle) (budget : ℕ) (o : RunEdge) → ClosesSo (run_of b budget o)
unfolding run_of closing
opened_closes b budget o =
    let turns : List Turn = turns_from budget (first_moment b o.joint) in
    let all : take (length turns) turns ≡ turns = take_all (length turns) turns (omega arith) in
    ap (λ (l : List Turn). (joint_after o.joint l).ended) (sym all)

pub listed_stay : ListedStay
listed_stay b from budget r grammar runs n t there d v is =
    let low = is_step r.turns n t there in
    let here : Lists (joint_until (suc n) r) d v =
    subst (λ (j : Joint). Lists j d v) (sym (after_step r.opened.joint r.turns n t there)) is in
    let closes : ClosesSo r =
    of_opened b budget ClosesSo (opening_from b from) r runs (λ o opens. opened_closes b budget o) in
    ap (λ (l : List (Option Violation)). slice_index_or l d None) closes
    ∙ until_lists b from budget r grammar runs (suc n) (length r.turns) d v (omega (arith, low)) (omega arith) here
