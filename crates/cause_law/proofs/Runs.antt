-- The steps of a run, and what each of them ends.
use Rattle.std.proofs.Common.{◌≡◌, ◌≢◌, ◌∙◌, ◌<◌, ◌≤◌, ◌⊎◌, ◌+◌, ℕ, zero, suc, Bool, true, false, cond, List, [], ◌∷◌, length, take, Option, Some, None, Ok, is_some, refl, sym, ap, subst, arith, inl, inr, take_all}
use Rattle.std.specs.Prelude.{is_none, replicate, slice_index_or, slice_get, slice_set}
use Rattle.std.proofs.lemmas.Bool.{false≢true, ne_eqb}
use Rattle.cloak_base.specs.declared.causes.Stop.{Stop}
use Rattle.cloak_base.specs.declared.causes.Violation.{Violation}
use Rattle.cloak_base.specs.declared.causes.Violation.TheVariants as violation
use Rattle.cloak_base.specs.declared.names.HartId.{HartId}
use Rattle.cloak_base.specs.declared.names.PageId.{PageId}
use Rattle.cloak_model.specs.declared.image.Bundle.{Bundle}
use Rattle.cloak_model.specs.Beginning.{Beginning, opening_from}
use Rattle.cloak_model.specs.Contexts.{Context, is_root, domain_of, slot_of}
use Rattle.cloak_model.specs.DomainState.{Domain}
use Rattle.cloak_model.specs.Joint.{Moment, Turn, next_hart, domain_met, answers_violation, step_before_end, joint_step, after_turn, stop_of}
use Rattle.cloak_model.specs.Opening.{RunEdge}
use Rattle.cloak_model.specs.Parts.{Joint}
use Rattle.cloak_model.specs.Run.{Run, run_from, unless_stopped, turns_from, joint_after, closing, first_moment, run_of}
use Rattle.kernel_isolation.proofs.Isolated.{of_opened}
use Rattle.kernel_isolation.proofs.Numbers.{number_at}
use Rattle.kernel_isolation.proofs.Opened.{is_opened}
use Rattle.kernel_isolation.proofs.Turns.{IsSteady, turn_is_alone}
use Rattle.cause_law.specs.Causes.{moment_at, StepPresents, ViolationHasCause, PresentsContext, PresentsMapping, Presents, EndsOrRefuses, PresentedIsRefused, EndsBy, EndIsPresented, EndHasCause, CountIsPresented, CountHasCause, ListedHaveEnded, presented_root, can_run, context_running, StoppedEnds}
use Rattle.cause_law.specs.Presented.{hart_of_step, PresentsPage}
use Rattle.cause_law.proofs.Ends.{LeavesList, turn_leaves, IsSound, answers_sound, answers_met, Does, IsSame, outside_does, inside_does}
use Rattle.cause_law.proofs.Kept.{IsKept}
use Rattle.cause_law.proofs.Opened.{opened_start, opened_sound}
use Rattle.cause_law.proofs.Over.{AreListed, moved_empty, moved_listed, turn_moves, has_not_ended}
use Rattle.cause_law.proofs.Presented.{IsStopped, page_violates}
use Rattle.cause_law.proofs.Resumed.{space_id, refusal}
use Rattle.cause_law.proofs.Steps.{Cause, turn_presents, own_at, resumed_so}
use Rattle.cause_law.proofs.Stopped.{told_ends}
use Rattle.std.proofs.lemmas.Option.{same_Some}

-- What is presented is refused.

refused_context : (j : Joint) (satp ctx : ℕ) (o : Option Context) → can_run o ≡ false →
    refusal j satp ctx o ≡ Some (violation.Context ctx)
refused_context j satp ctx None cannot = refl
refused_context j satp ctx (Some c) cannot = by c.on cannot
  where
    by : (on : Option HartId) → is_none on ≡ false →
        cond (is_some on) (Some (violation.Context ctx))
        (cond (is_root satp (j.memory.ledger.root (space_id ctx c))) None (Some (violation.Mapping ctx satp)))
        ≡ Some (violation.Context ctx)
    by (Some h) is = refl
    by None is = absurd (false≢true (sym is))

stopped_so : (m : Moment) (v : Violation) → (step_before_end m).violation ≡ Some v →
    (is_some (step_before_end m).violation ≡ true → (step_before_end m).joint.domains ≡ m.joint.domains) → IsStopped m v
stopped_so m v is domains = record { violates = is; domains = domains (ap (λ (o : Option Violation). is_some o) is) }

context_violates : (m : Moment) (ctx : ℕ) → IsKept m.joint.memory → PresentsContext m ctx →
    IsStopped m (violation.Context ctx)
context_violates m ctx kept presents =
    let a = presents.asks in
    let resumed = resumed_so m ctx a.answer a.outside a.asks kept in
    stopped_so m (violation.Context ctx)
    (resumed.violates ∙ refused_context m.joint (presented_root m) ctx (context_running m.joint ctx) presents.cannot)
    resumed.domains

refused_mapping : (j : Joint) (satp ctx first : ℕ) (c : Context) → c.on ≡ None →
    j.memory.ledger.root (space_id ctx c) ≡ Some first → first ≢ satp →
    refusal j satp ctx (Some c) ≡ Some (violation.Mapping ctx satp)
refused_mapping j satp ctx first c rests recorded other =
    ap (λ (on : Option HartId). cond (is_some on) (Some (violation.Context ctx))
    (cond (is_root satp (j.memory.ledger.root (space_id ctx c))) None (Some (violation.Mapping ctx satp)))) rests
    ∙ (ap (λ (o : Option ℕ). cond (is_root satp o) None (Some (violation.Mapping ctx satp))) recorded
    ∙ ap (λ (b : Bool). cond b None (Some (violation.Mapping ctx satp))) (ne_eqb first satp other))

mapping_violates : (m : Moment) (ctx root : ℕ) → IsKept m.joint.memory → PresentsMapping m ctx root →
    IsStopped m (violation.Mapping ctx root)
mapping_violates m ctx root kept presents =
    let a = presents.asks in
    let resumed = resumed_so m ctx a.answer a.outside a.asks kept in
    stopped_so m (violation.Mapping ctx root)
    (resumed.violates
    ∙ (ap (refusal m.joint (presented_root m) ctx) presents.there
    ∙ (refused_mapping m.joint (presented_root m) ctx presents.first presents.context presents.rests
    presents.recorded (λ same. presents.other (same ∙ sym presents.presented))
    ∙ ap (λ (x : ℕ). Some (violation.Mapping ctx x)) (sym presents.presented))))
    resumed.domains

-- before its end, the step has the violation that was presented, and leaves each program's contexts and resources
presented_violates : (m : Moment) (v : Violation) → IsKept m.joint.memory → Presents m v → IsStopped m v
presented_violates m (violation.Page q frame) kept presents = page_violates m q frame.0 presents
presented_violates m (violation.Context ctx) kept presents = context_violates m ctx kept presents
presented_violates m (violation.Mapping ctx root) kept presents = mapping_violates m ctx root kept presents

stopped_same : (m : Moment) (v : Violation) → IsStopped m v → IsSame m.joint (step_before_end m).joint
stopped_same m v stopped =
    let leaves = turn_leaves m.joint (next_hart m) (hart_of_step m) (hart_of_step m).inside in
    record { domains = stopped.domains; listed = leaves.listed; refused = leaves.refused }

-- the end follows, at a resuming and at a question
resumed_ends : (m : Moment) (v : Violation) → (hart_of_step m).inside ≡ None → IsSound m.joint → IsStopped m v →
    Does m.joint (joint_step m).joint v
unfolding joint_step
resumed_ends m v outside sound stopped =
    let t = step_before_end m in
    subst (λ (o : Option Violation). Does m.joint (answers_violation (hart_of_step m).inside o t).joint v)
    (sym stopped.violates)
    (subst (λ (o : Option ℕ). Does m.joint (answers_violation o (Some v) t).joint v) (sym outside)
    (outside_does m.joint t v (stopped_same m v stopped) sound.places))

asked_ends : (m : Moment) (q : PageId) (f : ℕ) → PresentsPage m q f → IsSteady m.joint → IsSound m.joint →
    let v = violation.Page q (record { 0 = f }) in
    IsStopped m v → Does m.joint (joint_step m).joint v
unfolding joint_step
asked_ends m q f p steady sound stopped =
    let t = step_before_end m in
    let v = violation.Page q (record { 0 = f }) in
    let s = p.step in
    let e = domain_of s.ctx in
    let owner = number_at e m.joint.domains s.domain steady.programs s.program in
    subst (λ (o : Option Violation). Does m.joint (answers_violation (hart_of_step m).inside o t).joint v)
    (sym stopped.violates)
    (subst (λ (o : Option ℕ). Does m.joint (answers_violation o (Some v) t).joint v) (sym s.runs)
    (inside_does m.joint t s.ctx s.domain v (stopped_same m v stopped) sound.places
    (own_at s.domain s.context p.va q p.lies ∙ owner) s.program
    (has_not_ended s.domain.control (slot_of s.ctx) s.context (sound.empty e s.domain s.program) s.there)))

presented_ends : (m : Moment) (v : Violation) → IsSteady m.joint → IsSound m.joint → Presents m v → IsStopped m v →
    Does m.joint (joint_step m).joint v
presented_ends m (violation.Page q frame) steady sound presents stopped =
    asked_ends m q frame.0 presents steady sound stopped
presented_ends m (violation.Context ctx) steady sound presents stopped =
    resumed_ends m (violation.Context ctx) presents.asks.outside sound stopped
presented_ends m (violation.Mapping ctx root) steady sound presents stopped =
    resumed_ends m (violation.Mapping ctx root) presents.asks.outside sound stopped

step_met : (m : Moment) → (joint_step m).violation ≡ (step_before_end m).violation
unfolding joint_step
step_met m = answers_met (hart_of_step m).inside (step_before_end m).violation (step_before_end m)

presented_refused : (m : Moment) (v : Violation) → IsSteady m.joint → IsSound m.joint → Presents m v → EndsOrRefuses m v
presented_refused m v steady sound presents =
    let stopped = presented_violates m v sound.kept presents in
    record { met = step_met m ∙ stopped.violates; does = presented_ends m v steady sound presents stopped }

-- Every step.

step_sound : (m : Moment) → IsSteady m.joint → IsSound m.joint → IsSound (joint_step m).joint
unfolding joint_step
step_sound m steady sound =
    let t = step_before_end m in
    let h = hart_of_step m in
    let moves = turn_moves m.joint (next_hart m) h h.inside in
    let leaves = turn_leaves m.joint (next_hart m) h h.inside in
    answers_sound h.inside t.violation t (record {
      places = ap (λ (l : List (Option Violation)). length l) leaves.listed ∙ sound.places;
      listed = subst (AreListed t.joint.domains) (sym leaves.listed)
          (moved_listed m.joint.domains t.joint.domains m.joint.ended moves sound.listed);
      kept = (turn_presents m steady sound.kept).kept;
      empty = moved_empty m.joint.domains t.joint.domains moves sound.empty;
    })

-- without a violation the list and the count stay
calm_step : (m : Moment) → (step_before_end m).violation ≡ None → LeavesList m.joint (joint_step m).joint
unfolding joint_step answers_violation
calm_step m none =
    let h = hart_of_step m in
    subst (λ (o : Option Violation). LeavesList m.joint (answers_violation h.inside o (step_before_end m)).joint)
    (sym none) (turn_leaves m.joint (next_hart m) h h.inside)

-- A step leaves list and count, or presents a violation and refuses it.
record Refuses (m : Moment) (v : Violation) : Type 0 where
  pub cause : Cause m v
  pub does : Does m.joint (joint_step m).joint v

abbrev StepDoes : Moment → Type 0
StepDoes m = LeavesList m.joint (joint_step m).joint ⊎ ((v : Violation) × Refuses m v)

step_does : (m : Moment) → IsSteady m.joint → IsSound m.joint → StepDoes m
step_does m steady sound = by (step_before_end m).violation refl
  where
    by : (o : Option Violation) → (step_before_end m).violation ≡ o → StepDoes m
    by None none = inl (calm_step m none)
    by (Some v) met =
        let cause = (turn_presents m steady sound.kept).presents v met in
        inr (
          v,
          record {
            cause = cause;
            does = (presented_refused m v steady sound cause.presents).does;
          },
        )

-- The steps of a run.

-- the moment after n of these steps
abbrev moment_from : Moment → ℕ → List Turn → Moment
moment_from m n [] = m
moment_from m zero (t ∷ turns) = m
moment_from m (suc n) (t ∷ turns) = moment_from (after_turn m t) n turns

start_from : (m : Moment) (turns : List Turn) → moment_from m 0 turns ≡ m
start_from m [] = refl
start_from m (t ∷ turns) = refl

-- What is known of a moment before the last, and of the next one.
record Reaches (m : Moment) (turns : List Turn) (n : ℕ) : Type 0 where
  pub steady : IsSteady (moment_from m n turns).joint
  pub sound : IsSound (moment_from m n turns).joint
  pub next : (moment_from m (suc n) turns).joint ≡ (joint_step (moment_from m n turns)).joint

rest_reach : (o : Option Stop) (budget n : ℕ) (m : Moment) → IsSteady m.joint → IsSound m.joint →
    let t = joint_step m in
    let rest = unless_stopped o (turns_from budget) (after_turn m t) in
    n < length (t ∷ rest) →
    ((k : ℕ) → k < length (turns_from budget (after_turn m t)) →
    Reaches (after_turn m t) (turns_from budget (after_turn m t)) k) →
    Reaches m (t ∷ rest) n
rest_reach o budget zero m steady sound low more =
    let t = joint_step m in
    record {
      steady = steady;
      sound = sound;
      next = ap (λ (x : Moment). x.joint)
          (start_from (after_turn m t) (unless_stopped o (turns_from budget) (after_turn m t)));
    }
rest_reach (Some cause) budget (suc n) m steady sound low more = absurd (omega (arith, low))
rest_reach None budget (suc n) m steady sound low more =
    let r = more n (omega (arith, low)) in record { steady = r.steady; sound = r.sound; next = r.next }

steps_reach : (budget n : ℕ) (m : Moment) → IsSteady m.joint → IsSound m.joint →
    n < length (turns_from budget m) → Reaches m (turns_from budget m) n
unfolding turns_from
steps_reach zero n m steady sound low = absurd (omega (arith, low))
steps_reach (suc budget) n m steady sound low =
    let t : Turn = joint_step m in
    rest_reach (stop_of t) budget n m steady sound low
    (λ k there.
    steps_reach budget k (after_turn m t) (turn_is_alone m steady).steady (step_sound m steady sound) there)

-- the moment is that of the run
same_moment : (n : ℕ) (schedule : List ℕ) (steps : ℕ) (j : Joint) (turns : List Turn) → n ≤ length turns →
    moment_from (record { schedule = schedule; steps = steps; joint = j }) n turns
    ≡ record { schedule = schedule; steps = steps + n; joint = joint_after j (take n turns) }
unfolding joint_after
same_moment zero schedule steps j [] le =
    ap (λ (k : ℕ). let m : Moment = record { schedule = schedule; steps = k; joint = j } in m) (omega arith)
same_moment zero schedule steps j (t ∷ turns) le =
    ap (λ (k : ℕ). let m : Moment = record { schedule = schedule; steps = k; joint = j } in m) (omega arith)
same_moment (suc n) schedule steps j [] le = absurd (omega (arith, le))
same_moment (suc n) schedule steps j (t ∷ turns) le =
    same_moment n schedule (steps + 1) t.joint turns (omega (arith, le))
    ∙ ap (λ (k : ℕ). let m : Moment =
    record { schedule = schedule; steps = k; joint = joint_after t.joint (take n turns) } in m) (omega arith)

-- A run.

pub record RunReaches (b : Bundle) (r : Run) (n : ℕ) : Type 0 where
  pub steady : IsSteady (moment_at b r n).joint
  pub sound : IsSound (moment_at b r n).joint
  pub next : (moment_at b r (suc n)).joint ≡ (joint_step (moment_at b r n)).joint

-- what every run has
pub record RunSo (b : Bundle) (r : Run) : Type 0 where
  pub reaches : (n : ℕ) → n < length r.turns → RunReaches b r n
  pub sound : IsSound r.opened.joint
  pub listed : r.opened.joint.ended ≡ replicate 4 None
  pub counted : r.opened.joint.refused ≡ 0
  pub closed : IsSame (moment_at b r (length r.turns)).joint r.closed.joint

opened_so : (b : Bundle) (from : Beginning) (budget : ℕ) (o : RunEdge) → opening_from b from ≡ Ok o →
    RunSo b (run_of b budget o)
unfolding run_of closing
opened_so b from budget o opens =
    let m : Moment = first_moment b o.joint in
    let turns : List Turn = turns_from budget m in
    let start = opened_start b from o opens in
    let all : take (length turns) turns ≡ turns = take_all (length turns) turns (omega arith) in
    let at : (n : ℕ) → n ≤ length turns →
    moment_from m n turns
    ≡ record { schedule = b.kernel.schedule; steps = n; joint = joint_after o.joint (take n turns) } =
    λ n le. same_moment n b.kernel.schedule 0 o.joint turns le
    ∙ ap (λ (k : ℕ). let x : Moment =
    record { schedule = b.kernel.schedule; steps = k; joint = joint_after o.joint (take n turns) } in x)
    (omega arith) in
    record {
      reaches = λ n low.
          let r = steps_reach budget n m (is_opened b from o opens).steady (opened_sound b from o opens) low in
          let here = at n (omega (arith, low)) in
          record {
            steady = subst (λ (x : Moment). IsSteady x.joint) here r.steady;
            sound = subst (λ (x : Moment). IsSound x.joint) here r.sound;
            next = ap (λ (x : Moment). x.joint) (sym (at (suc n) (omega (arith, low))))
                ∙ (r.next ∙ ap (λ (x : Moment). (joint_step x).joint) here);
          };
      sound = opened_sound b from o opens;
      listed = start.0;
      counted = start.1;
      closed = record {
        domains = ap (λ (l : List Turn). (joint_after o.joint l).domains) (sym all);
        listed = ap (λ (l : List Turn). (joint_after o.joint l).ended) (sym all);
        refused = ap (λ (l : List Turn). (joint_after o.joint l).refused) (sym all);
      };
    }

pub run_so : (b : Bundle) (from : Beginning) (budget : ℕ) (r : Run) → run_from b from budget ≡ Ok r → RunSo b r
run_so b from budget r is = of_opened b budget (RunSo b) (opening_from b from) r is (opened_so b from budget)

sound_at : (b : Bundle) (r : Run) → RunSo b r → (n : ℕ) → n ≤ length r.turns → IsSound (moment_at b r n).joint
unfolding joint_after
sound_at b r so zero le = so.sound
sound_at b r so (suc n) le =
    let at = so.reaches n (omega (arith, le)) in
    subst IsSound (sym at.next) (step_sound (moment_at b r n) at.steady at.sound)

-- The laws of each step.

presents_at : (b : Bundle) (r : Run) (n : ℕ) (v : Violation) → n < length r.turns → Cause (moment_at b r n) v →
    StepPresents b r n v
presents_at b r n v low cause = record { within = low; presents = cause.presents; left = cause.left }

pub violation_has_cause : ViolationHasCause
violation_has_cause b from budget r is n low v met =
    let at = (run_so b from budget r is).reaches n low in
    presents_at b r n v low
    ((turn_presents (moment_at b r n) at.steady at.sound.kept).presents v (sym (step_met (moment_at b r n)) ∙ met))

pub presented_is_refused : PresentedIsRefused
presented_is_refused b from budget r is n low v presents =
    let at = (run_so b from budget r is).reaches n low in
    presented_refused (moment_at b r n) v at.steady at.sound presents

pub stopped_ends : StoppedEnds
stopped_ends b from budget r is n low d before after told =
    told_ends (moment_at b r n) d before after ((run_so b from budget r is).reaches n low).steady told

-- What is listed and counted as a run is closed.

-- what is listed after a step was listed before it, or the step lists it
record ListsIt (b : Bundle) (r : Run) (n d : ℕ) (v : Violation) : Type 0 where
  pub own : domain_met v ≡ d
  pub presents : StepPresents b r n v
  pub ends : EndsBy (moment_at b r n).joint (joint_step (moment_at b r n)).joint v

abbrev WasListed : Joint → ℕ → Violation → Type 0
WasListed j d v = slice_get j.ended d ≡ Some (Some v)

in_list : {A : Type 0} (xs : List A) (i k : ℕ) (x y : A) → slice_get (slice_set xs i x) k ≡ Some y →
    ((k ≡ i) × (y ≡ x)) ⊎ (slice_get xs k ≡ Some y)
in_list [] i k x y is = absurd cc
in_list (z ∷ xs) zero zero x y is = inl (refl, cc)
in_list (z ∷ xs) zero (suc k) x y is = inr is
in_list (z ∷ xs) (suc i) zero x y is = inr is
in_list (z ∷ xs) (suc i) (suc k) x y is = elim (in_list xs i k x y is) [
  | inl here ↦ inl (ap suc here.0, here.1)
  | inr there ↦ inr there
]

left_list : (j j' : Joint) (d : ℕ) (v : Violation) → j'.ended ≡ j.ended →
    WasListed j' d v → WasListed j d v
left_list j j' d v same is = ap (λ (l : List (Option Violation)). slice_get l d) (sym same) ∙ is

does_list : (b : Bundle) (r : Run) (n d : ℕ) (v w : Violation) → n < length r.turns → Cause (moment_at b r n) w →
    let j = (moment_at b r n).joint in
    let j' = (joint_step (moment_at b r n)).joint in
    Does j j' w → WasListed j' d v → WasListed j d v ⊎ ListsIt b r n d v
does_list b r n d v w low cause (inr counts) is =
    inl (left_list (moment_at b r n).joint (joint_step (moment_at b r n)).joint d v counts.listed is)
does_list b r n d v w low cause (inl ends) is =
    let j = (moment_at b r n).joint in
    elim (in_list j.ended (domain_met w) d (Some w) (Some v)
    (ap (λ (l : List (Option Violation)). slice_get l d) (sym ends.listed) ∙ is)) [
      | inl here ↦
          let same : v ≡ w = same_Some v w here.1 in
          inr (subst (ListsIt b r n d) (sym same)
          (record { own = sym here.0; presents = presents_at b r n w low cause; ends = ends }))
      | inr there ↦ inl there
    ]

step_lists : (b : Bundle) (r : Run) (n d : ℕ) (v : Violation) → n < length r.turns → StepDoes (moment_at b r n) →
    WasListed (joint_step (moment_at b r n)).joint d v → WasListed (moment_at b r n).joint d v ⊎ ListsIt b r n d v
step_lists b r n d v low (inl leaves) is =
    inl (left_list (moment_at b r n).joint (joint_step (moment_at b r n)).joint d v leaves.listed is)
step_lists b r n d v low (inr refuses) is = does_list b r n d v refuses.0 low refuses.1.cause refuses.1.does is

none_listed : (count d : ℕ) (v : Violation) → slice_get (replicate count None) d ≢ Some (Some v)
none_listed zero d v is = absurd cc
none_listed (suc count) zero v is = absurd cc
none_listed (suc count) (suc d) v is = none_listed count d v is

listed_by : (b : Bundle) (r : Run) → RunSo b r → (n d : ℕ) (v : Violation) → n ≤ length r.turns →
    WasListed (moment_at b r n).joint d v → EndIsPresented b r d v
unfolding joint_after
listed_by b r so zero d v le is =
    absurd (none_listed 4 d v (ap (λ (l : List (Option Violation)). slice_get l d) (sym so.listed) ∙ is))
listed_by b r so (suc n) d v le is =
    let low : n < length r.turns = omega (arith, le) in
    let at = so.reaches n low in
    elim (step_lists b r n d v low (step_does (moment_at b r n) at.steady at.sound)
    (ap (λ (j : Joint). slice_get j.ended d) (sym at.next) ∙ is)) [
      | inl before ↦ listed_by b r so n d v (omega (arith, low)) before
      | inr here ↦ record { before = n; own = here.own; presents = here.presents; ends = here.ends }
    ]

pub end_has_cause : EndHasCause
end_has_cause b from budget r is d v listed =
    let so = run_so b from budget r is in
    listed_by b r so (length r.turns) d v (omega arith)
    (ap (λ (l : List (Option Violation)). slice_get l d) (sym so.closed.listed) ∙ listed)

does_count : (b : Bundle) (r : Run) (n : ℕ) (w : Violation) → n < length r.turns → Cause (moment_at b r n) w →
    let j = (moment_at b r n).joint in
    let j' = (joint_step (moment_at b r n)).joint in
    Does j j' w → 0 < j'.refused → (0 < j.refused) ⊎ CountIsPresented b r
does_count b r n w low cause (inl ends) some = inl (subst (λ (k : ℕ). 0 < k) ends.refused some)
does_count b r n w low cause (inr counts) some =
    inr (record { before = n; violates = w; presents = presents_at b r n w low cause; counts = counts })

step_counts : (b : Bundle) (r : Run) (n : ℕ) → n < length r.turns → StepDoes (moment_at b r n) →
    0 < (joint_step (moment_at b r n)).joint.refused →
    (0 < (moment_at b r n).joint.refused) ⊎ CountIsPresented b r
step_counts b r n low (inl leaves) some = inl (subst (λ (k : ℕ). 0 < k) leaves.refused some)
step_counts b r n low (inr refuses) some = does_count b r n refuses.0 low refuses.1.cause refuses.1.does some

counted_by : (b : Bundle) (r : Run) → RunSo b r → (n : ℕ) → n ≤ length r.turns →
    0 < (moment_at b r n).joint.refused → CountIsPresented b r
unfolding joint_after
counted_by b r so zero le some =
    let none = so.counted in absurd (omega (arith, some, none))
counted_by b r so (suc n) le some =
    let low : n < length r.turns = omega (arith, le) in
    let at = so.reaches n low in
    elim (step_counts b r n low (step_does (moment_at b r n) at.steady at.sound)
    (subst (λ (j : Joint). 0 < j.refused) at.next some)) [
      | inl before ↦ counted_by b r so n (omega (arith, low)) before
      | inr here ↦ here
    ]

pub count_has_cause : CountHasCause
count_has_cause b from budget r is some =
    let so = run_so b from budget r is in
    counted_by b r so (length r.turns) (omega arith) (subst (λ (k : ℕ). 0 < k) so.closed.refused some)

pub listed_have_ended : ListedHaveEnded
listed_have_ended b from budget r is d domain low there =
    let so = run_so b from budget r is in
    (sound_at b r so (length r.turns) (omega arith)).listed d domain low
    (ap (λ (l : List Domain). slice_get l d) (sym so.closed.domains) ∙ there)
    ∙ ap (λ (l : List (Option Violation)). is_some (slice_index_or l d None)) (sym so.closed.listed)
