-- The steps of a run.
use Rattle.std.proofs.Common.{◌≡◌, ◌∙◌, ℕ, zero, suc, ◌<◌, Bool, true, false, cond, List, ◌∷◌, length, filter, take, slice_get, slice_index_or, Option, Some, None, Ok, refl, sym, ap, subst, arith}
use Rattle.std.specs.Prelude.{is_some, unwrap_or}
use Rattle.std.proofs.lemmas.Bool.{false≢true, false_from_ne_true}
use Rattle.cloak_base.specs.declared.causes.Stop.{Stop}
use Rattle.cloak_base.specs.declared.causes.Stop.TheVariants as stop
use Rattle.cloak_model.specs.declared.image.Bundle.{Bundle}
use Rattle.cloak_model.specs.Beginning.{Beginning, opening_from}
use Rattle.cloak_model.specs.Contexts.{Context, context_at, domain_of, slot_of}
use Rattle.cloak_model.specs.DomainState.{Domain}
use Rattle.cloak_model.specs.Halves.{inward_half}
use Rattle.cloak_model.specs.Joint.{Moment, Turn, joint_step, after_turn, stop_of}
use Rattle.cloak_model.specs.Opening.{RunEdge}
use Rattle.cloak_model.specs.Parts.{Joint}
use Rattle.cloak_model.specs.Run.{Run, run_from, unless_stopped, turns_from, joint_after, last_stop, first_moment, run_of}
use Rattle.kernel_isolation.specs.Isolation.{joint_until}
use Rattle.kernel_isolation.proofs.Isolated.{of_opened, until_read}
use Rattle.kernel_isolation.proofs.Numbers.{number_at}
use Rattle.kernel_isolation.proofs.Turns.{IsSteady}
use Rattle.frozen_state.specs.Limits.{has_ended, TellsEnded}
use Rattle.limit_law.proofs.EndedRuns.{ended_are_gone, ended_are_told}
use Rattle.limit_law.proofs.Drawn.{stop_tells, JointDrawn, opened_drawn}
use Rattle.page_law.specs.OwnPages.{context_of_step}
use Rattle.page_law.proofs.OwnDraws.{is_step}
use Rattle.page_law.proofs.OwnPages.{moment_behind, step_is}
use Rattle.latest_store.specs.Moves.{Move}
use Rattle.latest_store.specs.Deeds.{program_moves, step_moves}
use Rattle.latest_store.specs.LatestStore.{history_until}
use Rattle.latest_store.proofs.Histories.{runs_give_latest}
use Rattle.cause_law.specs.Causes.{moment_at, context_running}
use Rattle.load_law.specs.Outcomes.{is_load, left_in, moves_in, LoadEnds, DueLoadsEnd, MissesAreLast, MissingDrawsStop, OnlyDueLoads}
use Rattle.load_law.proofs.Moves.{load_if, step_loads}
use Rattle.load_law.proofs.Turns.{EndsSo, moment_ends}
use Rattle.load_law.proofs.Were.{Makes, program_makes}
use Rattle.cloak_model.proofs.Steps.{after_step}

-- A step of a run is that of its moment.

pub record IsMade (b : Bundle) (r : Run) (n : ℕ) (t : Turn) : Type 0 where
  pub step : joint_step (moment_at b r n) ≡ t
  pub steady : IsSteady (moment_at b r n).joint

abbrev pub StepsMade : Bundle → Run → Type 0
StepsMade b r = (n : ℕ) (t : Turn) → slice_get r.turns n ≡ Some t → IsMade b r n t

opened_made : (b : Bundle) (from : Beginning) (budget : ℕ) (o : RunEdge) → opening_from b from ≡ Ok o →
    StepsMade b (run_of b budget o)
unfolding run_of
opened_made b from budget o opens n t is =
    let turns : List Turn = turns_from budget (first_moment b o.joint) in
    let low = is_step turns n t is in
    let m : Moment = moment_behind (first_moment b o.joint) n turns in
    let number : m.steps ≡ n = omega arith in
    record {
      step = ap (λ (k : ℕ). let x : Moment = record {
        schedule = b.kernel.schedule;
        steps = k;
        joint = joint_after o.joint (take n turns);
      } in joint_step x) (sym number) ∙ step_is budget n (first_moment b o.joint) t is;
      steady = (until_read b from budget o opens n (omega (arith, low))).steady;
    }

pub steps_made : (b : Bundle) (from : Beginning) (budget : ℕ) (r : Run) → run_from b from budget ≡ Ok r → StepsMade b r
steps_made b from budget r is =
    of_opened b budget (StepsMade b) (opening_from b from) r is (λ o opens. opened_made b from budget o opens)

-- No draw is missing as a step begins: the opening misses none, and a step that misses one stops the run.

rest_drawn : (o : Option Stop) (later : Moment → List Turn) (m : Moment) (j : Joint) (n : ℕ) →
    n < length (unless_stopped o later m) →
    (n < length (later m) → o ≡ None → JointDrawn (joint_after j (take n (later m)))) →
    JointDrawn (joint_after j (take n (unless_stopped o later m)))
rest_drawn None later m j n low more = more low refl
rest_drawn (Some cause) later m j n low more = absurd (omega (arith, low))

turns_drawn : (budget n : ℕ) (m : Moment) → JointDrawn m.joint → n < length (turns_from budget m) →
    JointDrawn (joint_after m.joint (take n (turns_from budget m)))
unfolding turns_from joint_after
turns_drawn zero n m drawn low = absurd (omega (arith, low))
turns_drawn (suc budget) zero m drawn low = drawn
turns_drawn (suc budget) (suc n) m drawn low =
    let t : Turn = joint_step m in
    rest_drawn (stop_of t) (turns_from budget) (after_turn m t) t.joint n (omega (arith, low))
    (λ there goes. turns_drawn budget n (after_turn m t) (stop_tells t.joint.memory.ledger.missed t.halt goes) there)

abbrev StepsDrawn : Run → Type 0
StepsDrawn r = (n : ℕ) → n < length r.turns → JointDrawn (joint_until n r)

steps_drawn : (b : Bundle) (from : Beginning) (budget : ℕ) (o : RunEdge) → opening_from b from ≡ Ok o →
    StepsDrawn (run_of b budget o)
unfolding run_of
steps_drawn b from budget o opens n low =
    turns_drawn budget n (first_moment b o.joint) (opened_drawn b from o opens) low

-- A program that has a context is not listed.

not_some : {A : Type 0} (o : Option A) → is_some o ≡ false → o ≡ None
not_some None is = refl
not_some (Some x) is = absurd (false≢true (sym is))

none_there : (o : Option Context) (c : Context) → o ≡ None → o ≡ Some c → ⊥
none_there None c none some = absurd cc
none_there (Some x) c none some = absurd cc

-- The laws.

pub due_loads_end : DueLoadsEnd
due_loads_end b from budget r grammar begins runs n t is s due wants =
    let m : Moment = moment_at b r n in
    let d : ℕ = domain_of s.ctx in
    let made = steps_made b from budget r runs n t is in
    let low = is_step r.turns n t is in
    let history : List Move = history_until b from n r in
    let gives = runs_give_latest b from budget r grammar begins runs in
    let lives : s.domain.control.ended ≡ false =
    false_from_ne_true s.domain.control.ended (λ over.
    let gone = ended_are_gone b from budget r grammar runs n d s.domain s.program over in
    none_there (context_at s.domain.control.contexts (slot_of s.ctx)) s.context
    (gone.nothing.contexts (slot_of s.ctx)) s.there) in
    let listed : slice_index_or m.joint.ended d None ≡ None =
    not_some (slice_index_or m.joint.ended d None)
    ((ended_are_told b from budget r grammar runs n).taken d ∙ (ap has_ended s.program ∙ lives)) in
    let drawn : JointDrawn m.joint =
    of_opened b budget StepsDrawn (opening_from b from) r runs (λ o opens. steps_drawn b from budget o opens) n low in
    let after : joint_until (suc n) r ≡ (joint_step m).joint =
    after_step r.opened.joint r.turns n t is ∙ ap (λ (x : Turn). x.joint) (sym made.step) in
    let ends : EndsSo s.context s.ctx due t =
    subst (EndsSo s.context s.ctx due) made.step
    (moment_ends m s history due (number_at d m.joint.domains s.domain made.steady.programs s.program)
    (gives.pages n (omega (arith, low))) drawn listed
    (subst TellsEnded after (ended_are_told b from budget r grammar runs (suc n))) wants) in
    let loads : filter is_load (moves_in b from r n t.items) ≡ load_if due (inward_half d t.items) =
    ap (λ (o : Option ℕ). filter is_load (step_moves history (joint_until n r).domains o t.items)) s.runs
    ∙ step_loads history (joint_until n r).domains s.ctx s.domain s.context t.items due s.program s.there wants in
    subst (λ (moves : List Move). LoadEnds s.context s.ctx due (record {
      told = inward_half d t.items;
      loads = moves;
      left = left_in t.items;
      listed = slice_index_or t.joint.ended d None;
      context = context_running t.joint s.ctx;
      stop = stop_of t;
    })) (sym loads) ends

-- a step of a hart that was inside this context, or in none
module _ (b : Bundle) (from : Beginning) (r : Run) (n : ℕ) (t : Turn) (step : joint_step (moment_at b r n) ≡ t)
    (load : Move) (more : List Move)
  where
    inside_makes : (o : Option ℕ) → context_of_step b r n ≡ o →
        filter is_load (step_moves (history_until b from n r) (joint_until n r).domains o t.items) ≡ load ∷ more →
        Makes (moment_at b r n) (history_until b from n r) load
    unfolding step_moves
    inside_makes None is loaded = absurd cc
    inside_makes (Some ctx) is loaded =
        let history : List Move = history_until b from n r in
        let found : Option Domain = slice_get (joint_until n r).domains (domain_of ctx) in
        program_makes (moment_at b r n) history ctx load more is found refl
        (subst (λ (x : Turn).
        filter is_load (program_moves found history (slot_of ctx) (inward_half (domain_of ctx) x.items)) ≡ load ∷ more)
        (sym step) loaded)

pub only_due_loads : OnlyDueLoads
only_due_loads b from budget r runs n t there load more loaded =
    let made = steps_made b from budget r runs n t there in
    let makes = inside_makes b from r n t made.step load more (context_of_step b r n) refl loaded in
    record { step = makes.step; due = makes.were.due; is = makes.were.is; same = makes.were.same }

-- A step that stops the run.

record Stops (turns : List Turn) (n : ℕ) (cause : Stop) : Type 0 where
  pub last : suc n ≡ length turns
  pub stops : (so_far : Option Stop) → last_stop so_far turns ≡ Some cause

first_stops : (o : Option Stop) (x : Turn) (later : Moment → List Turn) (m : Moment) (cause : Stop) →
    o ≡ Some cause → stop_of x ≡ o → Stops (x ∷ unless_stopped o later m) 0 cause
unfolding last_stop
first_stops None x later m cause is same = absurd cc
first_stops (Some y) x later m cause is same = record { last = refl; stops = λ so_far. same ∙ is }

later_stops : (o : Option Stop) (x : Turn) (later : Moment → List Turn) (m : Moment) (n : ℕ) (t : Turn) (cause : Stop) →
    slice_get (unless_stopped o later m) n ≡ Some t →
    (slice_get (later m) n ≡ Some t → Stops (later m) n cause) →
    Stops (x ∷ unless_stopped o later m) (suc n) cause
unfolding last_stop
later_stops (Some y) x later m zero t cause is more = absurd cc
later_stops (Some y) x later m (suc n) t cause is more = absurd cc
later_stops None x later m n t cause is more =
    let rest = more is in
    let last = rest.last in
    record { last = omega (arith, last); stops = λ so_far. rest.stops (stop_of x) }

turns_stop : (budget n : ℕ) (m : Moment) (t : Turn) (cause : Stop) → slice_get (turns_from budget m) n ≡ Some t →
    stop_of t ≡ Some cause → Stops (turns_from budget m) n cause
unfolding turns_from
turns_stop zero zero m t cause is stops = absurd cc
turns_stop zero (suc n) m t cause is stops = absurd cc
turns_stop (suc budget) zero m t cause is stops =
    let same : joint_step m ≡ t = cc in
    first_stops (stop_of (joint_step m)) (joint_step m) (turns_from budget) (after_turn m (joint_step m)) cause
    (ap (λ (x : Turn). stop_of x) same ∙ stops) refl
turns_stop (suc budget) (suc n) m t cause is stops =
    later_stops (stop_of (joint_step m)) (joint_step m) (turns_from budget) (after_turn m (joint_step m)) n t cause is
    (λ there. turns_stop budget n (after_turn m (joint_step m)) t cause there stops)

reported : (missed : Bool) (o : Option Stop) → o ≡ Some stop.NoRandom →
    cond missed stop.NoRandom (unwrap_or o stop.Budget) ≡ stop.NoRandom
reported true o is = refl
reported false o is = ap (λ (x : Option Stop). unwrap_or x stop.Budget) is

opened_stops : (b : Bundle) (budget : ℕ) (o : RunEdge) → MissesAreLast (run_of b budget o)
unfolding run_of
opened_stops b budget o n t is misses =
    let stops = turns_stop budget n (first_moment b o.joint) t stop.NoRandom is misses in
    record { last = stops.last; reported = reported _ _ (stops.stops None) }

pub missing_draws_stop : MissingDrawsStop
missing_draws_stop b from budget r is =
    of_opened b budget MissesAreLast (opening_from b from) r is (λ o opens. opened_stops b budget o)
