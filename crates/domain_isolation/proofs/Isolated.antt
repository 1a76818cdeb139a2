-- A program's half of isolation, step by step.
use Rattle.domain_isolation.proofs.Endings.{StepTaken, step_taken}
use Rattle.std.proofs.Common.{◌≡◌, ◌∙◌, ◌+◌, ◌%◌, ◌<◌, ◌≤◌, false, suc, zero, ℕ, Bool, List, [], ◌∷◌, ◌++◌, Option, Some, None, Result, Ok, Err, refl, ap, sym, subst, arith, add-one, length, map, take, mod-lt}
use Rattle.std.specs.Prelude.{is_some, slice_get, slice_index, All}
use Rattle.std.specs.List.{AllByRecursion}
use Rattle.std.specs.Result.{result_map_both}
use Rattle.std.proofs.lemmas.List.{take_all}
use Rattle.cloak_base.specs.declared.causes.Stop.{Stop}
use Rattle.cloak_model.specs.declared.image.Bundle.{Bundle}
use Rattle.cloak_model.specs.declared.image.Program.{Program}
use Rattle.cloak_model.specs.Items.{Item}
use Rattle.cloak_model.specs.Items as item
use Rattle.cloak_model.specs.Beginning.{Beginning, opening_from}
use Rattle.cloak_model.specs.Bundle.{IsInGrammar}
use Rattle.cloak_model.specs.Halves.{inward_half}
use Rattle.cloak_model.specs.Exchange.{steps_items}
use Rattle.cloak_model.specs.Record.{IsOfStep}
use Rattle.cloak_model.specs.Opening.{Lack, RunEdge}
use Rattle.cloak_model.specs.Parts.{Joint, DomainPart, domain_part}
use Rattle.cloak_model.specs.Joint.{Moment, Turn, joint_step, stop_of, hart_in, turn_of, answers_violation}
use Rattle.cloak_model.specs.Run.{Run, unless_stopped, turns_from, joint_after, closing, first_moment, run_of, exchange}
use Rattle.cloak_model.specs.DomainAlone.{DomainAlone, Between, domain_step_ended, domain_taken, domain_takes, opened_with_part, domain_alone_from, part_from}
use Rattle.domain_isolation.specs.Isolation.{HasDomain, Hosts, DomainIsAlone, DomainEndsAlone}
use Rattle.kernel_isolation.specs.Isolation.{items_until}
use Rattle.kernel_isolation.proofs.FilesAdded.{OpensOver, opens_over}
use Rattle.domain_isolation.proofs.Ignoring.{half_taken, taken_append, taken_half, item_taken, none_taken}
use Rattle.domain_isolation.proofs.Alone.{alone_at, ended, RestsAt, from_ended, begins, closes}
use Rattle.domain_isolation.proofs.InOrder.{InOrder}
use Rattle.domain_isolation.proofs.JointSteps.{HoldsPart, has_part}
use Rattle.domain_isolation.proofs.Opened.{opened_half, opened_order, opened_has, closing_half, closing_has}

-- the items of these steps, after k others
abbrev pub items_behind : ℕ → List Turn → List Item
items_behind k turns = steps_items (suc k) (map (λ (t : Turn). t.items) turns)

-- what each of these steps told the program
abbrev pub told_by : ℕ → List Turn → List (List Item)
told_by d turns = map (λ (t : Turn). inward_half d t.items) turns

-- the program alone, on the items of these steps, has what the joint machine has after them
pub record FrontAlone (d : ℕ) (schedule : List ℕ) (k : ℕ) (j : Joint) (turns : List Turn)
    (s : DomainAlone) : Type 0 where
  pub part : DomainPart
  pub has : HoldsPart d (joint_after j turns) part
  pub stops : Bool
  pub rests : RestsAt (ended (domain_taken d schedule s (items_behind k turns))) part stops
  pub told : AllByRecursion (AllByRecursion IsOfStep) (told_by d turns)

-- a schedule that names harts
record IsSchedule (count : ℕ) (schedule : List ℕ) : Type 0 where
  pub some : 1 ≤ length schedule
  pub turns : All (λ h. h < count) schedule

hart_within : (count : ℕ) (schedule : List ℕ) (k : ℕ) → IsSchedule count schedule →
    slice_index schedule (k % length schedule) < count
hart_within count schedule k is = is.turns (k % length schedule) 0 (mod-lt k is.some)

after_none : (d : ℕ) (schedule : List ℕ) (k : ℕ) (j : Joint) (s : DomainAlone) (p : DomainPart) (n : ℕ) →
    HoldsPart d j p → ended s ≡ alone_at p n Between → FrontAlone d schedule k j [] s
unfolding joint_after steps_items domain_taken
after_none d schedule k j s p n has is =
    record {
      part = p;
      has = has;
      stops = false;
      rests =
          record { steps = n; stage = Between; is = is; between = λ goes. refl };
      told = tt;
    }

-- one step, and then others
after_one : (d count : ℕ) (schedule : List ℕ) (k : ℕ) (j : Joint) (s : DomainAlone) (p : DomainPart) (n : ℕ)
    (t : Turn) → ended s ≡ alone_at p n Between →
    (step : StepTaken d count schedule k (slice_index schedule (k % length schedule)) p t) →
    RestsAt (ended (domain_taken d schedule s (item.Step (suc k) ∷ t.items))) step.part (is_some (stop_of t))
after_one d count schedule k j s p n t is step =
    subst (λ (x : DomainAlone). RestsAt (ended x) step.part (is_some (stop_of t)))
    (sym (from_ended d schedule (suc k) t.items s p n is ∙ begins d schedule k t.items p n)) step.rests

after_more : (d : ℕ) (schedule : List ℕ) (k : ℕ) (j : Joint) (s : DomainAlone) (t : Turn) (turns : List Turn) →
    AllByRecursion IsOfStep (inward_half d t.items) →
    FrontAlone d schedule (k + 1) t.joint turns (domain_taken d schedule s (item.Step (suc k) ∷ t.items)) →
    FrontAlone d schedule k j (t ∷ turns) s
unfolding joint_after steps_items
after_more d schedule k j s t turns told after =
    let next : k + 1 ≡ suc k = add-one k in
    let all = item.Step (suc k) ∷ t.items in
    record {
      part = after.part;
      has = after.has;
      stops = after.stops;
      rests =
          subst (λ (x : DomainAlone). RestsAt (ended x) after.part after.stops)
          (ap (λ (m : ℕ). domain_taken d schedule (domain_taken d schedule s all) (items_behind m turns)) next
          ∙ sym (taken_append d schedule s all (items_behind (suc k) turns)))
          after.rests;
      told = (told, after.told);
    }

after_last : (d : ℕ) (schedule : List ℕ) (k : ℕ) (j : Joint) (s : DomainAlone) (p : DomainPart) (stops : Bool) →
    HoldsPart d j p → RestsAt (ended s) p stops → FrontAlone d schedule k j [] s
unfolding joint_after steps_items domain_taken
after_last d schedule k j s p stops has rests = record { part = p; has = has; stops = stops; rests = rests; told = tt }

-- the front of a run, after its first step
abbrev pub Fronts : ℕ → List ℕ → ℕ → Joint → List Turn → DomainAlone → Type 0
Fronts d schedule k j turns s = (n : ℕ) → n ≤ length turns → FrontAlone d schedule k j (take n turns) s

fronts_none : (d : ℕ) (schedule : List ℕ) (k : ℕ) (j : Joint) (s : DomainAlone) (p : DomainPart) (stops : Bool) →
    HoldsPart d j p → RestsAt (ended s) p stops → Fronts d schedule k j [] s
fronts_none d schedule k j s p stops has rests zero le = after_last d schedule k j s p stops has rests
fronts_none d schedule k j s p stops has rests (suc n) le = absurd (omega (arith, le))

-- a moment of a run
abbrev moment : List ℕ → ℕ → Joint → Moment
moment schedule k j = record { schedule = schedule; steps = k; joint = j }

fronts_one : (d count : ℕ) (schedule : List ℕ) (k : ℕ) (j : Joint) (t : Turn) (turns : List Turn) (s : DomainAlone)
    (p : DomainPart) (n : ℕ) → HoldsPart d j p → ended s ≡ alone_at p n Between →
    AllByRecursion IsOfStep (inward_half d t.items) →
    Fronts d schedule (k + 1) t.joint turns (domain_taken d schedule s (item.Step (suc k) ∷ t.items)) →
    Fronts d schedule k j (t ∷ turns) s
fronts_one d count schedule k j t turns s p n has is told rest zero le = after_none d schedule k j s p n has is
fronts_one d count schedule k j t turns s p n has is told rest (suc m) le =
    after_more d schedule k j s t (take m turns) told (rest m (omega (arith, le)))

rests_between : (s : DomainAlone) (p : DomainPart) (stops : Bool) (rests : RestsAt s p stops) → stops ≡ false →
    s ≡ alone_at p rests.steps Between
rests_between s p stops rests goes = rests.is ∙ ap (alone_at p rests.steps) (rests.between goes)

-- every front of a run from a moment on
abbrev FrontsFrom : ℕ → ℕ → ℕ → List ℕ → Type 0
FrontsFrom budget d count schedule =
    (k : ℕ) (j : Joint) (s : DomainAlone) (p : DomainPart) (n : ℕ) → InOrder count j.harts j.domains →
    HoldsPart d j p → ended s ≡ alone_at p n Between →
    Fronts d schedule k j (turns_from budget (moment schedule k j)) s

-- what follows a step, by whether it stops the run
fronts_unless : (budget d count : ℕ) (schedule : List ℕ) → FrontsFrom budget d count schedule →
    (k : ℕ) (t : Turn) (s : DomainAlone) (p : DomainPart) (o : Option Stop) →
    stop_of t ≡ o → InOrder count t.joint.harts t.joint.domains → HoldsPart d t.joint p →
    RestsAt (ended s) p (is_some (stop_of t)) →
    Fronts d schedule (k + 1) t.joint (unless_stopped o (turns_from budget) (moment schedule (k + 1) t.joint)) s
fronts_unless budget d count schedule rest k t s p (Some cause) is order has rests =
    fronts_none d schedule (k + 1) t.joint s p (is_some (stop_of t)) has rests
fronts_unless budget d count schedule rest k t s p None is order has rests =
    rest (k + 1) t.joint s p rests.steps order has
    (rests_between (ended s) p (is_some (stop_of t)) rests (ap is_some is))

fronts : (budget d count : ℕ) (schedule : List ℕ) → IsSchedule count schedule → FrontsFrom budget d count schedule
unfolding turns_from joint_step
fronts zero d count schedule is k j s p n order has rests =
    fronts_none d schedule k j s p false has (record { steps = n; stage = Between; is = rests; between = λ goes. refl })
fronts (suc budget) d count schedule is k j s p n order has rests =
    let hart = slice_index schedule (k % length schedule) in
    let h = hart_in j hart in
    let before = turn_of j hart h h.inside in
    let t = answers_violation h.inside before.violation before in
    let within : hart < length j.harts = subst (λ (c : ℕ). hart < c) (sym order.harts_count)
    (hart_within count schedule k is) in
    let step = step_taken d count schedule k hart p j order has within in
    fronts_one d count schedule k j t _ s p n has rests step.told
    (fronts_unless budget d count schedule (fronts budget d count schedule is) k t _ step.part
    (stop_of t) refl step.order step.has (after_one d count schedule k j s p n t rests step))

-- A run.

-- a run of a bundle from a beginning, as it was opened
pub record RunsOf (b : Bundle) (from : Beginning) (budget : ℕ) (r : Run) : Type 0 where
  pub opened : RunEdge
  pub is_opened : OpensOver b from opened
  pub is : run_of b budget opened ≡ r

run_value : Run → Result Run Lack → Run
run_value d (Ok r) = r
run_value d (Err lack) = d

runs_of : (b : Bundle) (from : Beginning) (budget : ℕ) (r : Run) (made : Result RunEdge Lack) →
    opening_from b from ≡ made → result_map_both (run_of b budget) (λ lack. lack) made ≡ Ok r → RunsOf b from budget r
unfolding run_value
runs_of b from budget r (Err lack) is made = absurd cc
runs_of b from budget r (Ok o) is made = record {
  opened = o;
  is_opened = opens_over b from o is;
  is = ap (run_value r) made;
}

pub hosted : (b : Bundle) (d : ℕ) (p : Program) (from : Beginning) (r : Run) (h : Hosts b d p from r) →
    RunsOf b from h.budget r
hosted b d p from r h = runs_of b from h.budget r (opening_from b from) refl h.runs

schedule_of : (b : Bundle) → IsInGrammar b → IsSchedule b.kernel.harts b.kernel.schedule
schedule_of b g = record { some = g.kernel.some_turns; turns = g.kernel.turns }

starts_between : (p : DomainPart) → ended (opened_with_part p) ≡ alone_at p 0 Between
unfolding domain_step_ended
starts_between p = refl

-- the front of the run: after the opening's items
pub run_after : (b : Bundle) (d : ℕ) (p : Program) (from : Beginning) (budget : ℕ) (o : RunEdge) → IsInGrammar b →
    OpensOver b from o → slice_get b.programs d ≡ Some p →
    Fronts d b.kernel.schedule 0 o.joint (turns_from budget (first_moment b o.joint))
    (domain_taken d b.kernel.schedule (opened_with_part (part_from d from p)) o.items)
run_after b d p from budget o g opened found =
    let part : DomainPart = part_from d from p in
    let start = opened_with_part part in
    let none : domain_taken d b.kernel.schedule start o.items ≡ start =
    taken_half d b.kernel.schedule start o.items [] (opened_half b from o d opened)
    ∙ none_taken d b.kernel.schedule start in
    fronts budget d b.kernel.harts b.kernel.schedule (schedule_of b g) 0 o.joint _ part 0
    (opened_order b from o opened) (opened_has b from o d p opened found)
    (ap ended none ∙ starts_between part)

-- with Close after it, and items that are not told
closed_part : (d : ℕ) (schedule : List ℕ) (p : DomainPart) (opening : List Item) (k : ℕ) (j j' : Joint)
    (turns : List Turn) (rest : List Item) →
    FrontAlone d schedule 0 j turns (domain_taken d schedule (opened_with_part p) opening) →
    ((s : DomainAlone) → s.unfit ≡ None → domain_taken d schedule s rest ≡ s) →
    ((q : DomainPart) → HoldsPart d (joint_after j turns) q → HoldsPart d j' q) →
    HasDomain (domain_alone_from d schedule p (opening ++ (items_behind 0 turns ++ item.Close k ∷ rest))) (domain_part j' d)
closed_part d schedule p opening k j j' turns rest after ignored kept =
    let start = opened_with_part p in
    let first = domain_taken d schedule start opening in
    let s = domain_taken d schedule first (items_behind 0 turns) in
    let end = alone_at after.part after.rests.steps after.rests.stage in
    let all : domain_alone_from d schedule p (opening ++ (items_behind 0 turns ++ item.Close k ∷ rest)) ≡ end =
    taken_append d schedule start opening (items_behind 0 turns ++ item.Close k ∷ rest)
    ∙ taken_append d schedule first (items_behind 0 turns) (item.Close k ∷ rest)
    ∙ taken_append d schedule s (item.Close k ∷ []) rest
    ∙ ap (λ (x : DomainAlone). domain_taken d schedule x rest)
    (closes d schedule k s after.part after.stops after.rests ∙ after.rests.is)
    ∙ ignored end refl in
    record {
      fits = ap (λ (x : DomainAlone). x.unfit) all;
      same = ap (λ (x : DomainAlone). Some x.part) all ∙ sym (has_part d j' after.part (kept after.part after.has));
    }

pub domain_is_alone : DomainIsAlone
unfolding run_of
domain_is_alone b d p from r h n le =
    let runs = hosted b d p from r h in
    let part : DomainPart = part_from d from p in
    subst (λ (x : Run). n ≤ length x.turns → HasDomain
    (domain_alone_from d b.kernel.schedule part (inward_half d (items_until n x)))
    (domain_part (joint_after x.opened.joint (take n x.turns)) d)) runs.is
    (λ le'.
    let o = runs.opened in
    let turns = turns_from h.budget (first_moment b o.joint) in
    subst (λ (s : DomainAlone). HasDomain s (domain_part (joint_after o.joint (take n turns)) d))
    (sym (half_taken d b.kernel.schedule (opened_with_part part) (items_until n (run_of b h.budget o))))
    (closed_part d b.kernel.schedule part o.items n o.joint (joint_after o.joint (take n turns)) (take n turns) []
    (run_after b d p from h.budget o h.in_grammar runs.is_opened h.program n le')
    (λ s fits. none_taken d b.kernel.schedule s) (λ q has. has))) le

-- what is shown as the run closes, and End
closing_ignored : (d : ℕ) (schedule : List ℕ) (j : Joint) (s : DomainAlone) → s.unfit ≡ None →
    domain_taken d schedule s ((closing j).items ++ item.End ∷ []) ≡ s
unfolding domain_taken domain_takes
closing_ignored d schedule j s fits =
    taken_append d schedule s (closing j).items (item.End ∷ [])
    ∙ ap (λ (x : DomainAlone). domain_taken d schedule x (item.End ∷ []))
    (taken_half d schedule s (closing j).items [] (closing_half d j))
    ∙ item_taken d schedule s item.End fits

pub all_taken : (turns : List Turn) → take (length turns) turns ≡ turns
all_taken turns = take_all (length turns) turns (omega arith)

pub domain_ends_alone : DomainEndsAlone
unfolding run_of
domain_ends_alone b d p from r h =
    let runs = hosted b d p from r h in
    let part : DomainPart = part_from d from p in
    subst (λ (x : Run). HasDomain (domain_alone_from d b.kernel.schedule part (exchange x))
    (domain_part x.closed.joint d)) runs.is
    (let o = runs.opened in
    let turns = turns_from h.budget (first_moment b o.joint) in
    let j = joint_after o.joint turns in
    closed_part d b.kernel.schedule part o.items (length (map (λ (t : Turn). t.items) turns)) o.joint
    (closing j).joint turns ((closing j).items ++ item.End ∷ [])
    (subst (λ (l : List Turn). FrontAlone d b.kernel.schedule 0 o.joint l
    (domain_taken d b.kernel.schedule (opened_with_part part) o.items)) (all_taken turns)
    (run_after b d p from h.budget o h.in_grammar runs.is_opened h.program (length turns) (omega arith)))
    (closing_ignored d b.kernel.schedule j) (closing_has d j))
