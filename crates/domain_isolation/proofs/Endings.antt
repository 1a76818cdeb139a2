-- The end of a domain after a step, and what the program alone makes of it.
use Rattle.std.proofs.Common.{◌≡◌, ◌≢◌, ◌∙◌, inl, inr, suc, ◌<◌, true, false, cond, ℕ, Bool, List, [], ◌∷◌, ◌++◌, length, Option, Some, None, refl, ap, sym, subst, eq-eqb, ne_eqb, append-nil, if◌then◌else◌}
use Rattle.std.specs.Prelude.{◌==◌, ◌||◌, is_some, slice_get}
use Rattle.std.specs.List.{AllByRecursion}
use Rattle.std.proofs.lemmas.List.Elements.{filter-append}
use Rattle.cloak_base.specs.declared.causes.Violation.{Violation}
use Rattle.cloak_base.specs.declared.names.PageId.{PageId}
use Rattle.cloak_model.specs.Items.{Item}
use Rattle.cloak_model.specs.Items as item
use Rattle.cloak_model.specs.AskPages.{ask_forget}
use Rattle.cloak_model.specs.Cloaking.{CloakedMemory}
use Rattle.cloak_model.specs.Contexts.{domain_of}
use Rattle.cloak_model.specs.DomainAlone.{DomainAlone, DomainStage, Between, Other, Done, Stopped, handed_of, domain_taken, take_domain_item, domain_takes, take_ended, ended_part, domain_gone, domain_step_ended, slot_on, stage_for}
use Rattle.cloak_model.specs.DomainState.{Domain}
use Rattle.cloak_model.specs.Ending.{settled_for, ask_end, cloak_for, handed_for, ended_domain}
use Rattle.cloak_model.specs.Fork.{forget_each}
use Rattle.cloak_model.specs.Halves.{is_inward, inward_half}
use Rattle.cloak_model.specs.Joint.{Turn, hart_in, turn_of, stop_of, domain_met, end_domain, refuses, ends_once, ends_resumed, ends_asked, answers_violation}
use Rattle.cloak_model.specs.Opening.{numbers_below}
use Rattle.cloak_model.specs.Parts.{Joint, DomainPart, domain_pages}
use Rattle.cloak_model.specs.Record.{IsOfStep}
use Rattle.cloak_model.specs.World.{World, Cloaked, Alone, plain_of, items_of}
use Rattle.domain_isolation.proofs.Alone.{alone_at, ended, RestsAt, OtherAt, same_number}
use Rattle.domain_isolation.proofs.Answers.{alone_with, LeavesOthers, change_leaves, change_same}
use Rattle.domain_isolation.proofs.Ignoring.{taken_append, taken_half, none_taken}
use Rattle.domain_isolation.proofs.InOrder.{decided, InOrder, order_ends, get_set_same}
use Rattle.domain_isolation.proofs.InsideSteps.{memory_plain, turn_alone}
use Rattle.domain_isolation.proofs.JointSteps.{HoldsPart, StepAlone}
use Rattle.script_fold.proofs.Endings.{keeps_settled_for}
use Rattle.cloak_model.specs.Script.{Forget}
use Rattle.cloak_model.specs.Script.{played}
use Rattle.domain_isolation.proofs.Steady.{is_cloaked, Steady, steady_opens}
use Rattle.std.proofs.lemmas.Option.{same_Some}
use Rattle.cloak_base.proofs.Lists.{slice_get-set_other}

-- Its pages.

-- what the end of a domain leaves of a world
pub record EndLeaves (d : ℕ) (w v : World) : Type 0 where
  pub form : is_cloaked v ≡ true
  pub items : (e : ℕ) → inward_half e (items_of v) ≡ inward_half e (items_of w)
  pub others : (e : ℕ) → e ≢ d → domain_pages e (plain_of v) ≡ domain_pages e (plain_of w)

forgets_leave : (d : ℕ) (numbers : List ℕ) (w : World) → is_cloaked w ≡ true →
    EndLeaves d w (played (forget_each d numbers) w).world
unfolding forget_each
forgets_leave d [] w cloaked = record { form = cloaked; items = λ e. refl; others = λ e other. refl }
forgets_leave d (n ∷ numbers) w cloaked =
    let v = (ask_forget d n w).world in
    let one : LeavesOthers d w v = change_leaves d (Forget d n) refl w cloaked in
    let rest = forgets_leave d numbers v (one.form ∙ cloaked) in
    record {
      form = rest.form;
      items = λ e. rest.items e ∙ ap (λ (l : List Item). inward_half e l) one.items;
      others = λ e other. rest.others e other ∙ one.others e other;
    }

forgets_same : (d : ℕ) (numbers : List ℕ) (w : World) → is_cloaked w ≡ true →
    (played (forget_each d numbers) (alone_with d (plain_of w) [])).world
    ≡ alone_with d (plain_of (played (forget_each d numbers) w).world) []
unfolding forget_each
forgets_same d [] w cloaked = refl
forgets_same d (n ∷ numbers) w cloaked =
    let v = (ask_forget d n w).world in
    ap (λ (told : _). (played (forget_each d numbers) told.world).world) (change_same d (Forget d n) refl w [] cloaked)
    ∙ forgets_same d numbers v ((change_leaves d (Forget d n) refl w cloaked).form ∙ cloaked)

-- the memory of the joint machine after a domain's end
abbrev pub end_world : ℕ → CloakedMemory → World
end_world d m = (ask_end d (Cloaked (cloak_for m d))).world

pub end_leaves : (d : ℕ) (m : CloakedMemory) → EndLeaves d (Cloaked (cloak_for m d)) (end_world d m)
unfolding ask_end
end_leaves d m =
    let w = Cloaked (cloak_for m d) in
    let v = settled_for d 0 (length m.ram) w in
    let s = keeps_settled_for Steady steady_opens.settles d 0 (length m.ram) w in
    let r = forgets_leave d (numbers_below 16) v s.form in
    record {
      form = r.form;
      items = λ e. r.items e ∙ s.items e;
      others = λ e other. r.others e other ∙ ap (domain_pages e) s.plain;
    }

-- a program that runs alone has the same pages then
end_same : (d : ℕ) (m : CloakedMemory) →
    (handed_of (ask_end d (Alone (handed_for (domain_pages d m.plain)))).world).plain
    ≡ domain_pages d (plain_of (end_world d m))
unfolding ask_end settled_for
end_same d m =
    let w = Cloaked (cloak_for m d) in
    let v = settled_for d 0 (length m.ram) w in
    let s = keeps_settled_for Steady steady_opens.settles d 0 (length m.ram) w in
    ap (λ (pages : PageId → List ℕ).
    (handed_of (played (forget_each d (numbers_below 16)) (alone_with d pages [])).world).plain)
    (sym s.plain)
    ∙ ap (λ (x : World). (handed_of x).plain) (forgets_same d (numbers_below 16) v s.form)

-- Its items.

end_half : (d e : ℕ) (m : CloakedMemory) →
    inward_half d (items_of (end_world e m) ++ item.Ended e ∷ []) ≡ (if e == d then item.Ended e ∷ [] else [])
end_half d e m =
    filter-append (is_inward d) (items_of (end_world e m)) (item.Ended e ∷ [])
    ∙ ap (λ (l : List Item). l ++ (if e == d then item.Ended e ∷ [] else [])) ((end_leaves e m).items d)

-- the program takes the end
open_taken : (d : ℕ) (schedule : List ℕ) (part : DomainPart) (steps : ℕ) (stage : DomainStage) →
    (take_ended d part.domain.control.ended stage (alone_at part steps stage) ≡ domain_gone d (alone_at part steps stage)) →
    domain_taken d schedule (alone_at part steps stage) (item.Ended d ∷ []) ≡ alone_at (ended_part d part) steps Done
unfolding domain_taken take_domain_item domain_takes
open_taken d schedule part steps stage takes =
    same_number d (take_ended d part.domain.control.ended stage (alone_at part steps stage)) (alone_at part steps stage)
    ∙ takes

other_takes : (d : ℕ) (over : Bool) (hart : ℕ) (s : DomainAlone) → over ≡ false →
    take_ended d over (Other hart) s ≡ domain_gone d s
unfolding take_ended
other_takes d true hart s is = absurd (let clash : true ≡ false = is in cc)
other_takes d false hart s is = refl

stopped_takes : (d : ℕ) (over : Bool) (s : DomainAlone) → take_ended d over Stopped s ≡ domain_gone d s
unfolding take_ended
stopped_takes d over s = refl

done_rests : (p : DomainPart) (steps : ℕ) (stops : Bool) → RestsAt (ended (alone_at p steps Done)) p stops
unfolding domain_step_ended
done_rests p steps stops = record { steps = steps; stage = Between; is = refl; between = λ goes. refl }

other_rests : (p : DomainPart) (steps hart : ℕ) (stops : Bool) → RestsAt (ended (alone_at p steps (Other hart))) p stops
unfolding domain_step_ended
other_rests p steps hart stops = record { steps = steps; stage = Between; is = refl; between = λ goes. refl }

-- A step with what follows it.
pub record StepTaken (d count : ℕ) (schedule : List ℕ) (k hart : ℕ) (p : DomainPart) (t : Turn) : Type 0 where
  pub part : DomainPart
  pub has : HoldsPart d t.joint part
  pub rests : RestsAt (ended (domain_taken d schedule
      (alone_at p (suc k) (stage_for hart (slot_on hart 0 p.domain.control.contexts)))
      t.items)) part (is_some (stop_of t))
  pub order : InOrder count t.joint.harts t.joint.domains
  pub told : AllByRecursion IsOfStep (inward_half d t.items)

-- the program alone once it has read the items of the step
abbrev read_by : ℕ → List ℕ → ℕ → ℕ → DomainPart → Turn → DomainAlone
read_by d schedule k hart p t =
    domain_taken d schedule (alone_at p (suc k) (stage_for hart (slot_on hart 0 p.domain.control.contexts))) t.items

no_violation : (d count : ℕ) (schedule : List ℕ) (k hart : ℕ) (p : DomainPart) (inside : Option ℕ) (t : Turn) →
    t.violation ≡ None → StepAlone d count schedule k hart p inside t → StepTaken d count schedule k hart p t
no_violation d count schedule k hart p inside t none step = record {
  part = step.part;
  has = step.has;
  rests = subst (λ (b : Bool). RestsAt (ended (read_by d schedule k hart p t)) step.part b)
      (ap (λ (o : Option Violation). is_some o || is_some (stop_of t)) none) step.rests;
  order = step.order;
  told = step.told;
}

refused : (d count : ℕ) (schedule : List ℕ) (k hart : ℕ) (p : DomainPart) (t : Turn) →
    is_some t.violation ≡ true → StepAlone d count schedule k hart p None t →
    StepTaken d count schedule k hart p (refuses t)
refused d count schedule k hart p t some step =
    let o = step.opens some in
    record {
      part = step.part;
      has = record { domain = step.has.domain; plain = step.has.plain };
      rests = subst (λ (s : DomainAlone). RestsAt (ended s) step.part (is_some (stop_of (refuses t)))) (sym o.is)
          (other_rests step.part o.steps o.hart _);
      order = step.order;
      told = step.told;
    }

-- the end of another domain
end_elsewhere : (d count : ℕ) (schedule : List ℕ) (k hart : ℕ) (p : DomainPart) (inside : Option ℕ) (t : Turn) (e : ℕ)
    (old : Domain) (v : Violation) → d ≢ e → slice_get t.joint.domains e ≡ Some old →
    (step : StepAlone d count schedule k hart p inside t) → OtherAt (read_by d schedule k hart p t) step.part →
    StepTaken d count schedule k hart p (end_domain e old v t)
unfolding end_domain
end_elsewhere d count schedule k hart p inside t e old v apart found step o =
    let start = alone_at p (suc k) (stage_for hart (slot_on hart 0 p.domain.control.contexts)) in
    let m = t.joint.memory in
    let more : List Item = items_of (end_world e m) ++ item.Ended e ∷ [] in
    let none : inward_half d more ≡ [] = end_half d e m
    ∙ ap (λ (b : Bool). cond b (item.Ended e ∷ []) []) (ne_eqb e d (λ same. apart (sym same))) in
    let leaves = end_leaves e m in
    record {
      part = step.part;
      has = record {
        domain = slice_get-set_other t.joint.domains e d (ended_domain old) apart ∙ step.has.domain;
        plain = ap (domain_pages d) (memory_plain (end_world e m) m leaves.form) ∙ leaves.others d apart ∙ step.has.plain;
      };
      rests = subst (λ (s : DomainAlone). RestsAt (ended s) step.part (is_some (stop_of (end_domain e old v t))))
          (sym (taken_append d schedule start t.items more ∙ taken_half d schedule (read_by d schedule k hart p t) more [] none
          ∙ none_taken d schedule (read_by d schedule k hart p t) ∙ o.is))
          (other_rests step.part o.steps o.hart _);
      order = order_ends count t.joint.harts t.joint.domains e old step.order found;
      told = subst (AllByRecursion IsOfStep)
          (sym (filter-append (is_inward d) t.items more ∙ ap (λ (l : List Item). inward_half d t.items ++ l) none
          ∙ append-nil (inward_half d t.items))) step.told;
    }

all_append : (a b : List Item) → AllByRecursion IsOfStep a → AllByRecursion IsOfStep b → AllByRecursion IsOfStep (a ++ b)
all_append [] b here there = there
all_append (i ∷ a) b here there = (here.0, all_append a b here.1 there)

-- its own end
end_own : (d count : ℕ) (schedule : List ℕ) (k hart : ℕ) (p : DomainPart) (inside : Option ℕ) (t : Turn)
    (old : Domain) (v : Violation) → slice_get t.joint.domains d ≡ Some old →
    (step : StepAlone d count schedule k hart p inside t) (steps : ℕ) (stage : DomainStage) →
    read_by d schedule k hart p t ≡ alone_at step.part steps stage →
    take_ended d step.part.domain.control.ended stage (alone_at step.part steps stage)
    ≡ domain_gone d (alone_at step.part steps stage) →
    StepTaken d count schedule k hart p (end_domain d old v t)
unfolding end_domain
end_own d count schedule k hart p inside t old v found step steps stage is takes =
    let start = alone_at p (suc k) (stage_for hart (slot_on hart 0 p.domain.control.contexts)) in
    let m = t.joint.memory in
    let more : List Item = items_of (end_world d m) ++ item.Ended d ∷ [] in
    let half : inward_half d more ≡ item.Ended d ∷ [] = end_half d d m
    ∙ ap (λ (b : Bool). cond b (item.Ended d ∷ []) []) (eq-eqb d d refl) in
    let leaves = end_leaves d m in
    let same : old ≡ step.part.domain = same_Some old step.part.domain (sym found ∙ step.has.domain) in
    record {
      part = ended_part d step.part;
      has = record {
        domain = get_set_same t.joint.domains d old (ended_domain old) found
            ∙ ap (λ (x : Domain). Some (ended_domain x)) same;
        plain = ap (domain_pages d) (memory_plain (end_world d m) m leaves.form)
            ∙ sym (end_same d m)
            ∙ ap (λ (plain : ℕ → ℕ → List ℕ). (handed_of (ask_end d (Alone (handed_for plain))).world).plain) step.has.plain;
      };
      rests = subst (λ (s : DomainAlone). RestsAt (ended s) (ended_part d step.part) (is_some (stop_of (end_domain d old v t))))
          (sym (taken_append d schedule start t.items more
          ∙ taken_half d schedule (read_by d schedule k hart p t) more (item.Ended d ∷ []) half
          ∙ ap (λ (s : DomainAlone). domain_taken d schedule s (item.Ended d ∷ [])) is
          ∙ open_taken d schedule step.part steps stage takes))
          (done_rests (ended_part d step.part) steps _);
      order = order_ends count t.joint.harts t.joint.domains d old step.order found;
      told = subst (AllByRecursion IsOfStep)
          (sym (filter-append (is_inward d) t.items more ∙ ap (λ (l : List Item). inward_half d t.items ++ l) half))
          (all_append (inward_half d t.items) (item.Ended d ∷ []) step.told (refl, tt));
    }

ends_once_taken : (d count : ℕ) (schedule : List ℕ) (k hart : ℕ) (p : DomainPart) (t : Turn) (e : ℕ) (old : Domain)
    (v : Violation) (over : Bool) → old.control.ended ≡ over → is_some t.violation ≡ true →
    slice_get t.joint.domains e ≡ Some old → StepAlone d count schedule k hart p None t →
    StepTaken d count schedule k hart p (ends_once over e old v t)
unfolding ends_once
ends_once_taken d count schedule k hart p t e old v true over some found step =
    refused d count schedule k hart p t some step
ends_once_taken d count schedule k hart p t e old v false over some found step =
    let o = step.opens some in
    elim (decided d e) [
      | inl same ↦
          let found' : slice_get t.joint.domains d ≡ Some old = ap (slice_get t.joint.domains) same ∙ found in
          let it : old ≡ step.part.domain = same_Some old step.part.domain (sym found' ∙ step.has.domain) in
          subst (λ (x : ℕ). StepTaken d count schedule k hart p (end_domain x old v t)) same
          (end_own d count schedule k hart p None t old v found' step o.steps (Other o.hart) o.is
          (other_takes d step.part.domain.control.ended o.hart (alone_at step.part o.steps (Other o.hart))
          (ap (λ (x : Domain). x.control.ended) (sym it) ∙ over)))
      | inr other ↦ end_elsewhere d count schedule k hart p None t e old v other found step o
    ]

resumed_taken : (d count : ℕ) (schedule : List ℕ) (k hart : ℕ) (p : DomainPart) (t : Turn) (e : ℕ)
    (v : Violation) (found : Option Domain) → slice_get t.joint.domains e ≡ found → is_some t.violation ≡ true →
    StepAlone d count schedule k hart p None t → StepTaken d count schedule k hart p (ends_resumed found e v t)
unfolding ends_resumed
resumed_taken d count schedule k hart p t e v None is some step = refused d count schedule k hart p t some step
resumed_taken d count schedule k hart p t e v (Some old) is some step =
    ends_once_taken d count schedule k hart p t e old v old.control.ended refl some is step

asked_taken : (d count : ℕ) (schedule : List ℕ) (k hart : ℕ) (p : DomainPart) (t : Turn) (ctx : ℕ)
    (v : Violation) (found : Option Domain) → slice_get t.joint.domains (domain_of ctx) ≡ found →
    is_some t.violation ≡ true → StepAlone d count schedule k hart p (Some ctx) t →
    StepTaken d count schedule k hart p (ends_asked found (domain_of ctx) v t)
unfolding ends_asked
asked_taken d count schedule k hart p t ctx v None is some step = elim (step.opens some) [
  | inl there ↦
      record {
        part = step.part;
        has = step.has;
        rests = subst (λ (s : DomainAlone). RestsAt (ended s) step.part (is_some (stop_of t))) (sym there.1.is)
            (other_rests step.part there.1.steps there.1.hart _);
        order = step.order;
        told = step.told;
      }
  | inr own ↦
      let clash : Some step.part.domain ≡ None = sym step.has.domain ∙ ap (slice_get t.joint.domains) own.0 ∙ is in
      absurd cc
]
asked_taken d count schedule k hart p t ctx v (Some old) is some step = elim (step.opens some) [
  | inl there ↦ end_elsewhere d count schedule k hart p (Some ctx) t (domain_of ctx) old v there.0 is step there.1
  | inr own ↦
      let found : slice_get t.joint.domains d ≡ Some old = ap (slice_get t.joint.domains) own.0 ∙ is in
      subst (λ (x : ℕ). StepTaken d count schedule k hart p (end_domain x old v t)) own.0
      (end_own d count schedule k hart p (Some ctx) t old v found step own.1.steps Stopped own.1.is
      (stopped_takes d step.part.domain.control.ended (alone_at step.part own.1.steps Stopped)))
]

answers_taken : (d count : ℕ) (schedule : List ℕ) (k hart : ℕ) (p : DomainPart) (inside : Option ℕ) (t : Turn)
    (o : Option Violation) → t.violation ≡ o → StepAlone d count schedule k hart p inside t →
    StepTaken d count schedule k hart p (answers_violation inside o t)
unfolding answers_violation
answers_taken d count schedule k hart p inside t None is step = no_violation d count schedule k hart p inside t is step
answers_taken d count schedule k hart p None t (Some v) is step =
    resumed_taken d count schedule k hart p t (domain_met v) v _ refl (ap is_some is) step
answers_taken d count schedule k hart p (Some ctx) t (Some v) is step =
    asked_taken d count schedule k hart p t ctx v _ refl (ap is_some is) step

-- a step of any hart
pub step_taken : (d count : ℕ) (schedule : List ℕ) (k n : ℕ) (p : DomainPart) (j : Joint) →
    InOrder count j.harts j.domains → HoldsPart d j p → n < length j.harts →
    let h = hart_in j n in
    let t = turn_of j n h h.inside in StepTaken d count schedule k n p (answers_violation h.inside t.violation t)
step_taken d count schedule k n p j order has within =
    let h = hart_in j n in
    let t = turn_of j n h h.inside in
    answers_taken d count schedule k n p h.inside t t.violation refl (turn_alone d count schedule k n p j order has within)
