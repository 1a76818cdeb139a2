-- What the calls of a program that runs alone make of the states that it stands for.
use Rattle.std.proofs.Common.{◌≡◌, ◌≢◌, ◌∙◌, ◌<◌, ◌/◌, ◌%◌, ℕ, Bool, true, false, cond, eq-eqb, ne_eqb, List, [], ◌∷◌, ◌++◌, length, Option, Some, None, Result, Ok, Err, refl, ap, sym, subst, arith}
use Rattle.std.specs.Prelude.{is_some}
use Rattle.cloak_model.specs.declared.answer.Answer.{Answer}
use Rattle.cloak_model.specs.declared.context.ResumeFault.{ResumeFault}
use Rattle.cloak_model.specs.Items.{Item, item_of}
use Rattle.cloak_model.specs.declared.item.Item as code
use Rattle.cloak_model.specs.declared.item.Item.TheVariants as made
use Rattle.cloak_model.specs.Contexts.{Context, context_at}
use Rattle.cloak_model.specs.DomainState.{Control}
use Rattle.cloak_model.specs.DomainStep.{interrupt, interrupt_if, resume_slot}
use Rattle.cloak_model.specs.Ending.{ended_domain}
use Rattle.cloak_model.specs.Parts.{DomainPart}
use Rattle.cloak_model.specs.DomainAlone as model
use Rattle.cloak_model.specs.DomainAlone.{Tried, Over, Wants, Wrong, domain_unfit, made_by, answered_by, is_stopped, is_granted, take_answer, take_timer, take_resume, take_ended, domain_gone, ended_part, resumed_by, domain_step_ended, domain_step_begun, take_domain_step, stage_for, slot_on, try_with, with_control, domain_takes, take_domain_item}
use Rattle.hypercalls.specs.declared.domain.Domain.{Domain}
use Rattle.hypercalls.specs.Standing.{StandsFor, ResumesAs, control_of}
use Rattle.alone_views.specs.declared.domain.DomainAlone.{DomainAlone}
use Rattle.alone_views.specs.declared.domain.DomainStage.{DomainStage}
use Rattle.alone_views.specs.declared.domain.DomainStage.TheVariants as stage
use Rattle.alone_views.specs.declared.side.HandedSide.{HandedSide}
use Rattle.alone_views.specs.declared.side.Handing.{Handing}
use Rattle.alone_views.specs.declared.side.Handing.TheVariants as handing
use Rattle.alone_views.specs.declared.unfit.Unfit.{Unfit}
use Rattle.alone_views.specs.DomainPages.{HasPlain, ended_plain}
use Rattle.alone_views.specs.Side.{answers_in, one_answer}
use Rattle.alone_views.specs.DomainStanding.{StandsForPart, StandsWhileFit, StandsForState, StandsForDomain, IsTried, TakesAs, TakesDomainItem, KeepsSetting, answer_by, hart_at, timer_taken, number_in, stage_told, schedule_in, step_of, then_begun}
use Rattle.alone_views.proofs.DomainSlots.{slots_interrupt, slots_resume}

-- While no item was unfit.

pub stands_fit : (machine : DomainAlone) (s : model.DomainAlone) → StandsWhileFit machine s → StandsForState machine s
stands_fit machine s stands = record {
  unfit = ap step_of stands.unfit ∙ sym stands.fit;
  while_fit = λ fit. stands;
}

-- the part of a machine is that of another with the same program and side
pub part_of_same : (machine other : DomainAlone) (p : DomainPart) → other.domain ≡ machine.domain → other.side ≡ machine.side → StandsForPart machine p → StandsForPart other p
part_of_same machine other p domain side stands = record {
  domain = subst (λ (d : Domain). StandsFor d p.domain) (sym domain) stands.domain;
  pages = subst (λ (x : HandedSide). HasPlain x.pages p.plain) (sym side) stands.pages;
  slots = stands.slots;
}

-- the machine has this part and stage, and the rest is as it was
pub stands_at : (machine : DomainAlone) (s : model.DomainAlone) (p : DomainPart) (q : model.DomainStage) → s.unfit ≡ None → machine.unfit ≡ None → machine.steps ≡ s.steps →
    StandsForPart machine p → q ≡ stage_told (hart_at (schedule_in machine) machine.steps) machine.stage → StandsForState machine (record s { part = p; stage = q })
stands_at machine s p q fit unfit steps part at = record {
  unfit = ap step_of unfit ∙ sym fit;
  while_fit = λ none. record { fit = fit; unfit = unfit; part = part; steps = steps; stage = at };
}

-- An item was unfit.

pub stands_unfit : (machine : DomainAlone) (s : model.DomainAlone) (n : ℕ) → machine.unfit ≡ Some (record { step = n }) → n ≡ s.steps → StandsForState machine (domain_unfit s)
stands_unfit machine s n is steps = record {
  unfit = ap step_of is ∙ ap (λ (k : ℕ). Some k) steps;
  while_fit = λ none. cc;
}

-- What was tried.

pub over_made : (mid machine : DomainAlone) (answers : List Answer) (s : model.DomainAlone) (t : Tried) → IsTried mid handing.Over answers s t →
    s.unfit ≡ None → machine.unfit ≡ None → machine.steps ≡ s.steps → machine.domain ≡ mid.domain → machine.side ≡ mid.side → machine.stage ≡ stage.Between →
    StandsForState machine (made_by t s)
unfolding made_by
over_made mid machine answers s (Over p) tried fit unfit steps domain side at =
    stands_at machine s p model.Between fit unfit steps (part_of_same mid machine p domain side tried)
    (sym (ap (λ (q : DomainStage). stage_told (hart_at (schedule_in machine) machine.steps) q) at))
over_made mid machine answers s _ tried fit unfit steps domain side at = absurd tried

pub other_made : (mid machine : DomainAlone) (given : Handing) (answers : List Answer) (s : model.DomainAlone) (t : Tried) (n : ℕ) → IsTried mid given answers s t → given ≢ handing.Over →
    machine.unfit ≡ Some (record { step = n }) → n ≡ s.steps → StandsForState machine (made_by t s)
unfolding made_by
other_made mid machine handing.Over answers s t n tried other is steps = absurd (other refl)
other_made mid machine handing.Wants answers s (Over p) n tried other is steps = absurd tried
other_made mid machine handing.Wants answers s Wants n tried other is steps = stands_unfit machine s n is steps
other_made mid machine handing.Wants answers s Wrong n tried other is steps = absurd tried
other_made mid machine handing.Wrong answers s (Over p) n tried other is steps = absurd tried
other_made mid machine handing.Wrong answers s Wants n tried other is steps = absurd tried
other_made mid machine handing.Wrong answers s Wrong n tried other is steps = stands_unfit machine s n is steps

-- where the items stand after the last answer
stage_after : (b : Bool) (hart : ℕ) → cond b model.Stopped model.Done ≡ stage_told hart (cond b stage.Stopped stage.Done)
stage_after true hart = refl
stage_after false hart = refl

pub over_answered : (mid machine : DomainAlone) (slot : ℕ) (so_far : List Answer) (a : Answer) (answers : List Answer) (s : model.DomainAlone) (t : Tried) → IsTried mid handing.Over answers s t →
    s.unfit ≡ None → machine.unfit ≡ None → machine.steps ≡ s.steps → machine.domain ≡ mid.domain → machine.side ≡ mid.side →
    machine.stage ≡ cond (is_stopped a) stage.Stopped stage.Done → StandsForState machine (answered_by slot so_far a t s)
unfolding answered_by
over_answered mid machine slot so_far a answers s (Over p) tried fit unfit steps domain side at =
    stands_at machine s p (cond (is_stopped a) model.Stopped model.Done) fit unfit steps (part_of_same mid machine p domain side tried)
    (stage_after (is_stopped a) _ ∙ sym (ap (λ (q : DomainStage). stage_told (hart_at (schedule_in machine) machine.steps) q) at))
over_answered mid machine slot so_far a answers s _ tried fit unfit steps domain side at = absurd tried

-- fewer than two answers are one
one_of : (first : Answer) (second : Option Answer) → length (answers_in (Some first) second) < 2 → answers_in (Some first) second ≡ one_answer (Some first)
one_of first None few = refl
one_of first (Some a) few = absurd (omega (arith, few))

pub wants_answered : (mid machine : DomainAlone) (slot : ℕ) (so_far : List Answer) (a first : Answer) (second : Option Answer) (s : model.DomainAlone) (t : Tried) →
    answers_in (Some first) second ≡ so_far ++ a ∷ [] → IsTried mid handing.Wants (answers_in (Some first) second) s t →
    s.unfit ≡ None → machine.unfit ≡ None → machine.steps ≡ s.steps → machine.domain ≡ mid.domain → machine.side ≡ mid.side →
    machine.stage ≡ stage.Running slot (Some first) → StandsForState machine (answered_by slot so_far a t s)
unfolding answered_by
wants_answered mid machine slot so_far a first second s (Over p) are tried fit unfit steps domain side at = absurd tried
wants_answered mid machine slot so_far a first second s Wants are tried fit unfit steps domain side at =
    stands_at machine s s.part (model.Running slot (so_far ++ a ∷ [])) fit unfit steps (part_of_same mid machine s.part domain side tried.0)
    (ap (λ (l : List Answer). model.Running slot l) (sym are ∙ one_of first second tried.1)
    ∙ sym (ap (λ (q : DomainStage). stage_told (hart_at (schedule_in machine) machine.steps) q) at))
wants_answered mid machine slot so_far a first second s Wrong are tried fit unfit steps domain side at = absurd tried

pub wrong_answered : (mid machine : DomainAlone) (slot : ℕ) (so_far : List Answer) (a : Answer) (answers : List Answer) (s : model.DomainAlone) (t : Tried) (n : ℕ) → IsTried mid handing.Wrong answers s t →
    machine.unfit ≡ Some (record { step = n }) → n ≡ s.steps → StandsForState machine (answered_by slot so_far a t s)
unfolding answered_by
wrong_answered mid machine slot so_far a answers s Wrong n tried is steps = stands_unfit machine s n is steps
wrong_answered mid machine slot so_far a answers s _ n tried is steps = absurd tried

-- The same for answers, and for a hart, that are equal.

pub made_with : (machine : DomainAlone) (slot : ℕ) (s : model.DomainAlone) (l all : List Answer) → l ≡ all →
    StandsForState machine (made_by (try_with slot l s.part) s) → StandsForState machine (made_by (try_with slot all s.part) s)
made_with machine slot s l all same made = subst (λ (x : List Answer). StandsForState machine (made_by (try_with slot x s.part) s)) same made

pub answered_with : (machine : DomainAlone) (slot : ℕ) (so_far : List Answer) (a : Answer) (s : model.DomainAlone) (l all : List Answer) → l ≡ all →
    StandsForState machine (answered_by slot so_far a (try_with slot l s.part) s) → StandsForState machine (answered_by slot so_far a (try_with slot all s.part) s)
answered_with machine slot so_far a s l all same made = subst (λ (x : List Answer). StandsForState machine (answered_by slot so_far a (try_with slot x s.part) s)) same made

pub resumed_with : (machine : DomainAlone) (slot reply : ℕ) (s : model.DomainAlone) (hart here : ℕ) → hart ≡ here →
    StandsForState machine (resumed_by (resume_slot slot hart reply s.part.domain.control) s) → StandsForState machine (resumed_by (resume_slot slot here reply s.part.domain.control) s)
resumed_with machine slot reply s hart here same made = subst (λ (h : ℕ). StandsForState machine (resumed_by (resume_slot slot h reply s.part.domain.control) s)) same made

-- Where the items stand.

at_stage : (old machine : DomainAlone) (s : model.DomainAlone) (q : DomainStage) (told : model.DomainStage → model.DomainAlone) → StandsWhileFit old s → old.stage ≡ q →
    StandsForState machine (told (stage_told (hart_at (schedule_in old) old.steps) q)) → StandsForState machine (told s.stage)
at_stage old machine s q told stands is there =
    subst (λ (p : model.DomainStage). StandsForState machine (told p)) (sym (stands.stage ∙ ap (λ (x : DomainStage). stage_told (hart_at (schedule_in old) old.steps) x) is)) there

-- The end of a step.

pub running_ended : (old machine : DomainAlone) (s : model.DomainAlone) (slot : ℕ) (answer : Option Answer) → StandsWhileFit old s → old.stage ≡ stage.Running slot answer →
    StandsForState machine (made_by (try_with slot (one_answer answer) s.part) s) → StandsForState machine (domain_step_ended s.stage s)
unfolding domain_step_ended
running_ended old machine s slot answer stands is there = at_stage old machine s (stage.Running slot answer) (λ p. domain_step_ended p s) stands is there

pub stopped_ended : (old : DomainAlone) (s : model.DomainAlone) → StandsWhileFit old s → old.stage ≡ stage.Stopped → StandsForState old (domain_step_ended s.stage s)
unfolding domain_step_ended
stopped_ended old s stands is = at_stage old old s stage.Stopped (λ p. domain_step_ended p s) stands is (stands_fit old s stands)

-- the machine stands between steps, and the rest is as it was
moved_between : (old machine : DomainAlone) (s : model.DomainAlone) → StandsWhileFit old s →
    machine.domain ≡ old.domain → machine.side ≡ old.side → machine.steps ≡ old.steps → machine.unfit ≡ old.unfit → machine.stage ≡ stage.Between →
    StandsForState machine (record s { stage = model.Between })
moved_between old machine s stands domain side steps unfit at =
    stands_at machine s s.part model.Between stands.fit (unfit ∙ stands.unfit) (steps ∙ stands.steps) (part_of_same old machine s.part domain side stands.part)
    (sym (ap (λ (q : DomainStage). stage_told (hart_at (schedule_in machine) machine.steps) q) at))

stays_between : (s : model.DomainAlone) → s.stage ≡ model.Between → record s { stage = model.Between } ≡ s
stays_between s is = ap (λ (q : model.DomainStage). record s { stage = q }) (sym is)

ended_at : (old machine : DomainAlone) (s : model.DomainAlone) (q : DomainStage) → old.stage ≡ q → ((slot : ℕ) (answer : Option Answer) → q ≡ stage.Running slot answer → ⊥) → (q ≡ stage.Stopped → ⊥) → StandsWhileFit old s →
    StandsForState machine (record s { stage = model.Between }) → StandsForState machine (domain_step_ended (stage_told (hart_at (schedule_in old) old.steps) q) s)
unfolding domain_step_ended
ended_at old machine s stage.Between is no_run no_stop stands there =
    subst (λ (x : model.DomainAlone). StandsForState machine x)
    (stays_between s (stands.stage ∙ ap (λ (x : DomainStage). stage_told (hart_at (schedule_in old) old.steps) x) is)) there
ended_at old machine s stage.Other is no_run no_stop stands there = there
ended_at old machine s (stage.Running slot answer) is no_run no_stop stands there = absurd (no_run slot answer refl)
ended_at old machine s stage.Done is no_run no_stop stands there = there
ended_at old machine s stage.Stopped is no_run no_stop stands there = absurd (no_stop refl)

pub elsewhere_ended : (old machine : DomainAlone) (s : model.DomainAlone) → ((slot : ℕ) (answer : Option Answer) → old.stage ≡ stage.Running slot answer → ⊥) → (old.stage ≡ stage.Stopped → ⊥) → StandsWhileFit old s →
    machine.domain ≡ old.domain → machine.side ≡ old.side → machine.steps ≡ old.steps → machine.unfit ≡ old.unfit → machine.stage ≡ stage.Between →
    StandsForState machine (domain_step_ended s.stage s)
elsewhere_ended old machine s no_run no_stop stands domain side steps unfit at =
    at_stage old machine s old.stage (λ p. domain_step_ended p s) stands refl
    (ended_at old machine s old.stage refl no_run no_stop stands (moved_between old machine s stands domain side steps unfit at))

-- The next step.

pub then_begins : (mid machine : DomainAlone) (schedule : List ℕ) (number : ℕ) (s : model.DomainAlone) → mid.unfit ≡ None → StandsForState mid s → schedule_in mid ≡ schedule →
    TakesAs mid machine (domain_step_begun (schedule_in mid) number) → StandsForState machine (then_begun schedule number s)
then_begins mid machine schedule number s unfit stands same takes =
    let fit : s.unfit ≡ None = sym stands.unfit ∙ ap step_of unfit in
    subst (λ (b : Bool). StandsForState machine (cond b s (domain_step_begun schedule number s))) (sym (ap (λ (o : Option ℕ). is_some o) fit))
    (subst (λ (x : List ℕ). StandsForState machine (domain_step_begun x number s)) same (takes s (stands.while_fit fit)))

pub then_stays : (mid : DomainAlone) (schedule : List ℕ) (number : ℕ) (s : model.DomainAlone) (u : Unfit) → mid.unfit ≡ Some u → StandsForState mid s → StandsForState mid (then_begun schedule number s)
then_stays mid schedule number s u unfit stands =
    subst (λ (b : Bool). StandsForState mid (cond b s (domain_step_begun schedule number s)))
    (sym (ap (λ (o : Option ℕ). is_some o) (sym stands.unfit ∙ ap step_of unfit))) stands

pub stopped_step : (old machine : DomainAlone) (schedule : List ℕ) (number : ℕ) (s : model.DomainAlone) → StandsWhileFit old s → old.stage ≡ stage.Stopped →
    machine.unfit ≡ Some (record { step = old.steps }) → StandsForState machine (take_domain_step schedule number s.stage s)
unfolding take_domain_step
stopped_step old machine schedule number s stands is unfit =
    at_stage old machine s stage.Stopped (λ p. take_domain_step schedule number p s) stands is (stands_unfit machine s old.steps unfit stands.steps)

step_at : (machine : DomainAlone) (schedule : List ℕ) (number hart : ℕ) (s : model.DomainAlone) (q : DomainStage) → (q ≡ stage.Stopped → ⊥) →
    StandsForState machine (then_begun schedule number (domain_step_ended (stage_told hart q) s)) → StandsForState machine (take_domain_step schedule number (stage_told hart q) s)
unfolding take_domain_step
step_at machine schedule number hart s stage.Stopped never there = absurd (never refl)
step_at machine schedule number hart s _ never there = there

pub next_step : (old machine : DomainAlone) (schedule : List ℕ) (number : ℕ) (s : model.DomainAlone) → StandsWhileFit old s → (old.stage ≡ stage.Stopped → ⊥) →
    StandsForState machine (then_begun schedule number (domain_step_ended s.stage s)) → StandsForState machine (take_domain_step schedule number s.stage s)
next_step old machine schedule number s stands never there =
    at_stage old machine s old.stage (λ p. take_domain_step schedule number p s) stands refl
    (step_at machine schedule number (hart_at (schedule_in old) old.steps) s old.stage never
    (subst (λ (p : model.DomainStage). StandsForState machine (then_begun schedule number (domain_step_ended p s))) stands.stage there))

pub begins : (old machine : DomainAlone) (s : model.DomainAlone) (number hart : ℕ) (on : Option ℕ) → StandsWhileFit old s → hart ≡ hart_at (schedule_in old) number →
    (length (control_of old.domain).contexts ≡ 8 → on ≡ slot_on hart 0 (control_of old.domain).contexts) →
    machine.domain ≡ old.domain → machine.side ≡ old.side → schedule_in machine ≡ schedule_in old → machine.steps ≡ number → machine.unfit ≡ old.unfit →
    ((h : ℕ) → stage_for h on ≡ stage_told h machine.stage) → StandsForState machine (domain_step_begun (schedule_in old) number s)
unfolding domain_step_begun
begins old machine s number hart on stands turn found domain side schedule steps unfit at =
    let control = stands.part.domain.control in
    let here = hart_at (schedule_in old) number in
    let eight : length (control_of old.domain).contexts ≡ 8 = ap (λ (k : Control). length k.contexts) (sym control) ∙ stands.part.slots in
    let there : slot_on here 0 s.part.domain.control.contexts ≡ on =
    ap (λ (k : Control). slot_on here 0 k.contexts) control ∙ (ap (λ (h : ℕ). slot_on h 0 (control_of old.domain).contexts) (sym turn) ∙ sym (found eight)) in
    let now : hart_at (schedule_in machine) machine.steps ≡ here =
    ap (λ (l : List ℕ). hart_at l machine.steps) schedule ∙ ap (λ (n : ℕ). hart_at (schedule_in old) n) steps in
    record {
      unfit = ap step_of (unfit ∙ stands.unfit) ∙ sym stands.fit;
      while_fit = λ none. record {
        fit = stands.fit;
        unfit = unfit ∙ stands.unfit;
        part = part_of_same old machine s.part domain side stands.part;
        steps = steps;
        stage = ap (λ (o : Option ℕ). stage_for here o) there ∙ (at here ∙ ap (λ (h : ℕ). stage_told h machine.stage) (sym now));
      };
    }

-- An answer.

pub answer_running : (old machine : DomainAlone) (s : model.DomainAlone) (slot : ℕ) (answer : Option Answer) (a : Answer) → StandsWhileFit old s → old.stage ≡ stage.Running slot answer →
    StandsForState machine (answered_by slot (one_answer answer) a (try_with slot (one_answer answer ++ a ∷ []) s.part) s) → StandsForState machine (take_answer s.stage a s)
unfolding take_answer
answer_running old machine s slot answer a stands is there = at_stage old machine s (stage.Running slot answer) (λ p. take_answer p a s) stands is there

answer_at : (q : DomainStage) (hart : ℕ) (a : Answer) (s : model.DomainAlone) → ((slot : ℕ) (answer : Option Answer) → q ≡ stage.Running slot answer → ⊥) → take_answer (stage_told hart q) a s ≡ domain_unfit s
unfolding take_answer
answer_at (stage.Running slot answer) hart a s never = absurd (never slot answer refl)
answer_at _ hart a s never = refl

pub answer_elsewhere : (old machine : DomainAlone) (s : model.DomainAlone) (a : Answer) → StandsWhileFit old s → ((slot : ℕ) (answer : Option Answer) → old.stage ≡ stage.Running slot answer → ⊥) →
    machine.unfit ≡ Some (record { step = old.steps }) → StandsForState machine (take_answer s.stage a s)
answer_elsewhere old machine s a stands never unfit =
    at_stage old machine s old.stage (λ p. take_answer p a s) stands refl
    (subst (λ (x : model.DomainAlone). StandsForState machine x) (sym (answer_at old.stage _ a s never)) (stands_unfit machine s old.steps unfit stands.steps))

-- The timer.

pub timer_running : (old machine : DomainAlone) (s : model.DomainAlone) (slot : ℕ) → StandsWhileFit old s → old.stage ≡ stage.Running slot None → StandsForState machine (timer_taken slot s) →
    StandsForState machine (take_timer s.stage s)
unfolding take_timer
timer_running old machine s slot stands is there = at_stage old machine s (stage.Running slot None) (λ p. take_timer p s) stands is there

pub timer_answered : (old machine : DomainAlone) (s : model.DomainAlone) (slot : ℕ) (answer : Option Answer) → StandsWhileFit old s → old.stage ≡ stage.Running slot answer → (answer ≡ None → ⊥) →
    machine.unfit ≡ Some (record { step = old.steps }) → StandsForState machine (take_timer s.stage s)
unfolding take_timer
timer_answered old machine s slot None stands is never unfit = absurd (never refl)
timer_answered old machine s slot (Some a) stands is never unfit =
    at_stage old machine s (stage.Running slot (Some a)) (λ p. take_timer p s) stands is (stands_unfit machine s old.steps unfit stands.steps)

timer_at : (q : DomainStage) (hart : ℕ) (s : model.DomainAlone) → ((slot : ℕ) (answer : Option Answer) → q ≡ stage.Running slot answer → ⊥) → take_timer (stage_told hart q) s ≡ domain_unfit s
unfolding take_timer
timer_at (stage.Running slot answer) hart s never = absurd (never slot answer refl)
timer_at _ hart s never = refl

pub timer_elsewhere : (old machine : DomainAlone) (s : model.DomainAlone) → StandsWhileFit old s → ((slot : ℕ) (answer : Option Answer) → old.stage ≡ stage.Running slot answer → ⊥) →
    machine.unfit ≡ Some (record { step = old.steps }) → StandsForState machine (take_timer s.stage s)
timer_elsewhere old machine s stands never unfit =
    at_stage old machine s old.stage (λ p. take_timer p s) stands refl
    (subst (λ (x : model.DomainAlone). StandsForState machine x) (sym (timer_at old.stage _ s never)) (stands_unfit machine s old.steps unfit stands.steps))

pub interrupts : (old machine : DomainAlone) (s : model.DomainAlone) (slot : ℕ) → StandsWhileFit old s → StandsFor machine.domain (record s.part.domain { control = (interrupt slot s.part.domain.control).control }) →
    machine.side ≡ old.side → machine.steps ≡ old.steps → machine.unfit ≡ old.unfit → machine.stage ≡ stage.Done → StandsForState machine (timer_taken slot s)
interrupts old machine s slot stands domain side steps unfit at =
    stands_at machine s (with_control (interrupt slot s.part.domain.control).control s.part) model.Done stands.fit (unfit ∙ stands.unfit) (steps ∙ stands.steps)
    (record {
      domain = domain;
      pages = subst (λ (x : HandedSide). HasPlain x.pages s.part.plain) (sym side) stands.part.pages;
      slots = slots_interrupt slot s.part.domain.control ∙ stands.part.slots;
    })
    (sym (ap (λ (q : DomainStage). stage_told (hart_at (schedule_in machine) machine.steps) q) at))

interrupt_free : (slot : ℕ) (d : Control) → context_at d.contexts slot ≡ None → (interrupt slot d).control ≡ d
unfolding interrupt interrupt_if
interrupt_free slot d free = ap (λ (o : Option Context). (interrupt_if o slot d).control) free

pub interrupts_free : (old machine : DomainAlone) (s : model.DomainAlone) (slot : ℕ) → StandsWhileFit old s → context_at s.part.domain.control.contexts slot ≡ None → machine.domain ≡ old.domain →
    machine.side ≡ old.side → machine.steps ≡ old.steps → machine.unfit ≡ old.unfit → machine.stage ≡ stage.Done → StandsForState machine (timer_taken slot s)
interrupts_free old machine s slot stands free domain side steps unfit at =
    interrupts old machine s slot stands
    (subst (λ (k : Control). StandsFor machine.domain (record s.part.domain { control = k })) (sym (interrupt_free slot s.part.domain.control free))
    (subst (λ (d : Domain). StandsFor d s.part.domain) (sym domain) stands.part.domain)) side steps unfit at

-- A resuming.

pub resume_own : (old machine : DomainAlone) (s : model.DomainAlone) (d ctx reply : ℕ) → StandsWhileFit old s → old.stage ≡ stage.Other → ctx / 8 ≡ d →
    StandsForState machine (resumed_by (resume_slot (ctx % 8) (hart_at (schedule_in old) old.steps) reply s.part.domain.control) s) → StandsForState machine (take_resume d s.stage ctx reply s)
unfolding take_resume
resume_own old machine s d ctx reply stands is own there =
    let hart = hart_at (schedule_in old) old.steps in
    at_stage old machine s stage.Other (λ p. take_resume d p ctx reply s) stands is
    (subst (λ (b : Bool). StandsForState machine (cond b (resumed_by (resume_slot (ctx % 8) hart reply s.part.domain.control) s) (domain_unfit s))) (sym (eq-eqb (ctx / 8) d own)) there)

pub resume_foreign : (old machine : DomainAlone) (s : model.DomainAlone) (d ctx reply : ℕ) → StandsWhileFit old s → old.stage ≡ stage.Other → ctx / 8 ≢ d →
    machine.unfit ≡ Some (record { step = old.steps }) → StandsForState machine (take_resume d s.stage ctx reply s)
unfolding take_resume
resume_foreign old machine s d ctx reply stands is other unfit =
    let hart = hart_at (schedule_in old) old.steps in
    at_stage old machine s stage.Other (λ p. take_resume d p ctx reply s) stands is
    (subst (λ (b : Bool). StandsForState machine (cond b (resumed_by (resume_slot (ctx % 8) hart reply s.part.domain.control) s) (domain_unfit s))) (sym (ne_eqb (ctx / 8) d other))
    (stands_unfit machine s old.steps unfit stands.steps))

resume_at : (q : DomainStage) (hart d ctx reply : ℕ) (s : model.DomainAlone) → (q ≡ stage.Other → ⊥) → take_resume d (stage_told hart q) ctx reply s ≡ domain_unfit s
unfolding take_resume
resume_at stage.Other hart d ctx reply s never = absurd (never refl)
resume_at _ hart d ctx reply s never = refl

pub resume_elsewhere : (old machine : DomainAlone) (s : model.DomainAlone) (d ctx reply : ℕ) → StandsWhileFit old s → (old.stage ≡ stage.Other → ⊥) →
    machine.unfit ≡ Some (record { step = old.steps }) → StandsForState machine (take_resume d s.stage ctx reply s)
resume_elsewhere old machine s d ctx reply stands never unfit =
    at_stage old machine s old.stage (λ p. take_resume d p ctx reply s) stands refl
    (subst (λ (x : model.DomainAlone). StandsForState machine x) (sym (resume_at old.stage _ d ctx reply s never)) (stands_unfit machine s old.steps unfit stands.steps))

pub resumes : (old machine : DomainAlone) (s : model.DomainAlone) (slot hart reply : ℕ) → StandsWhileFit old s →
    ResumesAs machine.domain s.part.domain (Ok tt) (resume_slot slot hart reply s.part.domain.control) →
    machine.side ≡ old.side → machine.steps ≡ old.steps → machine.unfit ≡ old.unfit → machine.stage ≡ stage.Done →
    StandsForState machine (resumed_by (resume_slot slot hart reply s.part.domain.control) s)
unfolding resumed_by
resumes old machine s slot hart reply stands told side steps unfit at =
    let r = resume_slot slot hart reply s.part.domain.control in
    subst (λ (a : Result (Unit {0}) ResumeFault). StandsForState machine (cond (is_granted a) (record s { part = with_control r.control s.part; stage = model.Done }) (domain_unfit s))) told.answer
    (stands_at machine s (with_control r.control s.part) model.Done stands.fit (unfit ∙ stands.unfit) (steps ∙ stands.steps)
    (record {
      domain = told.domain_stands;
      pages = subst (λ (x : HandedSide). HasPlain x.pages s.part.plain) (sym side) stands.part.pages;
      slots = slots_resume slot hart reply s.part.domain.control ∙ stands.part.slots;
    })
    (sym (ap (λ (q : DomainStage). stage_told (hart_at (schedule_in machine) machine.steps) q) at)))

pub resumes_not : (machine : DomainAlone) (domain : Domain) (s : model.DomainAlone) (slot hart reply n : ℕ) (f : ResumeFault) →
    ResumesAs domain s.part.domain (Err f) (resume_slot slot hart reply s.part.domain.control) →
    machine.unfit ≡ Some (record { step = n }) → n ≡ s.steps → StandsForState machine (resumed_by (resume_slot slot hart reply s.part.domain.control) s)
unfolding resumed_by
resumes_not machine domain s slot hart reply n f told unfit steps =
    let r = resume_slot slot hart reply s.part.domain.control in
    subst (λ (a : Result (Unit {0}) ResumeFault). StandsForState machine (cond (is_granted a) (record s { part = with_control r.control s.part; stage = model.Done }) (domain_unfit s))) told.answer
    (stands_unfit machine s n unfit steps)

-- The end of the domain.

other_at : (machine : DomainAlone) (s : model.DomainAlone) (d hart : ℕ) (ended : Bool) → StandsForState machine (cond ended (domain_unfit s) (domain_gone d s)) →
    StandsForState machine (take_ended d ended (model.Other hart) s)
unfolding take_ended
other_at machine s d hart true there = there
other_at machine s d hart false there = there

-- whether it has ended is told by the flag of the program
pub ended_other : (old machine : DomainAlone) (s : model.DomainAlone) (d : ℕ) (ended : Bool) → StandsWhileFit old s → old.stage ≡ stage.Other → ended ≡ (control_of old.domain).ended →
    StandsForState machine (cond ended (domain_unfit s) (domain_gone d s)) → StandsForState machine (take_ended d s.part.domain.control.ended s.stage s)
ended_other old machine s d ended stands is told there =
    let flag = s.part.domain.control.ended in
    at_stage old machine s stage.Other (λ p. take_ended d flag p s) stands is
    (other_at machine s d _ flag
    (subst (λ (b : Bool). StandsForState machine (cond b (domain_unfit s) (domain_gone d s))) (told ∙ sym (ap (λ (k : Control). k.ended) stands.part.domain.control)) there))

stopped_at : (machine : DomainAlone) (s : model.DomainAlone) (d : ℕ) (ended : Bool) → StandsForState machine (domain_gone d s) → StandsForState machine (take_ended d ended model.Stopped s)
unfolding take_ended
stopped_at machine s d true there = there
stopped_at machine s d false there = there

pub ended_stopped : (old machine : DomainAlone) (s : model.DomainAlone) (d : ℕ) (ended : Bool) → StandsWhileFit old s → old.stage ≡ stage.Stopped →
    StandsForState machine (domain_gone d s) → StandsForState machine (take_ended d ended s.stage s)
ended_stopped old machine s d ended stands is there =
    at_stage old machine s stage.Stopped (λ p. take_ended d ended p s) stands is (stopped_at machine s d ended there)

unfit_at : (q : DomainStage) (hart d : ℕ) (ended : Bool) (s : model.DomainAlone) → (q ≡ stage.Other → ⊥) → (q ≡ stage.Stopped → ⊥) → take_ended d ended (stage_told hart q) s ≡ domain_unfit s
unfolding take_ended
unfit_at stage.Between hart d true s no_other no_stop = refl
unfit_at stage.Between hart d false s no_other no_stop = refl
unfit_at stage.Other hart d ended s no_other no_stop = absurd (no_other refl)
unfit_at (stage.Running slot answer) hart d true s no_other no_stop = refl
unfit_at (stage.Running slot answer) hart d false s no_other no_stop = refl
unfit_at stage.Done hart d true s no_other no_stop = refl
unfit_at stage.Done hart d false s no_other no_stop = refl
unfit_at stage.Stopped hart d ended s no_other no_stop = absurd (no_stop refl)

pub ended_elsewhere : (old machine : DomainAlone) (s : model.DomainAlone) (d : ℕ) (ended : Bool) → StandsWhileFit old s → (old.stage ≡ stage.Other → ⊥) → (old.stage ≡ stage.Stopped → ⊥) →
    machine.unfit ≡ Some (record { step = old.steps }) → StandsForState machine (take_ended d ended s.stage s)
ended_elsewhere old machine s d ended stands no_other no_stop unfit =
    at_stage old machine s old.stage (λ p. take_ended d ended p s) stands refl
    (subst (λ (x : model.DomainAlone). StandsForState machine x) (sym (unfit_at old.stage _ d ended s no_other no_stop)) (stands_unfit machine s old.steps unfit stands.steps))

pub goes : (old machine : DomainAlone) (s : model.DomainAlone) (d : ℕ) → StandsWhileFit old s → StandsFor machine.domain (ended_domain s.part.domain) →
    HasPlain machine.side.pages (ended_plain d s.part.plain) → machine.steps ≡ old.steps → machine.unfit ≡ old.unfit → machine.stage ≡ stage.Done →
    StandsForState machine (domain_gone d s)
unfolding ended_domain
goes old machine s d stands domain pages steps unfit at =
    stands_at machine s (ended_part d s.part) model.Done stands.fit (unfit ∙ stands.unfit) (steps ∙ stands.steps)
    (record { domain = domain; pages = pages; slots = refl })
    (sym (ap (λ (q : DomainStage). stage_told (hart_at (schedule_in machine) machine.steps) q) at))

-- An item.

pub takes_as_at : (old machine : DomainAlone) (number : ℕ) (schedule : List ℕ) (i j : Item) → i ≡ j → TakesAs old machine (domain_takes number schedule j) → TakesAs old machine (domain_takes number schedule i)
takes_as_at old machine number schedule i j same takes = subst (λ (x : Item). TakesAs old machine (domain_takes number schedule x)) (sym same) takes

-- an item that is of another half
pub ignored : (machine : DomainAlone) (d : ℕ) (schedule : List ℕ) (i : code.Item) (s : model.DomainAlone) → ((n : ℕ) → i ≡ made.Step n → ⊥) → ((n : ℕ) → i ≡ made.Close n → ⊥) →
    ((n : ℕ) → i ≡ made.Ok n → ⊥) → ((n k : ℕ) → i ≡ made.Absent n k → ⊥) → ((n k : ℕ) → i ≡ made.Word n k → ⊥) → ((n : ℕ) → i ≡ made.Timer n → ⊥) →
    ((n c r : ℕ) → i ≡ made.Resume n c r → ⊥) → ((n : ℕ) → i ≡ made.Stopped n → ⊥) → ((n : ℕ) → i ≡ made.Ended n → ⊥) → StandsForState machine s → StandsForState machine (domain_takes d schedule (item_of i) s)
unfolding domain_takes
ignored machine d schedule (made.Step n) s step close ok absent word timer resume stop over stands = absurd (step n refl)
ignored machine d schedule (made.Close n) s step close ok absent word timer resume stop over stands = absurd (close n refl)
ignored machine d schedule (made.Ok n) s step close ok absent word timer resume stop over stands = absurd (ok n refl)
ignored machine d schedule (made.Absent n k) s step close ok absent word timer resume stop over stands = absurd (absent n k refl)
ignored machine d schedule (made.Word n k) s step close ok absent word timer resume stop over stands = absurd (word n k refl)
ignored machine d schedule (made.Timer n) s step close ok absent word timer resume stop over stands = absurd (timer n refl)
ignored machine d schedule (made.Resume n c r) s step close ok absent word timer resume stop over stands = absurd (resume n c r refl)
ignored machine d schedule (made.Stopped n) s step close ok absent word timer resume stop over stands = absurd (stop n refl)
ignored machine d schedule (made.Ended n) s step close ok absent word timer resume stop over stands = absurd (over n refl)
ignored machine d schedule _ s step close ok absent word timer resume stop over stands = stands

-- The answer of a call.

pub takes_item : (number : ℕ) (schedule : List ℕ) (machine : DomainAlone) (s : model.DomainAlone) (given : Result (Unit {0}) Unfit) → number_in machine ≡ number → schedule_in machine ≡ schedule → StandsForState machine s →
    given ≡ answer_by (step_of machine.unfit) → TakesDomainItem number schedule machine given s
takes_item number schedule machine s given numbered turns stands is = record {
  answer = is ∙ ap answer_by stands.unfit;
  stands = record { numbered = numbered; scheduled = turns; state = stands };
}

pub takes_unfit : (number : ℕ) (schedule : List ℕ) (machine : DomainAlone) (s : model.DomainAlone) (i : Item) (u : Unfit) → machine.unfit ≡ Some u → StandsForDomain number schedule machine s →
    TakesDomainItem number schedule machine (Err u) (take_domain_item number schedule s i)
unfolding take_domain_item
takes_unfit number schedule machine s i u is stands =
    let told : s.unfit ≡ Some u.step = sym stands.state.unfit ∙ ap step_of is in
    subst (λ (b : Bool). TakesDomainItem number schedule machine (Err u) (cond b s (domain_takes number schedule i s))) (sym (ap (λ (o : Option ℕ). is_some o) told))
    (record { answer = sym (ap answer_by told); stands = stands })

pub takes_fit : (number : ℕ) (schedule : List ℕ) (old machine : DomainAlone) (s : model.DomainAlone) (i : Item) (given : Result (Unit {0}) Unfit) → old.unfit ≡ None → StandsForDomain number schedule old s →
    TakesAs old machine (domain_takes (number_in old) (schedule_in old) i) → KeepsSetting old machine → given ≡ answer_by (step_of machine.unfit) →
    TakesDomainItem number schedule machine given (take_domain_item number schedule s i)
unfolding take_domain_item
takes_fit number schedule old machine s i given none stands takes keeps is =
    let fit : s.unfit ≡ None = sym stands.state.unfit ∙ ap step_of none in
    let there : StandsForState machine (domain_takes (number_in old) (schedule_in old) i s) = takes s (stands.state.while_fit fit) in
    let told : StandsForState machine (domain_takes number schedule i s) =
    subst (λ (n : ℕ). StandsForState machine (domain_takes n schedule i s)) stands.numbered
    (subst (λ (l : List ℕ). StandsForState machine (domain_takes (number_in old) l i s)) stands.scheduled there) in
    subst (λ (b : Bool). TakesDomainItem number schedule machine given (cond b s (domain_takes number schedule i s))) (sym (ap (λ (o : Option ℕ). is_some o) fit))
    (takes_item number schedule machine (domain_takes number schedule i s) given (keeps.number ∙ stands.numbered) (keeps.schedule ∙ stands.scheduled) told is)
