-- The program alone: how it takes the items of one step.
use Rattle.std.proofs.lemmas.Bool.{false≢true}
use Rattle.std.proofs.Common.{◌≡◌, ◌∙◌, ◌-◌, ◌%◌, true, false, cond, suc, ℕ, Bool, List, [], ◌∷◌, ◌++◌, None, refl, ap, sym, subst, append_assoc, append-nil, eq-eqb, arith, length, if◌then◌else◌, Option, Some, ◌⊎◌, ◌≢◌}
use Rattle.std.specs.Prelude.{◌==◌, slice_index}
use Rattle.std.specs.List.{list_any}
use Rattle.cloak_model.specs.declared.answer.Answer.{Answer}
use Rattle.cloak_model.specs.declared.answer.Answer.TheVariants as told
use Rattle.cloak_model.specs.Items.{Item}
use Rattle.cloak_model.specs.Items as item
use Rattle.cloak_model.specs.Parts.{DomainPart, domain_pages}
use Rattle.cloak_model.specs.World.{World, plain_of}
use Rattle.cloak_model.specs.Asking.{Told}
use Rattle.cloak_model.specs.AskPages.{answer_item}
use Rattle.cloak_model.specs.Contexts.{domain_of, slot_of}
use Rattle.cloak_model.specs.DomainState.{Domain}
use Rattle.cloak_model.specs.DomainStep.{domain_script, domain_step, DomainStepped, interrupt, resume_slot}
use Rattle.cloak_model.specs.DomainAlone as alone
use Rattle.cloak_model.specs.DomainAlone.{DomainAlone, DomainStage, Between, Other, Running, Done, Stopped, Over, Wants, tried, try_with, handed_of, is_stopped, domain_taken, take_domain_item, domain_takes, take_domain_step, domain_step_ended, domain_step_begun, slot_on, stage_for, take_answer, answered_by, made_by, take_timer, take_resume, resumed_by, is_granted, with_control}
use Rattle.cloak_model.specs.Script.{played}
use Rattle.script_fold.proofs.StepScripts.{step_scripted}
use Rattle.domain_isolation.proofs.Answers.{alone_with, IsServing}
use Rattle.domain_isolation.proofs.Played.{answers_of, answer_items, last_stopped, last_any, played_alone, played_short}
use Rattle.domain_isolation.proofs.Ignoring.{item_taken}

-- the machine alone with this part, at this stage, with no item unfit
abbrev pub alone_at : DomainPart → ℕ → DomainStage → DomainAlone
alone_at p n stage = record { part = p; steps = n; stage = stage; unfit = None }

-- the step that is open has ended
abbrev pub ended : DomainAlone → DomainAlone
ended s = domain_step_ended s.stage s

-- It has this part, and is between two steps, unless the run was stopped.
pub record RestsAt (s : DomainAlone) (p : DomainPart) (stops : Bool) : Type 0 where
  pub steps : ℕ
  pub stage : DomainStage
  pub is : s ≡ alone_at p steps stage
  pub between : stops ≡ false → stage ≡ Between

-- It may take the end of the domain: in a step of another hart, or after what stopped its own.
pub record OtherAt (s : DomainAlone) (p : DomainPart) : Type 0 where
  pub steps : ℕ
  pub hart : ℕ
  pub is : s ≡ alone_at p steps (Other hart)

pub record StoppedAt (s : DomainAlone) (p : DomainPart) : Type 0 where
  pub steps : ℕ
  pub is : s ≡ alone_at p steps Stopped

-- by the context that the hart of the step is inside
abbrev pub Opens : ℕ → Option ℕ → DomainAlone → DomainPart → Type 0
Opens d None s p = OtherAt s p
Opens d (Some ctx) s p = ((d ≢ domain_of ctx) × OtherAt s p) ⊎ ((d ≡ domain_of ctx) × StoppedAt s p)

-- One step follows another.

pub same_number : {A : Type 0} (n : ℕ) (x y : A) → (if n == n then x else y) ≡ x
same_number n x y = ap (λ (b : Bool). cond b x y) (eq-eqb n n refl)

made_fits : (r : alone.Tried) (s : DomainAlone) → (made_by r s).unfit ≡ None → s.unfit ≡ None
unfolding made_by
made_fits (Over p) s fits = fits
made_fits _ s fits = absurd cc

ended_fits : (stage : DomainStage) (s : DomainAlone) → (domain_step_ended stage s).unfit ≡ None → s.unfit ≡ None
unfolding domain_step_ended
ended_fits (Running slot answers) s fits = made_fits (try_with slot answers s.part) s fits
ended_fits _ s fits = fits

step_again : (schedule : List ℕ) (k : ℕ) (stage : DomainStage) (s : DomainAlone) → s.stage ≡ stage →
    (domain_step_ended stage s).stage ≡ Between →
    take_domain_step schedule k stage s ≡ take_domain_step schedule k (domain_step_ended stage s).stage
    (domain_step_ended stage s)
unfolding domain_step_ended take_domain_step
step_again schedule k Between s is rests = ap (λ (stage : DomainStage). take_domain_step schedule k stage s) (sym rests)
step_again schedule k (Running slot answers) s is rests =
    ap (λ (stage : DomainStage). take_domain_step schedule k stage (made_by (try_with slot answers s.part) s))
    (sym rests)
step_again schedule k Stopped s is rests = absurd (let clash : Stopped ≡ Between = sym is ∙ rests in cc)
step_again schedule k _ s is rests = refl

-- a step is read from where the one before it has ended
pub from_ended : (d : ℕ) (schedule : List ℕ) (k : ℕ) (items : List Item) (s : DomainAlone) (p : DomainPart)
    (n : ℕ) → ended s ≡ alone_at p n Between →
    domain_taken d schedule s (item.Step k ∷ items) ≡ domain_taken d schedule (alone_at p n Between)
    (item.Step k ∷ items)
unfolding domain_taken domain_takes
from_ended d schedule k items s p n is =
    let fits : (ended s).unfit ≡ None = ap (λ (t : DomainAlone). t.unfit) is in
    ap (λ (t : DomainAlone). domain_taken d schedule t items)
    (item_taken d schedule s (item.Step k) (ended_fits s.stage s fits)
    ∙ step_again schedule k s.stage s refl (ap (λ (t : DomainAlone). t.stage) is)
    ∙ ap (λ (t : DomainAlone). take_domain_step schedule k t.stage t) is
    ∙ sym (item_taken d schedule (alone_at p n Between) (item.Step k) refl))

-- it begins by the hart whose turn it is
pub begins : (d : ℕ) (schedule : List ℕ) (k : ℕ) (items : List Item) (p : DomainPart) (n : ℕ) →
    let hart = slice_index schedule (k % length schedule) in
    domain_taken d schedule (alone_at p n Between) (item.Step (suc k) ∷ items)
    ≡ domain_taken d schedule (alone_at p (suc k) (stage_for hart (slot_on hart 0 p.domain.control.contexts))) items
unfolding domain_taken take_domain_item domain_takes take_domain_step domain_step_ended domain_step_begun
begins d schedule k items p n =
    let before : suc k - 1 ≡ k = omega arith in
    ap (λ (i : ℕ). let hart = slice_index schedule (i % length schedule) in
    domain_taken d schedule (alone_at p (suc k) (stage_for hart
    (slot_on hart 0 p.domain.control.contexts))) items) before

-- Close ends it
pub closes : (d : ℕ) (schedule : List ℕ) (k : ℕ) (s : DomainAlone) (p : DomainPart) (stops : Bool) →
    RestsAt (ended s) p stops →
    domain_taken d schedule s (item.Close k ∷ []) ≡ ended s
unfolding domain_taken domain_takes
closes d schedule k s p stops rests =
    item_taken d schedule s (item.Close k) (ended_fits s.stage s (ap (λ (t : DomainAlone). t.unfit) rests.is))

-- The steps of other harts.

-- none of its items
pub other_rests : (d : ℕ) (schedule : List ℕ) (p : DomainPart) (k hart : ℕ) (stops : Bool) →
    RestsAt (ended (domain_taken d schedule (alone_at p k (Other hart)) [])) p stops
unfolding domain_taken domain_step_ended
other_rests d schedule p k hart stops = record { steps = k; stage = Between; is = refl; between = λ goes. refl }

-- a context of its own is resumed
pub resume_rests : (d : ℕ) (schedule : List ℕ) (p : DomainPart) (k hart ctx reply : ℕ) (stops : Bool) →
    domain_of ctx ≡ d →
    is_granted (resume_slot (slot_of ctx) hart reply p.domain.control).answer ≡ true →
    RestsAt (ended (domain_taken d schedule (alone_at p k (Other hart)) (item.Resume d ctx reply ∷ [])))
    (with_control (resume_slot (slot_of ctx) hart reply p.domain.control).control p) stops
unfolding domain_taken take_domain_item domain_takes take_resume resumed_by domain_step_ended
resume_rests d schedule p k hart ctx reply stops own granted =
    let s = alone_at p k (Other hart) in
    let r = resume_slot (slot_of ctx) hart reply p.domain.control in
    let after = alone_at (with_control r.control p) k Done in
    let taken : domain_taken d schedule s (item.Resume d ctx reply ∷ []) ≡ after =
    same_number d (take_resume d s.stage ctx reply s) s
    ∙ ap (λ (b : Bool). cond b (resumed_by r s) (alone.domain_unfit s)) (eq-eqb (domain_of ctx) d own)
    ∙ ap (λ (b : Bool). cond b after (alone.domain_unfit s)) granted in
    subst (λ (t : DomainAlone). RestsAt (ended t) (with_control r.control p) stops) (sym taken)
    (record { steps = k; stage = Between; is = refl; between = λ goes. refl })

-- The steps of its own contexts.

-- the timer interrupts it
pub timer_rests : (d : ℕ) (schedule : List ℕ) (p : DomainPart) (k slot : ℕ) (stops : Bool) →
    RestsAt (ended (domain_taken d schedule (alone_at p k (Running slot [])) (item.Timer d ∷ [])))
    (with_control (interrupt slot p.domain.control).control p) stops
unfolding domain_taken take_domain_item domain_takes take_timer domain_step_ended
timer_rests d schedule p k slot stops =
    let s = alone_at p k (Running slot []) in
    subst (λ (t : DomainAlone). RestsAt (ended t) (with_control (interrupt slot p.domain.control).control p) stops)
    (sym (same_number d (take_timer s.stage s) s))
    (record { steps = k; stage = Between; is = refl; between = λ goes. refl })

-- the part of a domain in this world
abbrev pub part_in : Domain → World → DomainPart
part_in d w = record { domain = d; plain = domain_pages d.control.number (plain_of w) }

-- and after a step of it
abbrev pub part_after : ℕ → Domain → World → DomainPart
part_after slot d w =
    let t = played (domain_script slot d) w in
    record { domain = t.answer.domain; plain = domain_pages d.control.number (plain_of t.world) }

-- with all its answers a step is over
tried_all : (slot : ℕ) (d : Domain) (w : World) → IsServing d.control.number w →
    try_with slot (answers_of (domain_script slot d) w) (part_in d w) ≡ Over (part_after slot d w)
unfolding try_with tried domain_step
tried_all slot d w serving =
    let s = domain_script slot d in
    let all = answers_of s w in
    let n = d.control.number in
    ap (λ (t : Told DomainStepped). tried t.answer.domain (handed_of t.world))
    (ap (λ (l : List Answer). played s (alone_with n (plain_of w) l)) (sym (append-nil all))
    ∙ played_alone n s (step_scripted slot d).own w serving [])

-- with a front of them it wants more
tried_front : (slot : ℕ) (d : Domain) (w : World) → IsServing d.control.number w →
    (front : List Answer) (a : Answer) (more : List Answer) →
    front ++ a ∷ more ≡ answers_of (domain_script slot d) w → try_with slot front (part_in d w) ≡ Wants
unfolding try_with tried domain_step
tried_front slot d w serving front a more is =
    let s = domain_script slot d in
    let start = alone_with d.control.number (plain_of w) front in
    let stuck = played_short d.control.number s (step_scripted slot d).own w serving front a more is in
    ap (λ (v : World). tried (played s start).answer.domain (handed_of v)) stuck.1

answer_taken : (n : ℕ) (schedule : List ℕ) (p : DomainPart) (k slot : ℕ) (before : List Answer) (a : Answer) →
    take_domain_item n schedule (alone_at p k (Running slot before)) (answer_item n a)
    ≡ answered_by slot before a (try_with slot (before ++ a ∷ []) p) (alone_at p k (Running slot before))
unfolding take_domain_item domain_takes take_answer
answer_taken n schedule p k slot before told.Ok = same_number n _ _
answer_taken n schedule p k slot before _ = same_number n _ _

over_rests : (p : DomainPart) (k : ℕ) (stopped stops : Bool) → (stopped ≡ true → stops ≡ true) →
    RestsAt (ended (alone_at p k (if stopped then Stopped else Done))) p stops
unfolding domain_step_ended
over_rests p k true stops stop = record {
  steps = k;
  stage = Stopped;
  is = refl;
  between = λ goes.
      let clash : true ≡ false = sym (stop refl) ∙ goes in absurd cc;
}
over_rests p k false stops stop = record { steps = k; stage = Between; is = refl; between = λ goes. refl }

-- its answers, one by one, up to the last
answers_taken : (schedule : List ℕ) (k slot : ℕ) (d : Domain) (w : World) → IsServing d.control.number w →
    (before : List Answer) (a : Answer) (after : List Answer) →
    before ++ a ∷ after ≡ answers_of (domain_script slot d) w →
    domain_taken d.control.number schedule (alone_at (part_in d w) k (Running slot before))
    (answer_items d.control.number (a ∷ after))
    ≡ alone_at (part_after slot d w) k (if last_stopped (a ∷ after) then Stopped else Done)
unfolding domain_taken answered_by
answers_taken schedule k slot d w serving before a [] is =
    let p = part_in d w in
    answer_taken d.control.number schedule p k slot before a
    ∙ ap (λ (r : alone.Tried). answered_by slot before a r (alone_at p k (Running slot before)))
    (ap (λ (l : List Answer). try_with slot l p) is ∙ tried_all slot d w serving)
answers_taken schedule k slot d w serving before a (b ∷ after) is =
    let n = d.control.number in
    let p = part_in d w in
    let rest = append_assoc before (a ∷ []) (b ∷ after) ∙ is in
    ap (λ (u : DomainAlone). domain_taken n schedule u (answer_items n (b ∷ after)))
    (answer_taken n schedule p k slot before a
    ∙ ap (λ (r : alone.Tried). answered_by slot before a r (alone_at p k (Running slot before)))
    (tried_front slot d w serving (before ++ a ∷ []) b after rest))
    ∙ answers_taken schedule k slot d w serving (before ++ a ∷ []) b after rest

-- after the last answer, which stops
pub answers_open : (schedule : List ℕ) (k slot : ℕ) (d : Domain) (w : World) → IsServing d.control.number w →
    (all : List Answer) → all ≡ answers_of (domain_script slot d) w → last_stopped all ≡ true →
    StoppedAt (domain_taken d.control.number schedule (alone_at (part_in d w) k (Running slot []))
    (answer_items d.control.number all)) (part_after slot d w)
answers_open schedule k slot d w serving [] is last = absurd (false≢true last)
answers_open schedule k slot d w serving (a ∷ after) is last = record {
  steps = k;
  is = answers_taken schedule k slot d w serving [] a after is
      ∙ ap (λ (b : Bool). alone_at (part_after slot d w) k (if b then Stopped else Done)) last;
}

-- after all of them
pub answers_rest : (schedule : List ℕ) (k slot : ℕ) (d : Domain) (w : World) → IsServing d.control.number w →
    (stops : Bool) (all : List Answer) → all ≡ answers_of (domain_script slot d) w →
    (list_any is_stopped all ≡ true → stops ≡ true) →
    RestsAt (ended (domain_taken d.control.number schedule (alone_at (part_in d w) k (Running slot []))
    (answer_items d.control.number all))) (part_after slot d w) stops
unfolding domain_taken domain_step_ended made_by
answers_rest schedule k slot d w serving stops [] is stop = record {
  steps = k;
  stage = Between;
  is = ap (λ (r : alone.Tried). made_by r (alone_at (part_in d w) k (Running slot [])))
      (ap (λ (l : List Answer). try_with slot l (part_in d w)) is ∙ tried_all slot d w serving);
  between = λ goes. refl;
}
answers_rest schedule k slot d w serving stops (a ∷ after) is stop =
    let p = part_after slot d w in
    subst (λ (u : DomainAlone). RestsAt (ended u) p stops)
    (sym (answers_taken schedule k slot d w serving [] a after is))
    (over_rests p k (last_stopped (a ∷ after)) stops (λ last. stop (last_any (a ∷ after) last)))
