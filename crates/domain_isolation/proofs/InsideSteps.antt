-- A step of a hart inside: the timer interrupts its context, or its context makes a step.
use Rattle.std.proofs.Common.{◌≡◌, ◌≢◌, ◌∙◌, inl, inr, ◌<◌, true, false, cond, suc, ℕ, Bool, List, [], ◌∷◌, ◌++◌, Option, Some, None, refl, ap, ap₂, sym, subst, eq-eqb, ne_eqb, length, append-nil, if◌then◌else◌}
use Rattle.std.specs.Prelude.{◌||◌, is_some, slice_get, slice_set}
use Rattle.std.specs.List.{AllByRecursion, list_any}
use Rattle.std.proofs.lemmas.Bool.{false≢true}
use Rattle.std.proofs.lemmas.List.Elements.{filter-append}
use Rattle.cloak_base.specs.declared.names.PageId.{PageId}
use Rattle.cloak_base.specs.declared.causes.Violation.{Violation}
use Rattle.cloak_base.specs.declared.causes.Shown.{Shown}
use Rattle.cloak_base.specs.declared.causes.Stop.TheVariants as stop
use Rattle.cloak_model.specs.declared.answer.Answer.{Answer}
use Rattle.cloak_model.specs.declared.answer.Answer.TheVariants as told
use Rattle.cloak_model.specs.Items.{Item}
use Rattle.cloak_model.specs.Items as item
use Rattle.cloak_model.specs.declared.inside.Went.{Went}
use Rattle.cloak_model.specs.declared.inside.Went.TheVariants as went
use Rattle.cloak_model.specs.Csr.{interrupt_due}
use Rattle.cloak_model.specs.Hart.{Hart}
use Rattle.cloak_model.specs.Halves.{is_inward, inward_half}
use Rattle.cloak_model.specs.Record.{IsOfStep}
use Rattle.cloak_model.specs.Cloaking.{CloakedMemory}
use Rattle.cloak_model.specs.KernelStep.{ticked}
use Rattle.cloak_model.specs.Leaving.{leave}
use Rattle.cloak_model.specs.World.{World, Cloaked, plain_of, items_of, violation_of, is_missed}
use Rattle.cloak_model.specs.AskPages.{answer_item}
use Rattle.cloak_model.specs.Contexts.{Context, context_at, domain_of, slot_of}
use Rattle.cloak_model.specs.DomainState.{Domain}
use Rattle.cloak_model.specs.Hypercalls.{Stepped}
use Rattle.cloak_model.specs.DomainStep.{domain_script, domain_step, interrupt, interrupt_if}
use Rattle.cloak_model.specs.Parts.{Joint, DomainPart, domain_pages}
use Rattle.cloak_model.specs.Joint.{Turn, quiet, hart_in, with_hart, cloak_of, memory_of, domain_ended, with_domain, after_domain_step, pages_for, interrupt_ended, after_interrupt, by_interrupt, inside_step, turn_of, stop_without_miss, by_running, left, not_running}
use Rattle.cloak_model.specs.DomainAlone.{DomainAlone, Running, domain_taken, stage_for, is_stopped, runs_on}
use Rattle.domain_isolation.proofs.Ignoring.{half_taken, taken_half}
use Rattle.script_fold.proofs.Runs.{MovesSlot, slot_kept, slot_left, has_left, runs_in}
use Rattle.cloak_model.specs.Script.{played}
use Rattle.script_fold.proofs.StepScripts.{of_domain, step_scripted}
use Rattle.domain_isolation.proofs.Steady.{is_cloaked, is_halted}
use Rattle.domain_isolation.proofs.Answers.{IsServing}
use Rattle.domain_isolation.proofs.Played.{answers_of, answer_items, played_serving, played_items, played_others, played_ends, played_stopped, played_met}
use Rattle.domain_isolation.proofs.Alone.{alone_at, ended, RestsAt, part_in, timer_rests, answers_rest, StoppedAt, answers_open}
use Rattle.domain_isolation.proofs.InOrder.{decided, inside_at, InOrder, order_stays, order_leaves, get_set_same, slot_other, slot_own, order_gone, slot_idle}
use Rattle.domain_isolation.proofs.KernelHarts.{ticked_inside}
use Rattle.domain_isolation.proofs.JointSteps.{HoldsPart, StepAlone, is_cut, other_alone}
use Rattle.domain_isolation.proofs.OutsideSteps.{outside_alone}
use Rattle.std.proofs.lemmas.Option.{same_Some}
use Rattle.cloak_base.proofs.Lists.{slice_get-set_other}

-- a step of a context, which changed only its own domain
running_alone : (d count : ℕ) (schedule : List ℕ) (k n : ℕ) (p : DomainPart) (j : Joint) (ctx : ℕ)
    (old new : Domain) (t : Turn) → InOrder count j.harts j.domains → HoldsPart d j p →
    slice_get j.domains (domain_of ctx) ≡ Some old → inside_at j.harts n ≡ Some ctx →
    runs_in n old.control.contexts (slot_of ctx) ≡ true →
    t.joint.domains ≡ slice_set j.domains (domain_of ctx) new →
    InOrder count t.joint.harts t.joint.domains →
    (d ≢ domain_of ctx → (inward_half d t.items ≡ []) ×
    (domain_pages d t.joint.memory.plain ≡ domain_pages d j.memory.plain)) →
    (let e = domain_of ctx in
    RestsAt (ended (domain_taken e schedule (alone_at
    (record { domain = old; plain = domain_pages e j.memory.plain }) (suc k) (Running (slot_of ctx) [])) t.items))
    (record { domain = new; plain = domain_pages e t.joint.memory.plain }) (is_cut t)) →
    (is_some t.violation ≡ true → let e = domain_of ctx in
    StoppedAt (domain_taken e schedule (alone_at
    (record { domain = old; plain = domain_pages e j.memory.plain }) (suc k) (Running (slot_of ctx) [])) t.items)
    (record { domain = new; plain = domain_pages e t.joint.memory.plain })) →
    AllByRecursion IsOfStep (inward_half (domain_of ctx) t.items) →
    StepAlone d count schedule k n p (Some ctx) t
running_alone d count schedule k n p j ctx old new t order has is runs here domains after others own opens told =
    let e = domain_of ctx in
    elim (decided d e) [
      | inl same ↦
          let has' : HoldsPart e j p = subst (λ (x : ℕ). HoldsPart x j p) same has in
          let q : DomainPart = record { domain = old; plain = domain_pages e j.memory.plain } in
          let it : q ≡ p =
          ap₂ (λ (x : Domain) (plain : ℕ → ℕ → List ℕ). let y : DomainPart = record { domain = x; plain = plain } in y)
          (same_Some old p.domain (sym is ∙ has'.domain)) has'.plain in
          subst (λ (x : ℕ). StepAlone x count schedule k n p (Some ctx) t) (sym same)
          (subst (λ (x : DomainPart). StepAlone e count schedule k n x (Some ctx) t) it
          (record {
            part = record { domain = new; plain = domain_pages e t.joint.memory.plain };
            has = record {
              domain = ap (λ (l : List Domain). slice_get l e) domains
                  ∙ get_set_same j.domains e old new is;
              plain = refl;
            };
            rests =
                subst (λ (o : Option ℕ). RestsAt (ended
                (domain_taken e schedule (alone_at q (suc k) (stage_for n o)) t.items))
                (record { domain = new; plain = domain_pages e t.joint.memory.plain }) (is_cut t))
                (sym (slot_own count j.harts j.domains old n ctx order is runs here)) own;
            opens = λ some. inr (
              refl,
              subst (λ (o : Option ℕ). StoppedAt (domain_taken e schedule (alone_at q (suc k) (stage_for n o)) t.items)
                  (record { domain = new; plain = domain_pages e t.joint.memory.plain }))
                  (sym (slot_own count j.harts j.domains old n ctx order is runs here)) (opens some),
            );
            order = after;
            told = told;
          }))
      | inr other ↦
          other_alone d count schedule k n p (Some ctx) t
          (slot_other count j.harts j.domains d p.domain n ctx order has.domain runs other) (others other).0
          (record {
            domain = ap (λ (l : List Domain). slice_get l d) domains ∙ slice_get-set_other j.domains e d new other
                ∙ has.domain;
            plain = (others other).1 ∙ has.plain;
          }) after (λ some. other)
    ]

-- The timer interrupts it.

interrupt_if_alone : (d count : ℕ) (schedule : List ℕ) (k n : ℕ) (p : DomainPart) (j : Joint) (h : Hart) (ctx : ℕ)
    (old : Domain) (o : Option Context) → InOrder count j.harts j.domains → HoldsPart d j p →
    slice_get j.domains (domain_of ctx) ≡ Some old → inside_at j.harts n ≡ Some ctx → h.inside ≡ inside_at j.harts n →
    runs_in n old.control.contexts (slot_of ctx) ≡ true →
    interrupt (slot_of ctx) old.control ≡ interrupt_if o (slot_of ctx) old.control →
    StepAlone d count schedule k n p (Some ctx) (after_interrupt j n h (domain_of ctx) old
    (interrupt_if o (slot_of ctx) old.control))
unfolding after_interrupt interrupt_if interrupt_ended
interrupt_if_alone d count schedule k n p j h ctx old None order has is runs kept here made =
    let e = domain_of ctx in
    let t : Turn = quiet (with_hart n h (with_domain e (record old { control = old.control }) j)) (item.Timer e ∷ []) in
    running_alone d count schedule k n p j ctx old old t order has is runs here refl
    (order_stays count j.harts j.domains n h e (slot_of ctx) old old order is kept
    (slot_kept (slot_of ctx) old.control))
    (λ other. (ap (λ (b : Bool). cond b (item.Timer e ∷ []) []) (ne_eqb e d (λ same. other (sym same))), refl))
    (subst (λ (s : Stepped). RestsAt (ended
    (domain_taken e schedule (alone_at (record { domain = old; plain = domain_pages e j.memory.plain }) (suc k)
    (Running (slot_of ctx) [])) t.items))
    (record { domain = record old { control = s.control }; plain = domain_pages e j.memory.plain })
    (is_cut t)) made
    (timer_rests e schedule (record { domain = old; plain = domain_pages e j.memory.plain }) (suc k) (slot_of ctx)
    (is_cut t)))
    (λ some. absurd (false≢true some))
    (subst (AllByRecursion IsOfStep) (sym (ap (λ (b : Bool). cond b (item.Timer e ∷ []) []) (eq-eqb e e refl)))
    (refl, tt))
interrupt_if_alone d count schedule k n p j h ctx old (Some c) order has is runs kept here made =
    let e = domain_of ctx in
    let step = interrupt_if (Some c) (slot_of ctx) old.control in
    let new : Domain = record old { control = step.control } in
    let t : Turn = interrupt_ended (with_domain e new j) n h (item.Timer e ∷ []) step.went in
    let q : DomainPart = record { domain = old; plain = domain_pages e j.memory.plain } in
    let start = alone_at q (suc k) (Running (slot_of ctx) []) in
    running_alone d count schedule k n p j ctx old new t order has is runs here refl
    (order_leaves count j.harts j.domains n _ ctx old new order is runs
    (slot_left (slot_of ctx) c old.control))
    (λ other. (ap (λ (b : Bool). cond b (item.Timer e ∷ []) []) (ne_eqb e d (λ same. other (sym same))), refl))
    (subst (λ (s : DomainAlone). RestsAt (ended s) (record { domain = new; plain = domain_pages e j.memory.plain })
    (is_cut t))
    (sym (taken_half e schedule start t.items (item.Timer e ∷ [])
    (ap (λ (b : Bool). cond b (item.Timer e ∷ []) []) (eq-eqb e e refl))))
    (subst (λ (s : Stepped). RestsAt (ended (domain_taken e schedule start (item.Timer e ∷ [])))
    (record { domain = record old { control = s.control }; plain = domain_pages e j.memory.plain })
    (is_cut t)) made
    (timer_rests e schedule q (suc k) (slot_of ctx) (is_cut t))))
    (λ some. absurd (false≢true some))
    (subst (AllByRecursion IsOfStep) (sym (ap (λ (b : Bool). cond b (item.Timer e ∷ []) []) (eq-eqb e e refl)))
    (refl, tt))

-- Its context makes a step.

pub memory_plain : (w : World) (m : CloakedMemory) → is_cloaked w ≡ true → (memory_of w m).plain ≡ plain_of w
memory_plain (Cloaked c) m cloaked = refl
memory_plain _ m cloaked = absurd (false≢true cloaked)

pub memory_missed : (w : World) (m : CloakedMemory) → is_cloaked w ≡ true → (memory_of w m).ledger.missed ≡ is_missed w
memory_missed (Cloaked c) m cloaked = refl
memory_missed _ m cloaked = absurd (false≢true cloaked)

-- the joint machine with a domain and a memory after a step
abbrev with_step : ℕ → Domain → CloakedMemory → Joint → Joint
with_step e new m j = record (with_domain e new j) { memory = m }

pub ended_domains : (j : Joint) (n : ℕ) (h : Hart) (e : ℕ) (w : World) (g : Went) →
    (domain_ended j n h e w g).joint.domains ≡ j.domains
unfolding domain_ended
ended_domains j n h e w went.Stay = refl
ended_domains j n h e w _ = refl

pub interrupt_ended_domains : (j : Joint) (number : ℕ) (h : Hart) (items : List Item) (g : Went) →
    (interrupt_ended j number h items g).joint.domains ≡ j.domains
unfolding interrupt_ended
interrupt_ended_domains j number h items went.Stay = refl
interrupt_ended_domains j number h items _ = refl

pub ended_plain : (j : Joint) (n : ℕ) (h : Hart) (e : ℕ) (w : World) (g : Went) →
    (domain_ended j n h e w g).joint.memory.plain ≡ j.memory.plain
unfolding domain_ended
ended_plain j n h e w went.Stay = refl
ended_plain j n h e w _ = refl

pub with_leave : (d : ℕ) (items : List Item) (s : Shown) → inward_half d (items ++ item.Leave s ∷ []) ≡ inward_half d items
with_leave d items s = filter-append (is_inward d) items (item.Leave s ∷ []) ∙ append-nil (inward_half d items)

pub ended_items : (d : ℕ) (j : Joint) (n : ℕ) (h : Hart) (e : ℕ) (w : World) (g : Went) →
    inward_half d (domain_ended j n h e w g).items ≡ inward_half d (items_of w)
unfolding domain_ended
ended_items d j n h e w (went.Leave s) = with_leave d (items_of w) s
ended_items d j n h e w (went.SpaceGone space s) = with_leave d (items_of w) s
ended_items d j n h e w _ = refl

ended_order : (count : ℕ) (j : Joint) (m : CloakedMemory) (n : ℕ) (h : Hart) (w : World) (ctx : ℕ)
    (old new : Domain) (g : Went) → InOrder count j.harts j.domains →
    slice_get j.domains (domain_of ctx) ≡ Some old → inside_at j.harts n ≡ Some ctx →
    h.inside ≡ inside_at j.harts n → MovesSlot (slot_of ctx) (has_left g) old.control new.control →
    let t = domain_ended (with_step (domain_of ctx) new m j) n h (domain_of ctx) w g in
    InOrder count t.joint.harts t.joint.domains
unfolding domain_ended
ended_order count j m n h w ctx old new (went.Leave s) order is runs kept moves =
    order_leaves count j.harts j.domains n (leave h s) ctx old new order is runs moves
ended_order count j m n h w ctx old new (went.SpaceGone space s) order is runs kept moves =
    order_leaves count j.harts j.domains n (leave h s) ctx old new order is runs moves
ended_order count j m n h w ctx old new _ order is runs kept moves =
    order_stays count j.harts j.domains n h (domain_of ctx) (slot_of ctx) old new order is kept moves

halted_if : (missed missed' : Bool) (o : Option Violation) → missed ≡ missed' → (missed' || is_some o) ≡ true →
    (is_some o || is_some (if missed then Some stop.NoRandom else stop_without_miss None)) ≡ true
halted_if missed missed' (Some v) same halted = refl
halted_if true missed' None same halted = refl
halted_if false true None same halted = absurd (false≢true same)
halted_if false false None same halted = absurd (false≢true halted)

ended_stops : (j : Joint) (n : ℕ) (h : Hart) (e : ℕ) (w : World) (g : Went) → j.memory.ledger.missed ≡ is_missed w →
    g ≡ went.Stopped → is_halted w ≡ true →
    is_cut (domain_ended j n h e w g) ≡ true
unfolding domain_ended
ended_stops j n h e w went.Stopped missed is halted =
    halted_if j.memory.ledger.missed (is_missed w) (violation_of w) missed halted
ended_stops j n h e w g missed is halted = absurd cc

pub ended_met : (j : Joint) (n : ℕ) (h : Hart) (e : ℕ) (w : World) (g : Went) →
    is_some (domain_ended j n h e w g).violation ≡ true → is_some (violation_of w) ≡ true
unfolding domain_ended
ended_met j n h e w went.Stopped some = some
ended_met j n h e w _ some = absurd (false≢true some)

inward_elsewhere : (e d : ℕ) (a : Answer) → d ≢ e → is_inward d (answer_item e a) ≡ false
inward_elsewhere e d told.Ok other = ne_eqb e d (λ same. other (sym same))
inward_elsewhere e d _ other = ne_eqb e d (λ same. other (sym same))

answers_elsewhere : (e d : ℕ) (answers : List Answer) → d ≢ e → inward_half d (answer_items e answers) ≡ []
answers_elsewhere e d [] other = refl
answers_elsewhere e d (a ∷ answers) other =
    ap (λ (b : Bool). cond b (answer_item e a ∷ inward_half d (answer_items e answers))
    (inward_half d (answer_items e answers))) (inward_elsewhere e d a other)
    ∙ answers_elsewhere e d answers other

either_of_step : (test : Bool) (i : Item) (items : List Item) → IsOfStep i → AllByRecursion IsOfStep items →
    AllByRecursion IsOfStep (cond test (i ∷ items) items)
either_of_step true i items is all = (is, all)
either_of_step false i items is all = all

half_of_step : (d : ℕ) (items : List Item) → AllByRecursion IsOfStep items →
    AllByRecursion IsOfStep (inward_half d items)
half_of_step d [] all = tt
half_of_step d (i ∷ items) all =
    either_of_step (is_inward d i) i (inward_half d items) all.0 (half_of_step d items all.1)

answer_of_step : (e : ℕ) (a : Answer) → IsOfStep (answer_item e a)
answer_of_step e told.Ok = refl
answer_of_step e _ = refl

answers_of_step : (e : ℕ) (answers : List Answer) → AllByRecursion IsOfStep (answer_items e answers)
answers_of_step e [] = tt
answers_of_step e (a ∷ answers) = (answer_of_step e a, answers_of_step e answers)

-- the step as its script is played; the number of a domain is e
played_alone_so : (d count : ℕ) (schedule : List ℕ) (k n : ℕ) (p : DomainPart) (j : Joint) (h : Hart) (ctx : ℕ)
    (old : Domain) (w : World) → InOrder count j.harts j.domains → HoldsPart d j p →
    slice_get j.domains (domain_of ctx) ≡ Some old → inside_at j.harts n ≡ Some ctx → h.inside ≡ inside_at j.harts n →
    runs_in n old.control.contexts (slot_of ctx) ≡ true → violation_of w ≡ None →
    IsServing old.control.number w → items_of w ≡ [] → plain_of w ≡ j.memory.plain →
    StepAlone d count schedule k n p (Some ctx) (after_domain_step j n h (domain_of ctx)
    (played (domain_script (slot_of ctx) old) w))
unfolding after_domain_step
played_alone_so d count schedule k n p j h ctx old w order has is runs kept here quietly serving none plain =
    let e = domain_of ctx in
    let slot = slot_of ctx in
    let number : old.control.number ≡ e = order.numbers e old is in
    let S = step_scripted slot old in
    let script = domain_script slot old in
    let own_number = old.control.number in
    let told = played script w in
    let new = told.answer.domain in
    let v = told.world in
    let g = told.answer.went in
    let after = played_serving own_number script S.own w serving in
    let answers = answers_of script w in
    let m = memory_of v j.memory in
    let t = domain_ended (with_step e new m j) n h e v g in
    let q : DomainPart = record { domain = old; plain = domain_pages e j.memory.plain } in
    let plain' : t.joint.memory.plain ≡ plain_of v = ended_plain (with_step e new m j) n h e v g
    ∙ memory_plain v j.memory after.form in
    let half = λ (x : ℕ). ended_items x (with_step e new m j) n h e v g
    ∙ played_items own_number script S.own w serving x
    ∙ ap (λ (l : List Item). inward_half x l ++ inward_half x (answer_items old.control.number answers)) none in
    let moves : MovesSlot slot (has_left g) old.control new.control = played_ends
    (of_domain slot old) script w S.ends in
    let stops : list_any is_stopped answers ≡ true → is_cut t ≡ true =
    λ any. let halts = played_stopped own_number (of_domain slot old) script S.own w S.ends serving.form any in
    ended_stops (with_step e new m j) n h e v g (memory_missed v j.memory after.form) halts.stopped halts.halted in
    let told_so : (P : DomainAlone → DomainPart → Type 0) →
    P (domain_taken old.control.number schedule (alone_at (part_in old w) (suc k) (Running slot []))
    (answer_items old.control.number answers))
    (record { domain = new; plain = domain_pages old.control.number (plain_of v) }) →
    P (domain_taken e schedule (alone_at q (suc k) (Running slot [])) t.items)
    (record { domain = new; plain = domain_pages e t.joint.memory.plain }) = λ P alone.
    subst (λ (s : DomainAlone). P s (record { domain = new; plain = domain_pages e t.joint.memory.plain }))
    (sym (taken_half e schedule (alone_at q (suc k) (Running slot [])) t.items
    (inward_half e (answer_items old.control.number answers)) (half e)
    ∙ half_taken e schedule (alone_at q (suc k) (Running slot [])) (answer_items old.control.number answers)))
    (subst (λ (x : ℕ). P (domain_taken x schedule
    (alone_at (record { domain = old; plain = domain_pages x j.memory.plain }) (suc k) (Running slot []))
    (answer_items old.control.number answers))
    (record { domain = new; plain = domain_pages x t.joint.memory.plain })) number
    (subst (λ (pages : PageId → List ℕ). P
    (domain_taken old.control.number schedule (alone_at
    (record { domain = old; plain = domain_pages old.control.number pages }) (suc k) (Running slot []))
    (answer_items old.control.number answers))
    (record { domain = new; plain = domain_pages old.control.number t.joint.memory.plain })) plain
    (subst (λ (pages : PageId → List ℕ). P
    (domain_taken old.control.number schedule (alone_at (part_in old w) (suc k) (Running slot []))
    (answer_items old.control.number answers))
    (record { domain = new; plain = domain_pages old.control.number pages })) (sym plain')
    alone))) in
    running_alone d count schedule k n p j ctx old new t order has is runs here
    (ended_domains (with_step e new m j) n h e v g)
    (ended_order count j m n h v ctx old new g order is runs kept moves)
    (λ other. (
      half d ∙ answers_elsewhere old.control.number d answers (λ same. other (same ∙ number)),
      ap (domain_pages d) plain'
          ∙ played_others own_number script S.own w serving d (λ same. other (same ∙ number))
          ∙ ap (domain_pages d) plain,
    ))
    (told_so (λ s part. RestsAt (ended s) part (is_cut t))
    (answers_rest schedule (suc k) slot old w serving (is_cut t) answers refl stops))
    (λ some. told_so StoppedAt
    (answers_open schedule (suc k) slot old w serving answers refl
    (played_met own_number (of_domain slot old) script S.own w S.ends serving quietly
    (ended_met (with_step e new m j) n h e v g some))))
    (subst (AllByRecursion IsOfStep) (sym (half e))
    (half_of_step e (answer_items old.control.number answers) (answers_of_step old.control.number answers)))

by_interrupt_alone : (due : Bool) (d count : ℕ) (schedule : List ℕ) (k n : ℕ) (p : DomainPart) (j : Joint)
    (h : Hart) (ctx : ℕ) (old : Domain) → InOrder count j.harts j.domains → HoldsPart d j p →
    slice_get j.domains (domain_of ctx) ≡ Some old → inside_at j.harts n ≡ Some ctx → h.inside ≡ inside_at j.harts n →
    runs_in n old.control.contexts (slot_of ctx) ≡ true →
    StepAlone d count schedule k n p (Some ctx) (by_interrupt due j n h (domain_of ctx) (slot_of ctx) old)
unfolding by_interrupt interrupt domain_step
by_interrupt_alone true d count schedule k n p j h ctx old order has is runs kept here =
    interrupt_if_alone d count schedule k n p j h ctx old
    (context_at old.control.contexts (slot_of ctx)) order has is runs kept here refl
by_interrupt_alone false d count schedule k n p j h ctx old order has is runs kept here =
    let e = domain_of ctx in
    let w = Cloaked (cloak_of j.memory h e (pages_for old (context_at old.control.contexts (slot_of ctx)))) in
    played_alone_so d count schedule k n p j h ctx old w order has is runs kept here refl
    (record { form = refl; regime = sym (order.numbers e old is) }) refl refl

-- a hart leaves a context that does not run on it
gone_alone : (d count : ℕ) (schedule : List ℕ) (k n : ℕ) (p : DomainPart) (j : Joint) (h : Hart) (ctx : ℕ) →
    InOrder count j.harts j.domains → HoldsPart d j p → inside_at j.harts n ≡ Some ctx →
    ((domain : Domain) → slice_get j.domains (domain_of ctx) ≡ Some domain →
    runs_in n domain.control.contexts (slot_of ctx) ≡ false) →
    StepAlone d count schedule k n p (Some ctx) (left j n h [] (not_running ctx))
gone_alone d count schedule k n p j h ctx order has runs not_here =
    other_alone d count schedule k n p (Some ctx) (left j n h [] (not_running ctx))
    (elim (decided d (domain_of ctx)) [
      | inl same ↦
          let found : slice_get j.domains (domain_of ctx) ≡ Some p.domain = ap (slice_get j.domains) (sym same) ∙ has.domain in
          slot_idle count j.harts j.domains p.domain n ctx order found runs (not_here p.domain found)
      | inr other ↦ slot_other count j.harts j.domains d p.domain n ctx order has.domain runs other
    ]) refl
    (record { domain = has.domain; plain = has.plain })
    (order_gone count j.harts j.domains n (leave h (not_running ctx)) ctx order runs not_here)
    (λ some. absurd (false≢true some))

by_running_alone : (here : Bool) (d count : ℕ) (schedule : List ℕ) (k n : ℕ) (p : DomainPart) (j : Joint) (h : Hart)
    (ctx : ℕ) (old : Domain) → InOrder count j.harts j.domains → HoldsPart d j p →
    slice_get j.domains (domain_of ctx) ≡ Some old → inside_at j.harts n ≡ Some ctx → h.inside ≡ inside_at j.harts n →
    runs_in n old.control.contexts (slot_of ctx) ≡ here →
    StepAlone d count schedule k n p (Some ctx) (by_running here j n h ctx old)
unfolding by_running
by_running_alone false d count schedule k n p j h ctx old order has is runs kept here =
    gone_alone d count schedule k n p j h ctx order has runs
    (λ domain found. ap (λ (x : Domain). runs_in n x.control.contexts (slot_of ctx)) (same_Some domain old (sym found ∙ is))
    ∙ here)
by_running_alone true d count schedule k n p j h ctx old order has is runs kept here =
    by_interrupt_alone (interrupt_due h.mode h.csrs) d count schedule k n p j h ctx old order has is runs kept here

inside_alone : (d count : ℕ) (schedule : List ℕ) (k n : ℕ) (p : DomainPart) (j : Joint) (h : Hart) (ctx : ℕ)
    (found : Option Domain) → InOrder count j.harts j.domains → HoldsPart d j p →
    slice_get j.domains (domain_of ctx) ≡ found → inside_at j.harts n ≡ Some ctx → h.inside ≡ inside_at j.harts n →
    StepAlone d count schedule k n p (Some ctx) (inside_step j n h ctx found)
unfolding inside_step
inside_alone d count schedule k n p j h ctx None order has is runs kept =
    gone_alone d count schedule k n p j h ctx order has runs
    (λ domain found. let clash : Some domain ≡ None = sym found ∙ is in absurd cc)
inside_alone d count schedule k n p j h ctx (Some old) order has is runs kept =
    by_running_alone (runs_on n (context_at old.control.contexts (slot_of ctx))) d count schedule k n p j h ctx old order
    has is runs kept refl

of_hart_alone : (d count : ℕ) (schedule : List ℕ) (k n : ℕ) (p : DomainPart) (j : Joint) (inside : Option ℕ) →
    InOrder count j.harts j.domains → HoldsPart d j p → n < length j.harts →
    inside_at j.harts n ≡ inside → StepAlone d count schedule k n p inside (turn_of j n (hart_in j n) inside)
unfolding turn_of
of_hart_alone d count schedule k n p j None order has within is =
    outside_alone d count schedule k n p j order has within is
of_hart_alone d count schedule k n p j (Some ctx) order has within is =
    inside_alone d count schedule k n p j (ticked (hart_in j n)) ctx
    (slice_get j.domains (domain_of ctx)) order has refl is (ticked_inside (hart_in j n))

-- a step of any hart
pub turn_alone : (d count : ℕ) (schedule : List ℕ) (k n : ℕ) (p : DomainPart) (j : Joint) →
    InOrder count j.harts j.domains → HoldsPart d j p → n < length j.harts →
    StepAlone d count schedule k n p (hart_in j n).inside (turn_of j n (hart_in j n) (hart_in j n).inside)
turn_alone d count schedule k n p j order has within =
    of_hart_alone d count schedule k n p j (hart_in j n).inside order has within refl
