-- A step in which a question of a program was stopped ends its domain, or stops the run.
use Rattle.std.proofs.Common.{◌≡◌, ◌≢◌, ◌∙◌, ◌⊎◌, ℕ, zero, Bool, true, false, cond, List, [], ◌∷◌, ◌++◌, Option, Some, None, Result, Ok, Err, is_some, eq-eqb, refl, sym, ap, subst, arith, inl, inr, append_assoc, ne_eqb}
use Rattle.std.specs.Prelude.{slice_get, ◌||◌, ◌==◌}
use Rattle.std.specs.List.{list_any, Contains}
use Rattle.std.proofs.lemmas.Bool.{false≢true, or_right, or_cases}
use Rattle.std.proofs.lemmas.List.Elements.{filter-append, Contains-append_right}
use Rattle.cloak_base.specs.declared.causes.Stop.TheVariants as stop
use Rattle.cloak_base.specs.declared.causes.Violation.{Violation}
use Rattle.cloak_model.specs.declared.answer.Answer.{Answer}
use Rattle.cloak_model.specs.declared.answer.Answer.TheVariants as told
use Rattle.cloak_model.specs.declared.context.ResumeFault.{ResumeFault}
use Rattle.cloak_model.specs.declared.inside.Went.{Went}
use Rattle.cloak_model.specs.declared.inside.Went.TheVariants as went
use Rattle.cloak_model.specs.Items.{Item}
use Rattle.cloak_model.specs.Items as item
use Rattle.cloak_model.specs.declared.outcome.Kernel.{Kernel}
use Rattle.cloak_model.specs.declared.outcome.Kernel.TheVariants as kernel
use Rattle.cloak_model.specs.Ahead.{settle_touched, settled_step, made_after}
use Rattle.cloak_model.specs.AskPages.{answer_item}
use Rattle.cloak_model.specs.Cloaking.{CloakedMemory}
use Rattle.cloak_model.specs.Contexts.{Admitted, domain_of, slot_of}
use Rattle.cloak_model.specs.Csr.{satp_of}
use Rattle.cloak_model.specs.DomainAlone.{is_stopped}
use Rattle.cloak_model.specs.DomainState.{Control, Domain}
use Rattle.cloak_model.specs.DomainStep.{domain_script, domain_step, interrupt}
use Rattle.cloak_model.specs.Halves.{is_inward, inward_half}
use Rattle.cloak_model.specs.Hart.{Hart}
use Rattle.cloak_model.specs.Joint.{Moment, Turn, next_hart, hart_in, memory_of, outside_ended, domain_ended, with_domain, after_domain_step, interrupt_ended, after_interrupt, by_interrupt, by_running, inside_step, turn_of, domain_met, end_domain, ends_once, ends_resumed, ends_asked, answers_violation, step_before_end, joint_step, stop_of, stop_without_miss}
use Rattle.cloak_model.specs.KernelStep.{ticked}
use Rattle.cloak_model.specs.Parts.{Joint}
use Rattle.cloak_model.specs.Resuming.{resume}
use Rattle.cloak_model.proofs.ResumeParts.{by_root, by_context, by_domain}
use Rattle.cloak_model.specs.World.{World, Cloaked, items_of, violation_of, is_missed, cipher_items}
use Rattle.kernel_isolation.proofs.Numbers.{number_at}
use Rattle.kernel_isolation.proofs.Turns.{IsSteady}
use Rattle.domain_isolation.proofs.Answers.{IsServing}
use Rattle.domain_isolation.proofs.Endings.{end_world, end_leaves}
use Rattle.domain_isolation.proofs.InOrder.{decided, get_set_same}
use Rattle.domain_isolation.proofs.Played.{answers_of, answer_items, played_items, played_stopped}
use Rattle.cloak_model.specs.Script.{played}
use Rattle.domain_isolation.proofs.Steady.{is_halted}
use Rattle.script_fold.proofs.StepScripts.{of_domain, step_scripted}
use Rattle.cause_law.specs.Causes.{kernel_ending, EndsOrStops}
use Rattle.cause_law.specs.Presented.{hart_of_step}
use Rattle.cause_law.proofs.Steps.{joint_outside, outside_turn}
use Rattle.domain_isolation.proofs.InsideSteps.{with_leave, ended_items}
use Rattle.std.proofs.lemmas.Option.{same_Some}
use Rattle.cloak_base.proofs.Choices.{or_more}

abbrev is_stop : Item → Bool
is_stop (item.Stopped d) = true
is_stop _ = false

-- one of these items tells domain d of a stop
abbrev TellsStop : ℕ → List Item → Type 0
TellsStop d items = list_any is_stop (inward_half d items) ≡ true

any_kept : (b : Bool) (i : Item) (items : List Item) → list_any is_stop items ≡ true →
    list_any is_stop (cond b (i ∷ items) items) ≡ true
any_kept true i items is = or_right (is_stop i) _ is
any_kept false i items is = is

stop_there : (d : ℕ) (before after : List Item) → TellsStop d (before ++ item.Stopped d ∷ after)
stop_there d [] after =
    ap (λ (b : Bool). list_any is_stop (cond b (item.Stopped d ∷ inward_half d after) (inward_half d after)))
    (eq-eqb d d refl)
stop_there d (i ∷ before) after = any_kept (is_inward d i) i _ (stop_there d before after)

-- A draw is missing or a violation was met, in a step of a hart inside a context of domain d, which is there after it.
pub record StepStops (d : ℕ) (inside : Option ℕ) (t : Turn) : Type 0 where
  pub ctx : ℕ
  pub is : inside ≡ Some ctx
  pub own : domain_of ctx ≡ d
  pub domain : Domain
  pub there : slice_get t.joint.domains (domain_of ctx) ≡ Some domain
  pub stops : (t.joint.memory.ledger.missed ≡ true) ⊎ (is_some t.violation ≡ true)

-- what a step tells of a stop, it stops
record Tells (d : ℕ) (inside : Option ℕ) (t : Turn) : Type 0 where
  pub by : TellsStop d t.items → StepStops d inside t

tells_none : (d : ℕ) (inside : Option ℕ) (t : Turn) → list_any is_stop (inward_half d t.items) ≡ false →
    Tells d inside t
tells_none d inside t none = record { by = λ is. absurd (false≢true (sym none ∙ is)) }

-- A hart outside.

none_if : (b : Bool) (i : Item) → is_stop i ≡ false → list_any is_stop (cond b (i ∷ []) []) ≡ false
none_if true i is = ap (λ (x : Bool). x || false) is
none_if false i is = refl

after_ciphers : (d : ℕ) (ciphers : List (ℕ × List ℕ)) (more : List Item) →
    inward_half d (cipher_items ciphers ++ more) ≡ inward_half d more
after_ciphers d [] more = refl
after_ciphers d (c ∷ ciphers) more = after_ciphers d ciphers more

root_tells : (d : ℕ) (j : Joint) (satp ctx reply : ℕ) (was : Domain) (control : Control) (a : Admitted)
    (answer : Result (Unit {0}) ResumeFault) →
    list_any is_stop (inward_half d (by_root j satp ctx reply was control a answer).items) ≡ false
unfolding by_root
root_tells d j satp ctx reply was control a (Err fault) = refl
root_tells d j satp ctx reply was control a (Ok done) = none_if _ (item.Resume (domain_of ctx) ctx reply) refl

context_tells : (d : ℕ) (j : Joint) (satp ctx reply : ℕ) (was : Domain) (control : Control)
    (answer : Result (Unit {0}) ResumeFault) →
    list_any is_stop (inward_half d (by_context j satp ctx reply was control answer).items) ≡ false
unfolding by_context
context_tells d j satp ctx reply was control (Err fault) = refl
context_tells d j satp ctx reply was control (Ok done) = root_tells d j satp ctx reply was control _ _

domain_tells : (d : ℕ) (j : Joint) (hart satp ctx reply : ℕ) (found : Option Domain) →
    list_any is_stop (inward_half d (by_domain j hart satp ctx reply found).items) ≡ false
unfolding by_domain
domain_tells d j hart satp ctx reply None = refl
domain_tells d j hart satp ctx reply (Some was) = context_tells d j satp ctx reply was _ _

resume_tells : (d : ℕ) (j : Joint) (hart satp ctx reply : ℕ) →
    list_any is_stop (inward_half d (resume j hart satp ctx reply).items) ≡ false
unfolding resume by_domain by_context by_root
resume_tells d j hart satp ctx reply = domain_tells d j hart satp ctx reply _

ciphers_tell : (d : ℕ) (ciphers : List (ℕ × List ℕ)) → list_any is_stop (inward_half d (cipher_items ciphers)) ≡ false
ciphers_tell d [] = refl
ciphers_tell d (c ∷ ciphers) = ciphers_tell d ciphers

ended_tells : (d : ℕ) (j : Joint) (number : ℕ) (ciphers : List (ℕ × List ℕ)) (e : Kernel) →
    Tells d None (outside_ended j number (cipher_items ciphers) e)
unfolding outside_ended
ended_tells d j number ciphers (kernel.Resume ctx reply) =
    tells_none d _ _ (ap (list_any is_stop) (after_ciphers d ciphers _)
    ∙ resume_tells d j number (satp_of (hart_in j number).csrs) ctx reply)
ended_tells d j number ciphers _ = tells_none d _ _ (ciphers_tell d ciphers)

outside_tells : (d : ℕ) (m : Moment) → (hart_of_step m).inside ≡ None → Tells d None (step_before_end m)
unfolding settled_step made_after
outside_tells d m outside =
    subst (Tells d None) (sym (outside_turn m (kernel_ending m) outside refl))
    (ended_tells d (joint_outside m) (next_hart m)
    (settle_touched (hart_of_step m) m.joint.disk m.joint.memory).ciphers (kernel_ending m))

-- A hart inside.

-- what is told of a stop is an answer that stops
stop_answer : (a : Answer) (e : ℕ) → is_stop (answer_item e a) ≡ is_stopped a
stop_answer told.Ok e = refl
stop_answer _ e = refl

either_stops : (b : Bool) (i : Item) (items : List Item) (s later : Bool) → is_stop i ≡ s →
    (list_any is_stop items ≡ true → later ≡ true) → list_any is_stop (cond b (i ∷ items) items) ≡ true →
    (s || later) ≡ true
either_stops true i items true later same more is = refl
either_stops true i items false later same more is =
    more (ap (λ (x : Bool). x || list_any is_stop items) (sym same) ∙ is)
either_stops false i items true later same more is = refl
either_stops false i items false later same more is = more is

stopped_answers : (d e : ℕ) (answers : List Answer) →
    list_any is_stop (inward_half d (answer_items e answers)) ≡ true → list_any is_stopped answers ≡ true
stopped_answers d e [] is = absurd (false≢true is)
stopped_answers d e (a ∷ answers) is =
    either_stops (is_inward d (answer_item e a)) (answer_item e a) (inward_half d (answer_items e answers))
    (is_stopped a) (list_any is_stopped answers) (stop_answer a e) (stopped_answers d e answers) is

missed_there : (v : World) (m : CloakedMemory) → is_missed v ≡ true → (memory_of v m).ledger.missed ≡ true
missed_there (Cloaked c) m is = is
missed_there _ m is = absurd (false≢true is)

domain_stops : (d : ℕ) (j : Joint) (number : ℕ) (h : Hart) (ctx : ℕ) (v : World) (g : Went) (was new : Domain) →
    g ≡ went.Stopped → is_halted v ≡ true → domain_of ctx ≡ d → slice_get j.domains (domain_of ctx) ≡ Some was →
    let e = domain_of ctx in
    StepStops d (Some ctx)
    (domain_ended (record (with_domain e new j) { memory = memory_of v j.memory }) number h e v g)
unfolding domain_ended
domain_stops d j number h ctx v went.Stopped was new is halted own there = record {
  ctx = ctx;
  is = refl;
  own = own;
  domain = new;
  there = get_set_same j.domains (domain_of ctx) was new there;
  stops = elim (or_cases (is_missed v) (is_some (violation_of v)) halted) [
    | inl missed ↦ inl (missed_there v j.memory missed)
    | inr some ↦ inr some
  ];
}
domain_stops d j number h ctx v went.Stay was new is halted own there = absurd cc
domain_stops d j number h ctx v (went.Remapped space) was new is halted own there = absurd cc
domain_stops d j number h ctx v (went.Leave s) was new is halted own there = absurd cc
domain_stops d j number h ctx v (went.SpaceGone space s) was new is halted own there = absurd cc

-- answers are told to their own domain
inward_answer : (d e : ℕ) (a : Answer) → is_inward d (answer_item e a) ≡ (e == d)
inward_answer d e told.Ok = refl
inward_answer d e _ = refl

none_told : (d e : ℕ) (answers : List Answer) → (e == d) ≡ false → inward_half d (answer_items e answers) ≡ []
none_told d e [] other = refl
none_told d e (a ∷ answers) other =
    ap (λ (b : Bool). cond b (answer_item e a ∷ inward_half d (answer_items e answers))
    (inward_half d (answer_items e answers))) (inward_answer d e a ∙ other)
    ∙ none_told d e answers other

own_stop : (d e : ℕ) (answers : List Answer) → list_any is_stop (inward_half d (answer_items e answers)) ≡ true → e ≡ d
own_stop d e answers any = elim (decided e d) [
  | inl same ↦ same
  | inr other ↦ absurd (false≢true (sym (ap (list_any is_stop) (none_told d e answers (ne_eqb e d other))) ∙ any))
]

played_tells : (d : ℕ) (j : Joint) (number : ℕ) (h : Hart) (ctx slot : ℕ) (was : Domain) (w : World) →
    IsServing was.control.number w → items_of w ≡ [] → was.control.number ≡ domain_of ctx →
    slice_get j.domains (domain_of ctx) ≡ Some was →
    Tells d (Some ctx) (after_domain_step j number h (domain_of ctx) (domain_step slot was w))
unfolding after_domain_step domain_step
played_tells d j number h ctx slot was w serving none owner there =
    let n = was.control.number in
    let s = domain_script slot was in
    let is_scripted = step_scripted slot was in
    let u = played s w in
    let answers = answers_of s w in
    record {
      by = λ is.
          let half : inward_half d (items_of u.world) ≡ inward_half d (answer_items n answers) =
          played_items n s is_scripted.own w serving d
          ∙ ap (λ (l : List Item). inward_half d l ++ inward_half d (answer_items n answers)) none in
          let told = ap (list_any is_stop)
          (sym (ended_items d _ number h (domain_of ctx) u.world u.answer.went ∙ half)) ∙ is in
          let halts = played_stopped n (of_domain slot was) s is_scripted.own w is_scripted.ends serving.form
          (stopped_answers d n answers told) in
          domain_stops d j number h ctx u.world u.answer.went was u.answer.domain halts.stopped halts.halted
          (sym owner ∙ own_stop d n answers told) there;
    }

interrupt_tells : (d : ℕ) (inside : Option ℕ) (j : Joint) (number : ℕ) (h : Hart) (e : ℕ) (g : Went) →
    Tells d inside (interrupt_ended j number h (item.Timer e ∷ []) g)
unfolding interrupt_ended
interrupt_tells d inside j number h e (went.Leave s) =
    tells_none d inside _ (ap (list_any is_stop) (with_leave d (item.Timer e ∷ []) s) ∙ none_if _ (item.Timer e) refl)
interrupt_tells d inside j number h e (went.SpaceGone space s) =
    tells_none d inside _ (none_if _ (item.Timer e) refl)
interrupt_tells d inside j number h e _ = tells_none d inside _ (none_if _ (item.Timer e) refl)

interrupted_tells : (d : ℕ) (due : Bool) (j : Joint) (number : ℕ) (h : Hart) (ctx : ℕ) (was : Domain) →
    was.control.number ≡ domain_of ctx → slice_get j.domains (domain_of ctx) ≡ Some was →
    Tells d (Some ctx) (by_interrupt due j number h (domain_of ctx) (slot_of ctx) was)
unfolding by_interrupt after_interrupt
interrupted_tells d true j number h ctx was owner there =
    interrupt_tells d (Some ctx) _ number h (domain_of ctx) (interrupt (slot_of ctx) was.control).went
interrupted_tells d false j number h ctx was owner there =
    played_tells d j number h ctx (slot_of ctx) was _ (record { form = refl; regime = sym owner }) refl owner there

running_tells : (d : ℕ) (runs : Bool) (j : Joint) (number : ℕ) (h : Hart) (ctx : ℕ) (was : Domain) →
    was.control.number ≡ domain_of ctx → slice_get j.domains (domain_of ctx) ≡ Some was →
    Tells d (Some ctx) (by_running runs j number h ctx was)
unfolding by_running
running_tells d false j number h ctx was owner there = tells_none d _ _ refl
running_tells d true j number h ctx was owner there = interrupted_tells d _ j number h ctx was owner there

inside_tells : (d : ℕ) (j : Joint) (number : ℕ) (h : Hart) (ctx : ℕ) (found : Option Domain) → IsSteady j →
    slice_get j.domains (domain_of ctx) ≡ found → Tells d (Some ctx) (inside_step j number h ctx found)
unfolding inside_step
inside_tells d j number h ctx None steady is = tells_none d _ _ refl
inside_tells d j number h ctx (Some was) steady is =
    running_tells d _ j number h ctx was (number_at (domain_of ctx) j.domains was steady.programs is) is

turn_tells : (d : ℕ) (m : Moment) (o : Option ℕ) → (hart_of_step m).inside ≡ o → IsSteady m.joint →
    Tells d o (step_before_end m)
unfolding turn_of
turn_tells d m None is steady = outside_tells d m is
turn_tells d m (Some ctx) is steady =
    subst (Tells d (Some ctx)) (sym (ap (turn_of m.joint (next_hart m) (hart_of_step m)) is))
    (inside_tells d m.joint (next_hart m) (ticked (hart_of_step m)) ctx _ steady refl)

-- What the end of a domain writes tells of no stop.

-- a domain's end adds these items to the step's own
record EndsWith (d : ℕ) (t t' : Turn) : Type 0 where
  pub more : List Item
  pub items : t'.items ≡ t.items ++ (more ++ item.Ended d ∷ [])
  pub none : (e : ℕ) → inward_half e more ≡ []

end_writes : (d : ℕ) (domain : Domain) (v : Violation) (t : Turn) → EndsWith d t (end_domain d domain v t)
unfolding end_domain
end_writes d domain v t = record {
  more = items_of (end_world d t.joint.memory);
  items = refl;
  none = λ e. (end_leaves d t.joint.memory).items e;
}

front_any : (a b : List Item) → list_any is_stop b ≡ false → list_any is_stop (a ++ b) ≡ true →
    list_any is_stop a ≡ true
front_any [] b none any = absurd (false≢true (sym none ∙ any))
front_any (i ∷ a) b none any =
    or_more (is_stop i) (list_any is_stop (a ++ b)) (list_any is_stop a) (λ later. front_any a b none later) any

-- what is told then was told by the step itself
told_before : (d e : ℕ) (t t' : Turn) → EndsWith e t t' → TellsStop d t'.items → TellsStop d t.items
told_before d e t t' ends told =
    let last : List Item = inward_half d (item.Ended e ∷ []) in
    let half : inward_half d t'.items ≡ inward_half d t.items ++ last =
    ap (inward_half d) ends.items
    ∙ (filter-append (is_inward d) t.items (ends.more ++ item.Ended e ∷ [])
    ∙ ap (λ (l : List Item). inward_half d t.items ++ l)
    (filter-append (is_inward d) ends.more (item.Ended e ∷ [])
    ∙ ap (λ (l : List Item). l ++ last) (ends.none d))) in
    front_any (inward_half d t.items) last (none_if _ (item.Ended e) refl) (ap (list_any is_stop) (sym half) ∙ told)

once_told : (d e : ℕ) (over : Bool) (domain : Domain) (v : Violation) (t : Turn) →
    TellsStop d (ends_once over e domain v t).items → TellsStop d t.items
unfolding ends_once
once_told d e true domain v t told = told
once_told d e false domain v t told = told_before d e t _ (end_writes e domain v t) told

resumed_told : (d e : ℕ) (found : Option Domain) (v : Violation) (t : Turn) →
    TellsStop d (ends_resumed found e v t).items → TellsStop d t.items
unfolding ends_resumed
resumed_told d e None v t told = told
resumed_told d e (Some domain) v t told = once_told d e domain.control.ended domain v t told

asked_told : (d e : ℕ) (found : Option Domain) (v : Violation) (t : Turn) →
    TellsStop d (ends_asked found e v t).items → TellsStop d t.items
unfolding ends_asked
asked_told d e None v t told = told
asked_told d e (Some domain) v t told = told_before d e t _ (end_writes e domain v t) told

answers_told : (d : ℕ) (inside : Option ℕ) (o : Option Violation) (t : Turn) →
    TellsStop d (answers_violation inside o t).items → TellsStop d t.items
unfolding answers_violation
answers_told d inside None t told = told
answers_told d None (Some v) t told = resumed_told d (domain_met v) _ v t told
answers_told d (Some ctx) (Some v) t told = asked_told d (domain_of ctx) _ v t told

-- After a stop the domain ends, or the run stops.

head_same : (x y : Item) (xs ys : List Item) → x ∷ xs ≡ y ∷ ys → x ≡ y
head_same x y xs ys is = cc

tail_same : (x y : Item) (xs ys : List Item) → x ∷ xs ≡ y ∷ ys → xs ≡ ys
tail_same x y xs ys is = cc

none_left : {P : Type 0} (a : List Item) (i : Item) (after : List Item) → [] ≡ a ++ i ∷ after → P
none_left [] i after is = absurd cc
none_left (x ∷ a) i after is = absurd cc

-- an item that is not the last one
last_after : (a after more : List Item) (i last : Item) → i ≢ last → more ++ last ∷ [] ≡ a ++ i ∷ after →
    Contains after last
last_after [] after [] i last other is = absurd (other (sym (head_same last i [] after is)))
last_after [] after (x ∷ more) i last other is =
    subst (λ (l : List Item). Contains l last) (tail_same x i (more ++ last ∷ []) after is)
    (Contains-append_right more (last ∷ []) last (zero, omega arith, refl))
last_after (y ∷ a) after [] i last other is = none_left a i after (tail_same last y [] (a ++ i ∷ after) is)
last_after (y ∷ a) after (x ∷ more) i last other is =
    last_after a after more i last other (tail_same x y (more ++ last ∷ []) (a ++ i ∷ after) is)

asked_ends : (d ctx : ℕ) (t : Turn) (domain : Domain) (v : Violation) (found : Option Domain)
    (before after : List Item) → domain_of ctx ≡ d → found ≡ Some domain →
    (ends_asked found (domain_of ctx) v t).items ≡ before ++ item.Stopped d ∷ after → Contains after (item.Ended d)
unfolding ends_asked
asked_ends d ctx t domain v None before after own there is = absurd cc
asked_ends d ctx t domain v (Some other) before after own there is =
    let e = end_writes (domain_of ctx) other v t in
    subst (λ (x : ℕ). Contains after (item.Ended x)) own
    (last_after before after (t.items ++ e.more) (item.Stopped d) (item.Ended (domain_of ctx))
    (λ same. absurd cc)
    (append_assoc t.items e.more (item.Ended (domain_of ctx) ∷ []) ∙ sym e.items ∙ is))

stop_by : (t : Turn) → t.joint.memory.ledger.missed ≡ true → stop_of t ≡ Some stop.NoRandom
stop_by t missed =
    ap (λ (b : Bool). cond b (Some stop.NoRandom) (stop_without_miss t.halt)) missed

ends_or_stops : (d : ℕ) (inside : Option ℕ) (o : Option Violation) (t : Turn) (before after : List Item) →
    StepStops d inside t → t.violation ≡ o →
    (answers_violation inside o t).items ≡ before ++ item.Stopped d ∷ after →
    EndsOrStops d (answers_violation inside o t) after
unfolding answers_violation
ends_or_stops d inside None t before after stops met is = elim stops.stops [
  | inl missed ↦ inr (stop_by t missed)
  | inr some ↦ absurd (false≢true (sym (ap (λ (o : Option Violation). is_some o) met) ∙ some))
]
ends_or_stops d None (Some v) t before after stops met is = let clash = stops.is in absurd cc
ends_or_stops d (Some ctx) (Some v) t before after stops met is =
    let same : ctx ≡ stops.ctx = same_Some ctx stops.ctx stops.is in
    inl (asked_ends d ctx t stops.domain v (slice_get t.joint.domains (domain_of ctx)) before after
    (ap domain_of same ∙ stops.own)
    (ap (λ (c : ℕ). slice_get t.joint.domains (domain_of c)) same ∙ stops.there) is)

-- a step of which an item tells a program of a stop
pub told_ends : (m : Moment) (d : ℕ) (before after : List Item) → IsSteady m.joint →
    (joint_step m).items ≡ before ++ item.Stopped d ∷ after → EndsOrStops d (joint_step m) after
unfolding joint_step
told_ends m d before after steady is =
    let t = step_before_end m in
    let inside = (hart_of_step m).inside in
    let told : TellsStop d t.items =
    answers_told d inside t.violation t (subst (TellsStop d) (sym is) (stop_there d before after)) in
    ends_or_stops d inside t.violation t before after ((turn_tells d m inside refl steady).by told) refl is
