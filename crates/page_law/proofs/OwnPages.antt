-- A step of the kernel, or of another program, leaves the pages of a program as they are.
use Rattle.std.proofs.Common.{◌≡◌, ◌≢◌, ◌∙◌, ℕ, zero, suc, ◌+◌, ◌%◌, Bool, true, false, List, length, take, slice_get, slice_index, Option, Some, None, Ok, refl, sym, ap, subst, arith, take_all}
use Rattle.std.specs.Prelude.{option_map, ◌||◌}
use Rattle.cloak_base.specs.declared.causes.Stop.{Stop}
use Rattle.cloak_base.specs.declared.names.PageId.{PageId}
use Rattle.cloak_model.specs.declared.image.Bundle.{Bundle}
use Rattle.cloak_model.specs.declared.inside.Went.{Went}
use Rattle.cloak_model.specs.declared.inside.Went.TheVariants as went
use Rattle.cloak_model.specs.Items.{Item}
use Rattle.cloak_model.specs.Asking.{Told}
use Rattle.cloak_model.specs.Beginning.{Beginning, opening_from}
use Rattle.cloak_model.specs.Cloaking.{CloakedMemory}
use Rattle.cloak_model.specs.Contexts.{domain_of, slot_of}
use Rattle.cloak_model.specs.DomainState.{Domain}
use Rattle.cloak_model.specs.DomainStep.{domain_script, DomainStepped, domain_step}
use Rattle.cloak_model.specs.Hart.{Hart}
use Rattle.cloak_model.specs.Joint.{Moment, Turn, next_hart, hart_in, cloak_of, memory_of, domain_ended, after_domain_step, interrupt_ended, after_interrupt, by_interrupt, by_running, inside_step, turn_of, joint_step, after_turn, stop_of}
use Rattle.cloak_model.specs.KernelStep.{ticked}
use Rattle.cloak_model.specs.Opening.{RunEdge}
use Rattle.cloak_model.specs.Parts.{Joint, domain_pages}
use Rattle.cloak_model.specs.Run.{Run, unless_stopped, turns_from, joint_after, first_moment, run_of, closing}
use Rattle.cloak_model.specs.World.{World, Cloaked, plain_of}
use Rattle.cloak_model.specs.Script.{played}
use Rattle.domain_isolation.proofs.Played.{played_serving, played_others}
use Rattle.script_fold.proofs.StepScripts.{step_scripted}
use Rattle.domain_isolation.proofs.Answers.{IsServing}
use Rattle.domain_isolation.proofs.Steady.{is_cloaked}
use Rattle.kernel_isolation.proofs.Isolated.{until_read, of_opened}
use Rattle.kernel_isolation.proofs.Numbers.{AreFrom, number_at}
use Rattle.kernel_isolation.specs.Isolation.{joint_until}
use Rattle.page_law.specs.OwnPages.{program_of_step, StepsKeepPages, ClosingKeepsPages}
use Rattle.page_law.proofs.OwnDraws.{is_step}
use Rattle.page_law.proofs.Runs.{below_draws}
use Rattle.page_law.proofs.Calm.{outside_keeps}
use Rattle.std.proofs.Common.{[], ◌∷◌, ◌++◌, append_assoc, eq-eqb}
use Rattle.std.proofs.lemmas.Bool.{false≢true}
use Rattle.cloak_base.specs.declared.causes.Violation.{Violation}
use Rattle.cloak_model.specs.Items as item
use Rattle.cloak_model.specs.Joint.{end_domain, ends_once, ends_resumed, ends_asked, answers_violation}
use Rattle.cloak_model.specs.World.{items_of}
use Rattle.domain_isolation.proofs.Endings.{end_world, end_leaves}
use Rattle.page_law.specs.OwnPages.{is_end_of, ends_in}

-- the pages of a program are the same
abbrev Keeps : ℕ → Joint → Joint → Type 0
Keeps d j j' = domain_pages d j'.memory.plain ≡ domain_pages d j.memory.plain

-- A hart inside.

domain_ended_keeps : (d : ℕ) (j : Joint) (number : ℕ) (h : Hart) (e : ℕ) (w : World) (how : Went) →
    Keeps d j (domain_ended j number h e w how).joint
unfolding domain_ended
domain_ended_keeps d j number h e w went.Stay = refl
domain_ended_keeps d j number h e w _ = refl

interrupt_ended_keeps : (d : ℕ) (j : Joint) (number : ℕ) (h : Hart) (items : List Item) (how : Went) →
    Keeps d j (interrupt_ended j number h items how).joint
unfolding interrupt_ended
interrupt_ended_keeps d j number h items went.Stay = refl
interrupt_ended_keeps d j number h items _ = refl

pub memory_plain : (w : World) (m : CloakedMemory) → is_cloaked w ≡ true → plain_of w ≡ (memory_of w m).plain
memory_plain (Cloaked c) m form = refl
memory_plain _ m form = absurd cc

-- what a program's step told
told_keeps : (d : ℕ) (j : Joint) (number : ℕ) (h : Hart) (e : ℕ) (told : Told DomainStepped) →
    is_cloaked told.world ≡ true → domain_pages d (plain_of told.world) ≡ domain_pages d j.memory.plain →
    Keeps d j (after_domain_step j number h e told).joint
unfolding after_domain_step
told_keeps d j number h e told form kept =
    domain_ended_keeps d _ number h e told.world told.answer.went
    ∙ (ap (λ (plain : PageId → List ℕ). domain_pages d plain) (sym (memory_plain told.world j.memory form)) ∙ kept)

-- a step of another program
step_keeps : (d slot : ℕ) (was : Domain) (j : Joint) (number : ℕ) (h : Hart) (e : ℕ) (pages : ℕ → Option PageId) →
    was.control.number ≡ e → d ≢ e →
    Keeps d j (after_domain_step j number h e (domain_step slot was (Cloaked (cloak_of j.memory h e pages)))).joint
unfolding domain_step
step_keeps d slot was j number h e pages own other =
    let w : World = Cloaked (cloak_of j.memory h e pages) in
    let n = was.control.number in
    let s = domain_script slot was in
    let of_it = (step_scripted slot was).own in
    let serving : IsServing n w = record { form = refl; regime = sym own } in
    told_keeps d j number h e (played s w) (played_serving n s of_it w serving).form
    (played_others n s of_it w serving d (λ is. other (is ∙ own)))

by_keeps : (d : ℕ) (due : Bool) (j : Joint) (number : ℕ) (h : Hart) (e slot : ℕ) (was : Domain) →
    was.control.number ≡ e → d ≢ e → Keeps d j (by_interrupt due j number h e slot was).joint
unfolding by_interrupt after_interrupt
by_keeps d true j number h e slot was own other = interrupt_ended_keeps d _ number h _ _
by_keeps d false j number h e slot was own other = step_keeps d slot was j number h e _ own other

running_keeps : (d : ℕ) (runs : Bool) (j : Joint) (number : ℕ) (h : Hart) (ctx : ℕ) (was : Domain) →
    was.control.number ≡ domain_of ctx → d ≢ domain_of ctx → Keeps d j (by_running runs j number h ctx was).joint
unfolding by_running
running_keeps d false j number h ctx was own other = refl
running_keeps d true j number h ctx was own other = by_keeps d _ j number h (domain_of ctx) (slot_of ctx) was own other

inside_keeps : (d : ℕ) (j : Joint) (number : ℕ) (h : Hart) (ctx : ℕ) (found : Option Domain) →
    slice_get j.domains (domain_of ctx) ≡ found → AreFrom 0 j.domains → d ≢ domain_of ctx →
    Keeps d j (inside_step j number h ctx found).joint
unfolding inside_step
inside_keeps d j number h ctx None is programs other = refl
inside_keeps d j number h ctx (Some was) is programs other =
    running_keeps d _ j number h ctx was (number_at (domain_of ctx) j.domains was programs is) other

-- Every step.

turn_keeps : (d : ℕ) (j : Joint) (number : ℕ) (h : Hart) (inside : Option ℕ) → AreFrom 0 j.domains →
    option_map domain_of inside ≢ Some d → Keeps d j (turn_of j number h inside).joint
unfolding turn_of
turn_keeps d j number h None programs other =
    ap (λ (plain : PageId → List ℕ). domain_pages d plain) (outside_keeps j number h)
turn_keeps d j number h (Some ctx) programs other =
    inside_keeps d j number (ticked h) ctx _ refl programs
    (λ same. other (ap (λ (x : ℕ). Some x) (sym same)))

-- The end of another program.

or_true : (b : Bool) → (b || true) ≡ true
or_true true = refl
or_true false = refl

end_found : (d e : ℕ) (items : List Item) → e ≡ d → ends_in d (items ++ item.Ended e ∷ []) ≡ true
end_found d e [] same = ap (λ (b : Bool). b || false) (eq-eqb e d same)
end_found d e (i ∷ items) same = ap (λ (b : Bool). is_end_of d i || b) (end_found d e items same) ∙ or_true (is_end_of d i)

end_keeps : (d e : ℕ) (j : Joint) (was : Domain) (v : Violation) (t : Turn) → Keeps d j t.joint →
    ends_in d (end_domain e was v t).items ≡ false → Keeps d j (end_domain e was v t).joint
unfolding end_domain
end_keeps d e j was v t kept gone =
    let w = end_world e t.joint.memory in
    let told = end_found d e (t.items ++ items_of w) in
    let other : d ≢ e = λ same. false≢true (sym gone
    ∙ (ap (ends_in d) (sym (append_assoc t.items (items_of w) (item.Ended e ∷ []))) ∙ told (sym same))) in
    let leaves = end_leaves e t.joint.memory in
    ap (λ (plain : PageId → List ℕ). domain_pages d plain) (sym (memory_plain w t.joint.memory leaves.form))
    ∙ (leaves.others d other ∙ kept)

once_keeps : (d : ℕ) (over : Bool) (e : ℕ) (j : Joint) (was : Domain) (v : Violation) (t : Turn) → Keeps d j t.joint →
    ends_in d (ends_once over e was v t).items ≡ false → Keeps d j (ends_once over e was v t).joint
unfolding ends_once
once_keeps d true e j was v t kept gone = kept
once_keeps d false e j was v t kept gone = end_keeps d e j was v t kept gone

resumed_end_keeps : (d : ℕ) (found : Option Domain) (e : ℕ) (j : Joint) (v : Violation) (t : Turn) → Keeps d j t.joint →
    ends_in d (ends_resumed found e v t).items ≡ false → Keeps d j (ends_resumed found e v t).joint
unfolding ends_resumed
resumed_end_keeps d None e j v t kept gone = kept
resumed_end_keeps d (Some was) e j v t kept gone = once_keeps d _ e j was v t kept gone

asked_end_keeps : (d : ℕ) (found : Option Domain) (e : ℕ) (j : Joint) (v : Violation) (t : Turn) → Keeps d j t.joint →
    ends_in d (ends_asked found e v t).items ≡ false → Keeps d j (ends_asked found e v t).joint
unfolding ends_asked
asked_end_keeps d None e j v t kept gone = kept
asked_end_keeps d (Some was) e j v t kept gone = end_keeps d e j was v t kept gone

answers_keep : (d : ℕ) (inside : Option ℕ) (o : Option Violation) (j : Joint) (t : Turn) → Keeps d j t.joint →
    ends_in d (answers_violation inside o t).items ≡ false → Keeps d j (answers_violation inside o t).joint
unfolding answers_violation
answers_keep d inside None j t kept gone = kept
answers_keep d None (Some v) j t kept gone = resumed_end_keeps d _ _ j v t kept gone
answers_keep d (Some ctx) (Some v) j t kept gone = asked_end_keeps d _ _ j v t kept gone

-- the moment after n steps
abbrev pub moment_behind : Moment → ℕ → List Turn → Moment
moment_behind m n turns =
    record { schedule = m.schedule; steps = m.steps + n; joint = joint_after m.joint (take n turns) }

behind_stop : (o : Option Stop) (later : Moment → List Turn) (n steps : ℕ) (m : Moment) (t : Turn) →
    slice_get (unless_stopped o later m) n ≡ Some t →
    (slice_get (later m) n ≡ Some t → joint_step (record {
      schedule = m.schedule;
      steps = steps;
      joint = joint_after m.joint (take n (later m));
    }) ≡ t) →
    joint_step (record {
      schedule = m.schedule;
      steps = steps;
      joint = joint_after m.joint (take n (unless_stopped o later m));
    }) ≡ t
behind_stop (Some cause) later zero steps m t is more = absurd cc
behind_stop (Some cause) later (suc n) steps m t is more = absurd cc
behind_stop None later n steps m t is more = more is

pub step_is : (budget n : ℕ) (m : Moment) (t : Turn) → slice_get (turns_from budget m) n ≡ Some t →
    joint_step (moment_behind m n (turns_from budget m)) ≡ t
unfolding turns_from joint_after
step_is zero zero m t is = absurd cc
step_is zero (suc n) m t is = absurd cc
step_is (suc budget) zero m t is =
    let number : m.steps + 0 ≡ m.steps = omega arith in
    let same : joint_step m ≡ t = cc in
    ap (λ (x : ℕ). let m' : Moment = record { schedule = m.schedule; steps = x; joint = m.joint } in joint_step m')
    number ∙ same
step_is (suc budget) (suc n) m t is =
    let m' : Moment = after_turn m (joint_step m) in
    let number : m'.steps + n ≡ m.steps + suc n = omega arith in
    behind_stop (stop_of (joint_step m)) (turns_from budget) n (m.steps + suc n) m' t is
    (λ there. ap (λ (k : ℕ). let x : Moment = record {
      schedule = m.schedule;
      steps = k;
      joint = joint_after m'.joint (take n (turns_from budget m'));
    } in joint_step x) (sym number) ∙ step_is budget n m' t there)

joint_keeps : (d : ℕ) (m : Moment) → AreFrom 0 m.joint.domains →
    option_map domain_of (hart_in m.joint (next_hart m)).inside ≢ Some d → ends_in d (joint_step m).items ≡ false →
    Keeps d m.joint (joint_step m).joint
unfolding joint_step
joint_keeps d m programs other gone =
    let h = hart_in m.joint (next_hart m) in
    answers_keep d h.inside _ m.joint (turn_of m.joint (next_hart m) h h.inside)
    (turn_keeps d m.joint (next_hart m) h h.inside programs other) gone

steps_keep : (b : Bundle) (from : Beginning) (budget : ℕ) (o : RunEdge) → opening_from b from ≡ Ok o →
    let r = run_of b budget o in
    (n : ℕ) (t : Turn) → slice_get r.turns n ≡ Some t → (d : ℕ) → program_of_step b r n ≢ Some d →
    ends_in d t.items ≡ false → domain_pages d t.joint.memory.plain ≡ domain_pages d (joint_until n r).memory.plain
unfolding run_of
steps_keep b from budget o opens n t is d other gone =
    let turns : List Turn = turns_from budget (first_moment b o.joint) in
    let low = is_step turns n t is in
    let steady = (until_read b from budget o opens n (omega (arith, low))).steady in
    let m : Moment = moment_behind (first_moment b o.joint) n turns in
    let number : m.steps ≡ n = omega arith in
    let hart = ap (λ (k : ℕ). option_map domain_of
    (hart_in m.joint (slice_index b.kernel.schedule (k % length b.kernel.schedule))).inside) number in
    let step = step_is budget n (first_moment b o.joint) t is in
    subst (λ (x : Turn). domain_pages d x.joint.memory.plain ≡ domain_pages d m.joint.memory.plain) step
    (joint_keeps d m steady.programs (λ is'. other (sym hart ∙ is'))
    (subst (λ (x : Turn). ends_in d x.items ≡ false) (sym step) gone))

closing_is_kept : (j : Joint) → (closing j).joint.memory.plain ≡ j.memory.plain
unfolding closing
closing_is_kept j = (below_draws {count = 0} (length j.memory.ram) j.memory (hart_in j 0)).plain

closing_keeps : (b : Bundle) (budget : ℕ) (o : RunEdge) → let r = run_of b budget o in
    r.closed.joint.memory.plain ≡ (joint_until (length r.turns) r).memory.plain
unfolding run_of
closing_keeps b budget o =
    let turns : List Turn = turns_from budget (first_moment b o.joint) in
    let all : take (length turns) turns ≡ turns = take_all (length turns) turns (omega arith) in
    closing_is_kept (joint_after o.joint turns)
    ∙ ap (λ (ts : List Turn). (joint_after o.joint ts).memory.plain) (sym all)

pub steps_keep_pages : StepsKeepPages
steps_keep_pages b from budget r is =
    of_opened b budget
    (λ (r : Run). (n : ℕ) (t : Turn) → slice_get r.turns n ≡ Some t → (d : ℕ) → program_of_step b r n ≢ Some d →
    ends_in d t.items ≡ false → domain_pages d t.joint.memory.plain ≡ domain_pages d (joint_until n r).memory.plain)
    (opening_from b from) r is (steps_keep b from budget)

pub closing_keeps_pages : ClosingKeepsPages
closing_keeps_pages b from budget r is =
    of_opened b budget
    (λ (r : Run). r.closed.joint.memory.plain ≡ (joint_until (length r.turns) r).memory.plain)
    (opening_from b from) r is (λ o opens. closing_keeps b budget o)
