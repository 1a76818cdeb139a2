-- A step of the joint run shows pages as it found them, under draws one after another.
use Rattle.std.proofs.Common.{◌≡◌, ◌∙◌, ◌<◌, ◌≤◌, ℕ, Bool, true, false, List, [], ◌∷◌, ◌++◌, Option, Some, None, Result, Ok, Err, refl, sym, ap, subst, arith}
use Rattle.std.proofs.lemmas.Option.{slice_get_within}
use Rattle.cloak_base.specs.declared.causes.Shown.{Shown}
use Rattle.cloak_base.specs.declared.names.PageId.{PageId}
use Rattle.cloak_model.specs.declared.context.ResumeFault.{ResumeFault}
use Rattle.cloak_model.specs.declared.image.Program.{Program}
use Rattle.cloak_model.specs.declared.inside.Went.{Went}
use Rattle.cloak_model.specs.declared.inside.Went.TheVariants as went
use Rattle.cloak_model.specs.Items.{Item}
use Rattle.cloak_model.specs.Items as item
use Rattle.cloak_model.specs.declared.outcome.Kernel.{Kernel}
use Rattle.cloak_model.specs.declared.outcome.Kernel.TheVariants.{Resume}
use Rattle.cloak_model.specs.Ahead.{settled_step, made_after}
use Rattle.cloak_model.specs.Asking.{Told}
use Rattle.cloak_model.specs.Beginning.{Beginning}
use Rattle.cloak_model.specs.Cloaking.{CloakedMemory}
use Rattle.cloak_model.specs.Contexts.{Admitted, context_at, domain_of, slot_of}
use Rattle.cloak_model.specs.DomainState.{Control, Domain}
use Rattle.cloak_model.specs.DomainStep.{DomainStepped}
use Rattle.cloak_model.specs.Hart.{Hart}
use Rattle.cloak_model.specs.Hypercalls.{Stepped}
use Rattle.cloak_model.specs.Joint.{Moment, Turn, cloak_of, memory_of, outside_ended, after_outside, outside_step, domain_ended, after_domain_step, pages_for, interrupt_ended, after_interrupt, by_interrupt, left, by_running, inside_step, turn_of, joint_step}
use Rattle.cloak_model.specs.KernelStep.{ticked}
use Rattle.cloak_model.specs.Parts.{Joint}
use Rattle.cloak_model.specs.Resuming.{AfterResume, resume}
use Rattle.cloak_model.proofs.ResumeParts.{by_root, by_context, by_domain}
use Rattle.cloak_model.specs.World.{World, MidStep, Cloaked, items_of}
use Rattle.kernel_isolation.proofs.Numbers.{AreFrom, number_at}
use Rattle.page_law.proofs.Draws.{OwesPagesOf, HasDrawn, draws_stay, draw_behind, draw_behind-append, AreShown, shown-append, Draws}
use Rattle.page_law.proofs.Settlings.{touched_draws}
use Rattle.page_law.proofs.Worlds.{ShowsFirstFrom}
use Rattle.std.specs.Prelude.{length, slice_get, is_some}
use Rattle.cloak_base.specs.declared.causes.Violation.{Violation}
use Rattle.cloak_model.specs.Ending.{ask_end, cloak_for}
use Rattle.cloak_model.specs.Opening.{numbers_below}
use Rattle.cloak_model.specs.World.{ram_of}
use Rattle.cloak_model.specs.Joint.{next_hart, hart_in, end_domain, ends_once, ends_resumed, ends_asked, answers_violation}
use Rattle.page_law.proofs.Worlds.{OnlyShows, ShowsFirst, ShowsFirst-behind, OnlyChanges-ends}
use Rattle.script_fold.proofs.Endings.{keeps_settled_for}
use Rattle.page_law.proofs.Questions.{show_replies}
use Rattle.page_law.proofs.Calm.{turn_calm}
use Rattle.page_law.proofs.Steps.{ends_domain_step, changes_forgets}

-- From one memory to a later one these items were written, and their Ciphers show pages as they were at first.
pub record Uses (count : ℕ) (m : CloakedMemory) (items : List Item) (m' : CloakedMemory) : Type 0 where
  pub drawn : (programs : List Program) (from : Beginning) (n : ℕ) → HasDrawn count programs from n m.ledger →
      HasDrawn count programs from (draw_behind items n) m'.ledger
  pub shown : (programs : List Program) (from : Beginning) (n : ℕ) → HasDrawn count programs from n m.ledger →
      AreShown programs from m.plain n items

abbrev pub TurnUses : ℕ → Joint → Turn → Type 0
TurnUses count j t = Uses count j.memory t.items t.joint.memory

-- Items without a Cipher.
record IsSilent (items : List Item) : Type 0 where
  pub counts : (n : ℕ) → draw_behind items n ≡ n
  pub shows : (programs : List Program) (from : Beginning) (plain : PageId → List ℕ) (n : ℕ) →
      AreShown programs from plain n items

-- keys and stream are as they were, and what is owed
record SameDraws (m m' : CloakedMemory) : Type 0 where
  pub keys : m'.ledger.keys ≡ m.ledger.keys
  pub owed : m'.ledger.owed ≡ m.ledger.owed
  pub stream : m'.ledger.stream ≡ m.ledger.stream

still_drawn : {count : ℕ} {programs : List Program} (from : Beginning) (n : ℕ) (m m' : CloakedMemory) →
    HasDrawn count programs from n m.ledger → SameDraws m m' → HasDrawn count programs from n m'.ledger
still_drawn {count} {programs} from n m m' has same =
    draws_stay from n m.ledger m'.ledger has same.keys
    (subst (OwesPagesOf (length programs)) (sym same.owed) has.owed) same.stream

uses_draws : {count : ℕ} (m : CloakedMemory) (items : List Item) (m' m'' : CloakedMemory) → Draws count m items m' →
    SameDraws m' m'' → Uses count m items m''
uses_draws m items m' m'' d same = record {
  drawn = λ programs from n has.
      still_drawn from (draw_behind items n) m' m'' (d.drawn programs from n has) same;
  shown = d.shown;
}

uses_more : {count : ℕ} (m m' m'' : CloakedMemory) (items more : List Item) → Uses count m items m' → IsSilent more →
    SameDraws m' m'' → Uses count m (items ++ more) m''
uses_more {count} m m' m'' items more u silent same = record {
  drawn = λ programs from n has.
      subst (λ (k : ℕ). HasDrawn count programs from k m''.ledger)
      (sym (draw_behind-append items more n ∙ silent.counts (draw_behind items n)))
      (still_drawn from (draw_behind items n) m' m'' (u.drawn programs from n has) same);
  shown = λ programs from n has.
      shown-append programs from m.plain n items more (u.shown programs from n has)
      (silent.shows programs from m.plain (draw_behind items n));
}

uses_none : {count : ℕ} (m : CloakedMemory) → Uses count m [] m
uses_none m = record { drawn = λ programs from n has. has; shown = λ programs from n has. tt }

-- A hart outside.

-- Resuming writes no Cipher, and makes no draw.
record ResumesSilently (j : Joint) (r : AfterResume) : Type 0 where
  pub items : IsSilent r.items
  pub same : SameDraws j.memory r.joint.memory

violated_silently : (j : Joint) (r : AfterResume) → r.items ≡ [] → r.joint ≡ j → ResumesSilently j r
violated_silently j r none stays = record {
  items = subst IsSilent (sym none) (record { counts = λ n. refl; shows = λ programs from plain n. tt });
  same = subst (λ (x : Joint). SameDraws j.memory x.memory) (sym stays)
      (record { keys = refl; owed = refl; stream = refl });
}

root_silently : (j : Joint) (satp ctx reply : ℕ) (d : Domain) (control : Control) (a : Admitted)
    (answer : Result (Unit {0}) ResumeFault) → ResumesSilently j (by_root j satp ctx reply d control a answer)
unfolding by_root
root_silently j satp ctx reply d control a (Err fault) = violated_silently j _ refl refl
root_silently j satp ctx reply d control a (Ok done) = record {
  items = record { counts = λ n. refl; shows = λ programs from plain n. (tt, tt) };
  same = record { keys = refl; owed = refl; stream = refl };
}

context_silently : (j : Joint) (satp ctx reply : ℕ) (d : Domain) (control : Control)
    (answer : Result (Unit {0}) ResumeFault) → ResumesSilently j (by_context j satp ctx reply d control answer)
unfolding by_context
context_silently j satp ctx reply d control (Err fault) = violated_silently j _ refl refl
context_silently j satp ctx reply d control (Ok done) = root_silently j satp ctx reply d control _ _

domain_silently : (j : Joint) (hart satp ctx reply : ℕ) (found : Option Domain) →
    ResumesSilently j (by_domain j hart satp ctx reply found)
unfolding by_domain
domain_silently j hart satp ctx reply None = violated_silently j _ refl refl
domain_silently j hart satp ctx reply (Some d) = context_silently j satp ctx reply d _ _

resumes_silently : (j : Joint) (hart satp ctx reply : ℕ) → ResumesSilently j (resume j hart satp ctx reply)
unfolding resume by_domain by_context by_root
resumes_silently j hart satp ctx reply = domain_silently j hart satp ctx reply _

outside_ends : {count : ℕ} (m : CloakedMemory) (j : Joint) (number : ℕ) (items : List Item) (k : Kernel) →
    Uses count m items j.memory →
    let t = outside_ended j number items k in Uses count m t.items t.joint.memory
unfolding outside_ended
outside_ends m j number items (Resume ctx answer) u =
    let r = resumes_silently j number _ ctx answer in
    uses_more m j.memory _ items _ u r.items r.same
outside_ends m j number items _ u = u

outside_uses : {count : ℕ} (j : Joint) (number : ℕ) (h : Hart) → TurnUses count j (outside_step j number h)
unfolding outside_step after_outside settled_step made_after
outside_uses j number h =
    outside_ends j.memory _ number _ _
    (uses_draws j.memory _ _ _ (touched_draws h j.disk j.memory) (record { keys = refl; owed = refl; stream = refl }))

-- A hart inside.

silent_leave : (s : Shown) → IsSilent (item.Leave s ∷ [])
silent_leave s = record { counts = λ n. refl; shows = λ programs from plain n. (tt, tt) }

domain_ends : {count : ℕ} (m : CloakedMemory) (j : Joint) (number : ℕ) (h : Hart) (d : ℕ) (w : World) (how : Went) →
    Uses count m (items_of w) j.memory → let t = domain_ended j number h d w how in Uses count m t.items t.joint.memory
unfolding domain_ended
domain_ends m j number h d w (went.Leave s) u =
    uses_more m j.memory _ (items_of w) _ u (silent_leave s) (record { keys = refl; owed = refl; stream = refl })
domain_ends m j number h d w (went.SpaceGone space s) u =
    uses_more m j.memory _ (items_of w) _ u (silent_leave s) (record { keys = refl; owed = refl; stream = refl })
domain_ends m j number h d w _ u = u

ended_uses : {count : ℕ} (was : CloakedMemory) (c : MidStep) (v : World) → c.items ≡ [] → ShowsFirstFrom count c v →
    Uses count c.memory (items_of v) (memory_of v was)
ended_uses {count} was c v none e =
    let written : e.to.items ≡ e.items = e.written ∙ ap (λ (l : List Item). l ++ e.items) none in
    subst (λ (x : World). Uses count c.memory (items_of x) (memory_of x was)) (sym e.is)
    (subst (λ (l : List Item). Uses count c.memory l e.to.memory) (sym written)
    (record { drawn = e.drawn; shown = e.shown }))

told_uses : {count : ℕ} (j : Joint) (number : ℕ) (h : Hart) (d : ℕ) (c : MidStep) (told : Told DomainStepped) →
    c.memory ≡ j.memory → c.items ≡ [] → ShowsFirstFrom count c told.world →
    TurnUses count j (after_domain_step j number h d told)
unfolding after_domain_step
told_uses {count} j number h d c told memory none e =
    domain_ends j.memory _ number h d told.world told.answer.went
    (subst (λ (m : CloakedMemory). Uses count m (items_of told.world) (memory_of told.world j.memory)) memory
    (ended_uses j.memory c told.world none e))

silent_timer : (d : ℕ) → IsSilent (item.Timer d ∷ [])
silent_timer d = record { counts = λ n. refl; shows = λ programs from plain n. (tt, tt) }

timer_uses : {count : ℕ} (m : CloakedMemory) (d : ℕ) → Uses count m (item.Timer d ∷ []) m
timer_uses m d =
    uses_more m m m [] (item.Timer d ∷ []) (uses_none m) (silent_timer d)
    (record { keys = refl; owed = refl; stream = refl })

interrupt_ends : {count : ℕ} (m : CloakedMemory) (j : Joint) (number : ℕ) (h : Hart) (items : List Item) (how : Went) →
    Uses count m items j.memory → let t = interrupt_ended j number h items how in Uses count m t.items t.joint.memory
unfolding interrupt_ended
interrupt_ends m j number h items (went.Leave s) u =
    uses_more m j.memory _ items _ u (silent_leave s) (record { keys = refl; owed = refl; stream = refl })
interrupt_ends m j number h items _ u = u

after_interrupt_uses : {count : ℕ} (j : Joint) (number : ℕ) (h : Hart) (d : ℕ) (was : Domain) (step : Stepped) →
    TurnUses count j (after_interrupt j number h d was step)
unfolding after_interrupt
after_interrupt_uses j number h d was step =
    interrupt_ends j.memory _ number h (item.Timer d ∷ []) step.went (timer_uses j.memory d)

domain_uses : {count : ℕ} (due : Bool) (j : Joint) (number : ℕ) (h : Hart) (d slot : ℕ) (was : Domain) →
    was.control.number < count → TurnUses count j (by_interrupt due j number h d slot was)
unfolding by_interrupt
domain_uses true j number h d slot was low = after_interrupt_uses j number h d was _
domain_uses false j number h d slot was low =
    let c : MidStep = cloak_of j.memory h d (pages_for was (context_at was.control.contexts slot)) in
    told_uses j number h d c _ refl refl ((ends_domain_step slot was (Cloaked c) low).ends.by c refl)

left_uses : {count : ℕ} (j : Joint) (number : ℕ) (h : Hart) (s : Shown) → TurnUses count j (left j number h [] s)
left_uses j number h s =
    uses_more j.memory _ _ [] _ (uses_none j.memory) (silent_leave s)
    (record { keys = refl; owed = refl; stream = refl })

running_uses : {count : ℕ} (runs : Bool) (j : Joint) (number : ℕ) (h : Hart) (ctx : ℕ) (was : Domain) →
    was.control.number < count → TurnUses count j (by_running runs j number h ctx was)
unfolding by_running
running_uses false j number h ctx was low = left_uses j number h _
running_uses true j number h ctx was low = domain_uses _ j number h (domain_of ctx) (slot_of ctx) was low

-- Each program's place is its number, and there are at most `count` of them.
pub record AreAtMost (count : ℕ) (j : Joint) : Type 0 where
  pub programs : AreFrom 0 j.domains
  pub few : length j.domains ≤ count

inside_uses : {count : ℕ} (j : Joint) (number : ℕ) (h : Hart) (ctx : ℕ) (found : Option Domain) →
    slice_get j.domains (domain_of ctx) ≡ found → AreAtMost count j →
    TurnUses count j (inside_step j number h ctx found)
unfolding inside_step
inside_uses j number h ctx None is all = left_uses j number h _
inside_uses j number h ctx (Some was) is all =
    let own = number_at (domain_of ctx) j.domains was all.programs is in
    let within = slice_get_within j.domains (domain_of ctx) was is in
    let few = all.few in
    running_uses _ j number h ctx was (omega (arith, own, within, few))

-- Every step.

turn_uses : {count : ℕ} (j : Joint) (number : ℕ) (h : Hart) (inside : Option ℕ) → AreAtMost count j →
    TurnUses count j (turn_of j number h inside)
unfolding turn_of
turn_uses j number h None all = outside_uses j number h
turn_uses j number h (Some ctx) all = inside_uses j number (ticked h) ctx _ refl all

-- The end of a domain.

end_shows : {count : ℕ} (d : ℕ) (w : World) → ShowsFirst count w (ask_end d w).world
unfolding ask_end
end_shows {count} d w =
    ShowsFirst-behind _ _ _ (keeps_settled_for (OnlyShows count) show_replies.opens.settles d 0 (length (ram_of w)) w)
    (OnlyChanges-ends _ _ (changes_forgets d (numbers_below 16) _))

uses_then : {count : ℕ} (m m' m'' : CloakedMemory) (a b : List Item) → Uses count m a m' → m'.plain ≡ m.plain →
    Uses count m' b m'' → Uses count m (a ++ b) m''
uses_then {count} m m' m'' a b p plain q = record {
  drawn = λ programs from n has.
      subst (λ (k : ℕ). HasDrawn count programs from k m''.ledger) (sym (draw_behind-append a b n))
      (q.drawn programs from (draw_behind a n) (p.drawn programs from n has));
  shown = λ programs from n has.
      shown-append programs from m.plain n a b (p.shown programs from n has)
      (subst (λ (plain : PageId → List ℕ). AreShown programs from plain (draw_behind a n) b) plain
      (q.shown programs from (draw_behind a n) (p.drawn programs from n has)));
}

silent_end : (d : ℕ) → IsSilent (item.Ended d ∷ [])
silent_end d = record { counts = λ n. refl; shows = λ programs from plain n. (tt, tt) }

end_uses : {count : ℕ} (d : ℕ) (was : Domain) (v : Violation) (j : Joint) (t : Turn) → TurnUses count j t →
    t.joint.memory.plain ≡ j.memory.plain → TurnUses count j (end_domain d was v t)
unfolding end_domain
end_uses d was v j t u plain =
    let m = t.joint.memory in
    let c : MidStep = cloak_for m d in
    let w = (ask_end d (Cloaked c)).world in
    uses_then j.memory m _ t.items _ u plain
    (uses_more m (memory_of w m) _ (items_of w) (item.Ended d ∷ [])
    (ended_uses m c w refl ((end_shows d (Cloaked c)).by c refl)) (silent_end d)
    (record { keys = refl; owed = refl; stream = refl }))

once_uses : {count : ℕ} (over : Bool) (d : ℕ) (was : Domain) (v : Violation) (j : Joint) (t : Turn) →
    TurnUses count j t → t.joint.memory.plain ≡ j.memory.plain → TurnUses count j (ends_once over d was v t)
unfolding ends_once
once_uses true d was v j t u plain = u
once_uses false d was v j t u plain = end_uses d was v j t u plain

resumed_end_uses : {count : ℕ} (found : Option Domain) (d : ℕ) (v : Violation) (j : Joint) (t : Turn) →
    TurnUses count j t → t.joint.memory.plain ≡ j.memory.plain → TurnUses count j (ends_resumed found d v t)
unfolding ends_resumed
resumed_end_uses None d v j t u plain = u
resumed_end_uses (Some was) d v j t u plain = once_uses _ d was v j t u plain

asked_end_uses : {count : ℕ} (found : Option Domain) (d : ℕ) (v : Violation) (j : Joint) (t : Turn) →
    TurnUses count j t → t.joint.memory.plain ≡ j.memory.plain → TurnUses count j (ends_asked found d v t)
unfolding ends_asked
asked_end_uses None d v j t u plain = u
asked_end_uses (Some was) d v j t u plain = end_uses d was v j t u plain

answers_use : {count : ℕ} (inside : Option ℕ) (o : Option Violation) (j : Joint) (t : Turn) → TurnUses count j t →
    (is_some o ≡ true → t.joint.memory.plain ≡ j.memory.plain) → TurnUses count j (answers_violation inside o t)
unfolding answers_violation
answers_use inside None j t u plain = u
answers_use None (Some v) j t u plain = resumed_end_uses _ _ v j t u (plain refl)
answers_use (Some ctx) (Some v) j t u plain = asked_end_uses _ _ v j t u (plain refl)

pub step_uses : {count : ℕ} (m : Moment) → AreAtMost count m.joint → TurnUses count m.joint (joint_step m)
unfolding joint_step
step_uses m all =
    let h = hart_in m.joint (next_hart m) in
    let t : Turn = turn_of m.joint (next_hart m) h h.inside in
    answers_use h.inside t.violation m.joint t (turn_uses m.joint (next_hart m) h h.inside all)
    (turn_calm m.joint (next_hart m) h h.inside)
