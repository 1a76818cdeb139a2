-- What each change of a memory keeps, a step of the joint machine keeps.
use Rattle.std.proofs.Common.{◌≡◌, ℕ, Bool, true, false, List, slice_get, Option, Some, None, Result, Ok, Err}
use Rattle.cloak_base.specs.declared.causes.Violation.{Violation}
use Rattle.cloak_base.specs.declared.names.SpaceId.{SpaceId}
use Rattle.cloak_model.specs.declared.context.ResumeFault.{ResumeFault}
use Rattle.cloak_model.specs.declared.image.Bundle.{Bundle}
use Rattle.cloak_model.specs.declared.inside.Went.{Went}
use Rattle.cloak_model.specs.declared.inside.Went.TheVariants as went
use Rattle.cloak_model.specs.Items.{Item}
use Rattle.cloak_model.specs.declared.outcome.Kernel.{Kernel}
use Rattle.cloak_model.specs.declared.outcome.Kernel.TheVariants.{Resume}
use Rattle.cloak_model.specs.Ahead.{settle_touched, settled_step, made_after}
use Rattle.cloak_model.specs.Asking.{Told}
use Rattle.cloak_model.specs.Beginning.{Beginning, opening_from}
use Rattle.cloak_model.specs.Cloaking.{CloakedMemory, AfterSettling, seen_in, with_seen}
use Rattle.cloak_model.specs.Contexts.{Admitted, context_at, domain_of, slot_of, forget_root}
use Rattle.cloak_model.specs.DomainState.{Control, Domain}
use Rattle.cloak_model.specs.DomainStep.{DomainStepped, domain_step}
use Rattle.cloak_model.specs.Ending.{ask_end, cloak_for, without_roots}
use Rattle.cloak_model.specs.Hart.{Hart}
use Rattle.cloak_model.specs.Hypercalls.{Stepped}
use Rattle.cloak_model.specs.Joint.{Moment, Turn, next_hart, cloak_of, cloak_outside, memory_of, without_mark, without_root, outside_ended, after_outside, outside_step, domain_ended, after_domain_step, pages_for, interrupt_ended, after_interrupt, by_interrupt, by_running, inside_step, turn_of, end_domain, step_before_end, joint_step}
use Rattle.cloak_model.specs.KernelStep.{kernel_step, ticked}
use Rattle.cloak_model.specs.Memory.{Seen, with_mark}
use Rattle.cloak_model.specs.Opening.{RunEdge}
use Rattle.cloak_model.specs.Parts.{Joint}
use Rattle.cloak_model.specs.Resuming.{resume}
use Rattle.cloak_model.specs.Run.{Run, run_from}
use Rattle.cloak_model.proofs.ResumeParts.{with_roots, by_root, by_context, by_domain}
use Rattle.cloak_model.specs.World.{World, MidStep, Flat, Cloaked, Alone, seen_of}
use Rattle.kernel_isolation.specs.Isolation.{joint_until}
use Rattle.kernel_isolation.proofs.Ahead.{SettleKeeps, touched_keeps}
use Rattle.kernel_isolation.proofs.Opened.{is_opened}
use Rattle.kernel_isolation.proofs.Settlings.{HasPlaces}
use Rattle.kernel_isolation.proofs.Turns.{IsSteady, turn_is_alone}
use Rattle.limit_law.proofs.Endings.{answers_keep}
use Rattle.limit_law.proofs.Moments.{at_every_moment}
use Rattle.limit_law.proofs.Worlds.{InWorld, EachKeeps, step_in, end_keeps}

-- What takes a memory from P, before a step, to Q.
pub record Carries (P Q : CloakedMemory → Type 0) : Type 0 where
  pub settled : SettleKeeps P
  pub later : (m : CloakedMemory) → P m → Q m
  pub stepped : (slot : ℕ) (was : Domain) (c : MidStep) → HasPlaces c.memory → P c.memory →
      InWorld Q (domain_step slot was (Cloaked c)).world
  pub seen : (s : Seen) (m : CloakedMemory) → Q m → Q (with_seen s m)
  pub rooted : (root : SpaceId → Option ℕ) (m : CloakedMemory) → Q m → Q (with_roots root m)
  pub ended : (d : ℕ) (m : CloakedMemory) → Q m → InWorld Q (ask_end d (Cloaked (cloak_for m d))).world

-- The same of memories alone: what follows a step's world is the memory that the joint machine takes from it.
pub record Moves (P Q : CloakedMemory → Type 0) : Type 0 where
  pub settled : SettleKeeps P
  pub later : (m : CloakedMemory) → P m → Q m
  pub stepped : (slot : ℕ) (was : Domain) (c : MidStep) → HasPlaces c.memory → P c.memory → (m : CloakedMemory) → Q m →
      Q (memory_of (domain_step slot was (Cloaked c)).world m)
  pub made : (h : Hart) (disk : List ℕ) (m : CloakedMemory) → Q m →
      Q (with_seen (seen_of (kernel_step h disk (Flat (seen_in m))).world) m)
  pub unmarked : (number : ℕ) (m : CloakedMemory) → Q m → Q (without_mark number m)
  pub rooted : (root : SpaceId → Option ℕ) (m : CloakedMemory) → Q m → Q (with_roots root m)
  pub ended : (d : ℕ) (m : CloakedMemory) → Q m → Q (memory_of (ask_end d (Cloaked (cloak_for m d))).world m)

module _ (P Q : CloakedMemory → Type 0) (k : Moves P Q) where
  abbrev JointQ : Joint → Type 0
  JointQ j = Q j.memory

  -- A hart outside.

  root_kept : (j : Joint) (satp ctx reply : ℕ) (was : Domain) (control : Control) (admitted : Admitted)
      (answer : Result (Unit {0}) ResumeFault) → JointQ j → JointQ (by_root j satp ctx reply was control admitted answer).joint
  unfolding by_root
  root_kept j satp ctx reply was control admitted (Err fault) here = here
  root_kept j satp ctx reply was control admitted (Ok done) here = k.rooted admitted.root j.memory here

  context_kept : (j : Joint) (satp ctx reply : ℕ) (was : Domain) (control : Control)
      (answer : Result (Unit {0}) ResumeFault) → JointQ j → JointQ (by_context j satp ctx reply was control answer).joint
  unfolding by_context
  context_kept j satp ctx reply was control (Err fault) here = here
  context_kept j satp ctx reply was control (Ok done) here = root_kept j satp ctx reply was control _ _ here

  domain_kept : (j : Joint) (hart satp ctx reply : ℕ) (found : Option Domain) → JointQ j →
      JointQ (by_domain j hart satp ctx reply found).joint
  unfolding by_domain
  domain_kept j hart satp ctx reply None here = here
  domain_kept j hart satp ctx reply (Some was) here = context_kept j satp ctx reply was _ _ here

  resume_kept : (j : Joint) (hart satp ctx reply : ℕ) → JointQ j → JointQ (resume j hart satp ctx reply).joint
  unfolding resume by_domain by_context by_root
  resume_kept j hart satp ctx reply here = domain_kept j hart satp ctx reply _ here

  outside_ended_kept : (j : Joint) (number : ℕ) (items : List Item) (e : Kernel) → JointQ j →
      JointQ (outside_ended j number items e).joint
  unfolding outside_ended
  outside_ended_kept j number items (Resume ctx reply) here = resume_kept j number _ ctx reply here
  outside_ended_kept j number items _ here = here

  outside_by : (j : Joint) (number : ℕ) (h : Hart) (s : AfterSettling) → Q s.memory →
      JointQ (after_outside j number (made_after h j.disk (cloak_outside j.memory h) s)).joint
  unfolding after_outside made_after
  outside_by j number h s here = outside_ended_kept _ number _ _ (k.made h j.disk s.memory here)

  outside_kept : (j : Joint) (number : ℕ) (h : Hart) → P j.memory → JointQ (outside_step j number h).joint
  unfolding outside_step settled_step
  outside_kept j number h here =
      outside_by j number h (settle_touched h j.disk j.memory)
      (k.later _ (touched_keeps P k.settled h j.disk j.memory here))

  -- A hart inside.

  went_kept : (j : Joint) (number : ℕ) (h : Hart) (d : ℕ) (w : World) (how : Went) → JointQ j →
      JointQ (domain_ended j number h d w how).joint
  unfolding domain_ended
  went_kept j number h d w (went.Leave s) here = k.unmarked number j.memory here
  went_kept j number h d w (went.SpaceGone space s) here =
      let gone : SpaceId = record { domain = d; number = space } in
      k.unmarked number (without_root gone j.memory) (k.rooted (forget_root gone j.memory.ledger.root) j.memory here)
  went_kept j number h d w _ here = here

  told_kept : (j : Joint) (number : ℕ) (h : Hart) (d : ℕ) (told : Told DomainStepped) →
      Q (memory_of told.world j.memory) → JointQ (after_domain_step j number h d told).joint
  unfolding after_domain_step
  told_kept j number h d told there = went_kept _ number h d told.world told.answer.went there

  interrupted_kept : (j : Joint) (number : ℕ) (h : Hart) (items : List Item) (how : Went) → JointQ j →
      JointQ (interrupt_ended j number h items how).joint
  unfolding interrupt_ended
  interrupted_kept j number h items (went.Leave s) here = k.unmarked number j.memory here
  interrupted_kept j number h items _ here = here

  left_kept : (j : Joint) (number : ℕ) (h : Hart) (d : ℕ) (was : Domain) (step : Stepped) → P j.memory →
      JointQ (after_interrupt j number h d was step).joint
  unfolding after_interrupt
  left_kept j number h d was step here = interrupted_kept _ number h _ step.went (k.later j.memory here)

  due_kept : (due : Bool) (j : Joint) (number : ℕ) (h : Hart) (d slot : ℕ) (was : Domain) → HasPlaces j.memory →
      P j.memory → JointQ (by_interrupt due j number h d slot was).joint
  unfolding by_interrupt
  due_kept true j number h d slot was places here = left_kept j number h d was _ here
  due_kept false j number h d slot was places here =
      told_kept j number h d _
      (k.stepped slot was (cloak_of j.memory h d (pages_for was (context_at was.control.contexts slot))) places here
      j.memory (k.later j.memory here))

  running_kept : (runs : Bool) (j : Joint) (number : ℕ) (h : Hart) (ctx : ℕ) (was : Domain) → HasPlaces j.memory →
      P j.memory → JointQ (by_running runs j number h ctx was).joint
  unfolding by_running
  running_kept false j number h ctx was places here = k.unmarked number j.memory (k.later j.memory here)
  running_kept true j number h ctx was places here =
      due_kept _ j number h (domain_of ctx) (slot_of ctx) was places here

  inside_kept : (j : Joint) (number : ℕ) (h : Hart) (ctx : ℕ) (found : Option Domain) → HasPlaces j.memory →
      P j.memory → JointQ (inside_step j number h ctx found).joint
  unfolding inside_step
  inside_kept j number h ctx None places here = k.unmarked number j.memory (k.later j.memory here)
  inside_kept j number h ctx (Some was) places here = running_kept _ j number h ctx was places here

  turn_kept : (j : Joint) (number : ℕ) (h : Hart) (inside : Option ℕ) → HasPlaces j.memory → P j.memory →
      JointQ (turn_of j number h inside).joint
  unfolding turn_of
  turn_kept j number h None places here = outside_kept j number h here
  turn_kept j number h (Some ctx) places here = inside_kept j number (ticked h) ctx _ places here

  -- A domain ends.

  end_kept : (d : ℕ) (was : Domain) (v : Violation) (t : Turn) → slice_get t.joint.domains d ≡ Some was →
      JointQ t.joint → JointQ (end_domain d was v t).joint
  unfolding end_domain
  end_kept d was v t is here =
      let m : CloakedMemory = memory_of (ask_end d (Cloaked (cloak_for t.joint.memory d))).world t.joint.memory in
      k.rooted (without_roots d m.ledger.root) m (k.ended d t.joint.memory here)

  pub step_moves : (m : Moment) → HasPlaces m.joint.memory → P m.joint.memory → Q (joint_step m).joint.memory
  unfolding joint_step
  step_moves m places here =
      answers_keep JointQ (λ t there. there) end_kept _ _ (step_before_end m)
      (turn_kept m.joint (next_hart m) _ _ places here)

module _ (P Q : CloakedMemory → Type 0) (k : Carries P Q) where
  memory_kept : (w : World) (m : CloakedMemory) → InWorld Q w → Q m → Q (memory_of w m)
  memory_kept (Flat seen) m there here = k.seen seen m here
  memory_kept (Cloaked c) m there here = there
  memory_kept (Alone h) m there here = here

  pub moves : Moves P Q
  moves = record {
    settled = k.settled;
    later = k.later;
    stepped = λ slot was c places here m there.
        memory_kept (domain_step slot was (Cloaked c)).world m (k.stepped slot was c places here) there;
    made = λ h disk m here. k.seen (seen_of (kernel_step h disk (Flat (seen_in m))).world) m here;
    unmarked = λ number m here.
        k.seen (record { ram = m.ram; marks = with_mark number None m.marks }) m here;
    rooted = k.rooted;
    ended = λ d m here. memory_kept (ask_end d (Cloaked (cloak_for m d))).world m (k.ended d m here) here;
  }

  pub step_carries : (m : Moment) → HasPlaces m.joint.memory → P m.joint.memory → Q (joint_step m).joint.memory
  step_carries m places here = step_moves P Q moves m places here

-- what keeps it in each change, in a step too
pub each_carries : (P : CloakedMemory → Type 0) → EachKeeps P →
    ((s : Seen) (m : CloakedMemory) → P m → P (with_seen s m)) →
    ((root : SpaceId → Option ℕ) (m : CloakedMemory) → P m → P (with_roots root m)) → Carries P P
each_carries P k seen rooted = record {
  settled = k.settles;
  later = λ m here. here;
  stepped = λ slot was c places here. step_in P k slot was (Cloaked c) here;
  seen = seen;
  rooted = rooted;
  ended = λ d m here. end_keeps P k.settles k.drops d (Cloaked (cloak_for m d)) here;
}

-- At every moment of a run.

pub record SteadyWith (P : CloakedMemory → Type 0) (j : Joint) : Type 0 where
  pub steady : IsSteady j
  pub memory : P j.memory

pub moved_at : (P : CloakedMemory → Type 0) → Moves P P → (b : Bundle) (from : Beginning) (budget : ℕ) (r : Run) →
    ((o : RunEdge) → opening_from b from ≡ Ok o → P o.joint.memory) → run_from b from budget ≡ Ok r → (n : ℕ) →
    SteadyWith P (joint_until n r)
moved_at P k b from budget r opened =
    at_every_moment (SteadyWith P) b from budget r
    (λ o opens. record { steady = (is_opened b from o opens).steady; memory = opened o opens })
    (λ m same here. record {
      steady = (turn_is_alone m here.steady).steady;
      memory = step_moves P P k m here.steady.places here.memory;
    })

pub carried_at : (P : CloakedMemory → Type 0) → Carries P P → (b : Bundle) (from : Beginning) (budget : ℕ) (r : Run) →
    ((o : RunEdge) → opening_from b from ≡ Ok o → P o.joint.memory) → run_from b from budget ≡ Ok r → (n : ℕ) →
    SteadyWith P (joint_until n r)
carried_at P k = moved_at P (moves P P k)
