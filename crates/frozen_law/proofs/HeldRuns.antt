-- Pages that are owed or recorded are held: over each step of the joint machine.
use Rattle.std.proofs.Common.{◌≡◌, ◌∙◌, inl, inr, ℕ, ◌<◌, Bool, true, false, List, length, slice_get, slice_set, Option, Some, None, IfSome, Result, Ok, Err, refl, sym, ap, subst}
use Rattle.std.specs.Prelude.{IsSomeAnd, is_some, slice_index_or}
use Rattle.std.proofs.lemmas.Bool.{false≢true}
use Rattle.cloak_base.specs.declared.causes.Violation.{Violation}
use Rattle.cloak_base.specs.declared.names.PageId.{PageId}
use Rattle.cloak_model.specs.declared.context.ResumeFault.{ResumeFault}
use Rattle.cloak_model.specs.declared.inside.Went.{Went}
use Rattle.cloak_model.specs.declared.inside.Went.TheVariants as went
use Rattle.cloak_model.specs.Items.{Item}
use Rattle.cloak_model.specs.declared.outcome.Kernel.{Kernel}
use Rattle.cloak_model.specs.declared.outcome.Kernel.TheVariants.{Resume}
use Rattle.cloak_model.specs.Ahead.{settle_touched, settled_step, made_after}
use Rattle.cloak_model.specs.Asking.{Told}
use Rattle.cloak_model.specs.Cloaking.{CloakedMemory, AfterSettling, seen_in, with_seen}
use Rattle.cloak_model.specs.Contexts.{Admitted, context_at, domain_of, slot_of}
use Rattle.cloak_model.specs.DomainState.{Control, Domain}
use Rattle.cloak_model.specs.DomainStep.{DomainStepped, domain_step, interrupt}
use Rattle.cloak_model.specs.Ending.{ask_end, cloak_for, ended_domain}
use Rattle.cloak_model.specs.Hart.{Hart}
use Rattle.cloak_model.specs.Hypercalls.{Stepped}
use Rattle.cloak_model.specs.Joint.{Moment, Turn, next_hart, cloak_of, cloak_outside, memory_of, without_mark, without_root, outside_ended, after_outside, outside_step, domain_ended, after_domain_step, pages_for, interrupt_ended, after_interrupt, by_interrupt, by_running, inside_step, turn_of, end_domain, step_before_end, joint_step}
use Rattle.cloak_model.specs.KernelStep.{kernel_step, ticked}
use Rattle.cloak_model.specs.Opening.{numbers_below}
use Rattle.cloak_model.specs.Parts.{Joint}
use Rattle.cloak_model.specs.Resources.{Resources}
use Rattle.cloak_model.specs.Resuming.{resume}
use Rattle.cloak_model.proofs.ResumeParts.{with_roots, by_root, by_context, by_domain, resume_slot_resources, interrupt_if_resources}
use Rattle.cloak_model.specs.World.{World, MidStep, Flat, Cloaked, seen_of}
use Rattle.domain_isolation.proofs.InOrder.{decided}
use Rattle.kernel_isolation.proofs.Accounts.{is_joint, IsJointWorld, ram_seen}
use Rattle.kernel_isolation.proofs.Ends.{end_shows}
use Rattle.kernel_isolation.proofs.Numbers.{AreFrom, number_at}
use Rattle.kernel_isolation.proofs.Settlings.{HasPlaces, touched_shown}
use Rattle.kernel_isolation.proofs.StepAccounts.{accounts_domain_step}
use Rattle.kernel_isolation.proofs.Turns.{IsSteady, turn_is_alone}
use Rattle.settling_ahead.proofs.Touching.{writes_touched_alone}
use Rattle.kernel_isolation.proofs.Ahead.{touched_keeps}
use Rattle.limit_law.proofs.Endings.{answers_give}
use Rattle.frozen_state.specs.Limits.{KeepsLimits}
use Rattle.limit_law.proofs.Programs.{set_all, all_at}
use Rattle.limit_law.proofs.Steps.{step_kept, interrupt_kept, resume_kept}
use Rattle.limit_law.proofs.Turns.{Keeps, AllKeep, step_keep}
use Rattle.frozen_law.specs.Held.{IsHeldBy, IsHeldIn}
use Rattle.frozen_law.proofs.HeldCalls.{OfIn, IsApart, step_holds}
use Rattle.frozen_law.proofs.HeldEnds.{end_of, none_apart}
use Rattle.frozen_law.proofs.HeldPages.{IsKind}
use Rattle.frozen_law.proofs.Owned.{PagesAreOf, of_wide, settle_of}
use Rattle.latest_store.proofs.Begun.{get_other, get_same}

-- One program of a list, and the others.

abbrev pub HeldIf : PageId → Option Domain → Type 0
HeldIf q o = IsSomeAnd o (λ d. IsHeldBy d.control.resources q)

to_kind : (domains : List Domain) (d : ℕ) (was : Domain) → slice_get domains d ≡ Some was → was.control.number ≡ d →
    (q : PageId) → IsHeldIn domains q → IsKind was.control.number was.control.resources (IsHeldIn domains) q
to_kind domains d was there number q held = record {
  own = λ same.
      let at : slice_get domains q.domain ≡ Some was = ap (slice_get domains) (same ∙ number) ∙ there in
      subst (HeldIf q) at held;
  other = λ apart. held;
}

from_kind : (domains : List Domain) (d n : ℕ) (was new : Domain) → slice_get domains d ≡ Some was → n ≡ d →
    (q : PageId) → IsKind n new.control.resources (IsHeldIn domains) q → IsHeldIn (slice_set domains d new) q
from_kind domains d n was new there number q kind = elim (decided q.domain d) [
  | inl same ↦
      let at : slice_get (slice_set domains d new) q.domain ≡ Some new =
      ap (slice_get (slice_set domains d new)) same ∙ get_same domains d was new there in
      subst (HeldIf q) (sym at) (kind.own (same ∙ sym number))
  | inr apart ↦
      subst (HeldIf q) (sym (get_other domains d q.domain new apart)) (kind.other (λ same. apart (same ∙ number)))
]

-- the same resources
held_same : (domains : List Domain) (d : ℕ) (was new : Domain) → slice_get domains d ≡ Some was →
    was.control.number ≡ d → new.control.resources ≡ was.control.resources → (q : PageId) → IsHeldIn domains q →
    IsHeldIn (slice_set domains d new) q
held_same domains d was new there number same q held =
    from_kind domains d was.control.number was new there number q
    (subst (λ (r : Resources). IsKind was.control.number r (IsHeldIn domains) q) (sym same)
    (to_kind domains d was there number q held))

-- Memories.

record Good (domains : List Domain) (m : CloakedMemory) : Type 0 where
  pub places : HasPlaces m
  pub keep : AllKeep domains
  pub of : PagesAreOf (IsHeldIn domains) m

abbrev JointGood : Joint → Type 0
JointGood j = Good j.domains j.memory

-- another memory with as many frames, in which as much is owed and recorded
moved : (domains : List Domain) (m n : CloakedMemory) → n.ledger.owed ≡ m.ledger.owed →
    n.ledger.recorded ≡ m.ledger.recorded → length n.ram ≡ length m.ram → Good domains m → Good domains n
moved domains m n owed recorded frames here = record {
  places = ap length owed ∙ (here.places ∙ sym frames);
  keep = here.keep;
  of = record {
    owed = λ f. subst (λ (l : List (Option PageId)). IfSome (slice_index_or l f None) (IsHeldIn domains)) (sym owed)
        (here.of.owed f);
    recorded = λ q some. here.of.recorded q
        (subst (λ (l : PageId → Option (List ℕ)). is_some (l q) ≡ true) recorded some);
  };
}

-- a program changes, but not its resources
with_program : (domains : List Domain) (d : ℕ) (was new : Domain) (m : CloakedMemory) → slice_get domains d ≡ Some was →
    was.control.number ≡ d → new.control.resources ≡ was.control.resources → Keeps new → Good domains m →
    Good (slice_set domains d new) m
with_program domains d was new m there own same keeps here = record {
  places = here.places;
  keep = set_all Keeps domains d new here.keep keeps;
  of = of_wide (IsHeldIn domains) (IsHeldIn (slice_set domains d new)) m (held_same domains d was new there own same)
      here.of;
}

-- Resuming.

module _ (j : Joint) (from : AreFrom 0 j.domains) where
  root_good : (satp ctx reply : ℕ) (was : Domain) (control : Control) (admitted : Admitted)
      (answer : Result (Unit {0}) ResumeFault) → slice_get j.domains (domain_of ctx) ≡ Some was →
      control.resources ≡ was.control.resources → KeepsLimits control → JointGood j →
      JointGood (by_root j satp ctx reply was control admitted answer).joint
  unfolding by_root
  root_good satp ctx reply was control admitted (Err fault) there same keeps here = here
  root_good satp ctx reply was control admitted (Ok done) there same keeps here =
      let d = domain_of ctx in
      let new : Domain = record was { control = control } in
      moved (slice_set j.domains d new) j.memory (with_roots admitted.root j.memory) refl refl refl
      (with_program j.domains d was new j.memory there (number_at d j.domains was from there) same keeps here)

  context_good : (satp ctx reply : ℕ) (was : Domain) (control : Control) (answer : Result (Unit {0}) ResumeFault) →
      slice_get j.domains (domain_of ctx) ≡ Some was → control.resources ≡ was.control.resources →
      KeepsLimits control → JointGood j → JointGood (by_context j satp ctx reply was control answer).joint
  unfolding by_context
  context_good satp ctx reply was control (Err fault) there same keeps here = here
  context_good satp ctx reply was control (Ok done) there same keeps here =
      root_good satp ctx reply was control _ _ there same keeps here

  domain_good : (hart satp ctx reply : ℕ) (found : Option Domain) → hart < 4 →
      slice_get j.domains (domain_of ctx) ≡ found → IfSome found Keeps → JointGood j →
      JointGood (by_domain j hart satp ctx reply found).joint
  unfolding by_domain
  domain_good hart satp ctx reply None low there keeps here = here
  domain_good hart satp ctx reply (Some was) low there keeps here =
      context_good satp ctx reply was _ _ there (resume_slot_resources (slot_of ctx) hart reply was.control)
      (resume_kept (slot_of ctx) hart reply was.control low keeps) here

  resume_good : (hart satp ctx reply : ℕ) → hart < 4 → JointGood j → JointGood (resume j hart satp ctx reply).joint
  unfolding resume by_domain by_context by_root
  resume_good hart satp ctx reply low here =
      domain_good hart satp ctx reply _ low refl (here.keep (domain_of ctx)) here

  outside_ended_good : (number : ℕ) (items : List Item) (e : Kernel) → number < 4 → JointGood j →
      JointGood (outside_ended j number items e).joint
  unfolding outside_ended
  outside_ended_good number items (Resume ctx reply) low here = resume_good number _ ctx reply low here
  outside_ended_good number items _ low here = here

-- A hart outside.

touched_good : (domains : List Domain) (h : Hart) (disk : List ℕ) (m : CloakedMemory) → Good domains m →
    Good domains (settle_touched h disk m).memory
touched_good domains h disk m here = record {
  places = (touched_shown h disk m here.places).places;
  keep = here.keep;
  of = touched_keeps (PagesAreOf (IsHeldIn domains)) (settle_of (IsHeldIn domains)) h disk m here.of;
}

outside_by : (j : Joint) (number : ℕ) (h : Hart) (s : AfterSettling) → number < 4 → AreFrom 0 j.domains →
    Good j.domains s.memory → JointGood (after_outside j number (made_after h j.disk (cloak_outside j.memory h) s)).joint
unfolding after_outside made_after
outside_by j number h s low from here =
    let told = kernel_step h j.disk (Flat (seen_in s.memory)) in
    let count = (writes_touched_alone h j.disk (seen_in s.memory)).count in
    outside_ended_good _ from number _ told.answer.ending low
    (moved j.domains s.memory (with_seen (seen_of told.world) s.memory) refl refl
    (sym (ap length (ram_seen told.world)) ∙ count) here)

outside_good : (j : Joint) (number : ℕ) (h : Hart) → number < 4 → AreFrom 0 j.domains → JointGood j →
    JointGood (outside_step j number h).joint
unfolding outside_step settled_step
outside_good j number h low from here =
    outside_by j number h (settle_touched h j.disk j.memory) low from (touched_good j.domains h j.disk j.memory here)

-- A hart inside.

went_good : (j : Joint) (number : ℕ) (h : Hart) (d : ℕ) (w : World) (how : Went) → JointGood j →
    JointGood (domain_ended j number h d w how).joint
unfolding domain_ended
went_good j number h d w (went.Leave s) here =
    moved j.domains j.memory (without_mark number j.memory) refl refl refl here
went_good j number h d w (went.SpaceGone space s) here =
    moved j.domains j.memory (without_mark number (without_root (record { domain = d; number = space }) j.memory)) refl
    refl refl here
went_good j number h d w _ here = here

memory_good : (domains : List Domain) (P : PageId → Type 0) (w : World) (m : CloakedMemory) → IsJointWorld w →
    AllKeep domains → ((q : PageId) → P q → IsHeldIn domains q) → OfIn P w → Good domains (memory_of w m)
memory_good domains P (Cloaked c) m joint keep wide of =
    record { places = joint.places; keep = keep; of = of_wide P (IsHeldIn domains) c.memory wide of }
memory_good domains P _ m joint keep wide of = absurd (false≢true joint.form)

told_good : (j : Joint) (number : ℕ) (h : Hart) (d : ℕ) (was : Domain) (told : Told DomainStepped) →
    slice_get j.domains d ≡ Some was → was.control.number ≡ d → IsJointWorld told.world →
    OfIn (IsKind was.control.number told.answer.domain.control.resources (IsHeldIn j.domains)) told.world →
    Keeps told.answer.domain → AllKeep j.domains → JointGood (after_domain_step j number h d told).joint
unfolding after_domain_step
told_good j number h d was told there own joint of keeps all =
    went_good _ number h d told.world told.answer.went
    (memory_good (slice_set j.domains d told.answer.domain) _ told.world j.memory joint
    (set_all Keeps j.domains d told.answer.domain all keeps)
    (from_kind j.domains d was.control.number was told.answer.domain there own) of)

interrupted_good : (j : Joint) (number : ℕ) (h : Hart) (items : List Item) (how : Went) → JointGood j →
    JointGood (interrupt_ended j number h items how).joint
unfolding interrupt_ended
interrupted_good j number h items (went.Leave s) here =
    moved j.domains j.memory (without_mark number j.memory) refl refl refl here
interrupted_good j number h items _ here = here

left_good : (j : Joint) (number : ℕ) (h : Hart) (d : ℕ) (was : Domain) (step : Stepped) →
    slice_get j.domains d ≡ Some was → was.control.number ≡ d → step.control.resources ≡ was.control.resources →
    KeepsLimits step.control → JointGood j → JointGood (after_interrupt j number h d was step).joint
unfolding after_interrupt
left_good j number h d was step there own same keeps here =
    let new : Domain = record was { control = step.control } in
    interrupted_good _ number h _ step.went (with_program j.domains d was new j.memory there own same keeps here)

due_good : (due : Bool) (j : Joint) (number : ℕ) (h : Hart) (d slot : ℕ) (was : Domain) →
    slice_get j.domains d ≡ Some was → was.control.number ≡ d → Keeps was → JointGood j →
    JointGood (by_interrupt due j number h d slot was).joint
unfolding by_interrupt interrupt
due_good true j number h d slot was there own keeps here =
    left_good j number h d was _ there own (interrupt_if_resources _ slot was.control) (interrupt_kept slot was.control keeps) here
due_good false j number h d slot was there own keeps here =
    let c : MidStep = cloak_of j.memory h d (pages_for was (context_at was.control.contexts slot)) in
    let w : World = Cloaked c in
    let kind : PageId → Type 0 = IsKind was.control.number was.control.resources (IsHeldIn j.domains) in
    told_good j number h d was (domain_step slot was w) there own
    ((accounts_domain_step slot was w).by (record { form = refl; places = here.places })).joint
    (step_holds (IsHeldIn j.domains) was keeps.resources slot w
    (here.places, of_wide (IsHeldIn j.domains) kind j.memory (to_kind j.domains d was there own) here.of))
    (step_kept slot was w keeps) here.keep

running_good : (runs : Bool) (j : Joint) (number : ℕ) (h : Hart) (ctx : ℕ) (was : Domain) →
    slice_get j.domains (domain_of ctx) ≡ Some was → was.control.number ≡ domain_of ctx → Keeps was → JointGood j →
    JointGood (by_running runs j number h ctx was).joint
unfolding by_running
running_good false j number h ctx was there own keeps here =
    moved j.domains j.memory (without_mark number j.memory) refl refl refl here
running_good true j number h ctx was there own keeps here =
    due_good _ j number h (domain_of ctx) (slot_of ctx) was there own keeps here

inside_good : (j : Joint) (number : ℕ) (h : Hart) (ctx : ℕ) (found : Option Domain) → AreFrom 0 j.domains →
    slice_get j.domains (domain_of ctx) ≡ found → IfSome found Keeps → JointGood j →
    JointGood (inside_step j number h ctx found).joint
unfolding inside_step
inside_good j number h ctx None from there keeps here =
    moved j.domains j.memory (without_mark number j.memory) refl refl refl here
inside_good j number h ctx (Some was) from there keeps here =
    running_good _ j number h ctx was there (number_at (domain_of ctx) j.domains was from there) keeps here

turn_good : (j : Joint) (number : ℕ) (h : Hart) (inside : Option ℕ) → number < 4 → AreFrom 0 j.domains →
    JointGood j → JointGood (turn_of j number h inside).joint
unfolding turn_of
turn_good j number h None low from here = outside_good j number h low from here
turn_good j number h (Some ctx) low from here =
    inside_good j number (ticked h) ctx _ from refl (here.keep (domain_of ctx)) here

-- A domain ends.

abbrev pub JointHolds : Joint → Type 0
JointHolds j = PagesAreOf (IsHeldIn j.domains) j.memory

ended_held : (domains : List Domain) (d : ℕ) (was : Domain) → slice_get domains d ≡ Some was → Keeps was →
    (q : PageId) → IsHeldIn domains q × IsApart d (numbers_below 16) q → IsHeldIn (slice_set domains d (ended_domain was)) q
ended_held domains d was there keeps q here = elim (decided q.domain d) [
  | inl same ↦
      let at : slice_get domains q.domain ≡ Some was = ap (slice_get domains) same ∙ there in
      absurd (none_apart was.control.resources q keeps.resources.numbers (subst (HeldIf q) at here.0) (here.1 same))
  | inr apart ↦ subst (HeldIf q) (sym (get_other domains d q.domain (ended_domain was) apart)) here.0
]

memory_holds : (P Q : PageId → Type 0) (w : World) (m : CloakedMemory) → is_joint w ≡ true →
    ((q : PageId) → P q → Q q) → OfIn P w → PagesAreOf Q (memory_of w m)
memory_holds P Q (Cloaked c) m form wide of = of_wide P Q c.memory wide of
memory_holds P Q _ m form wide of = absurd (false≢true form)

end_holds : (d : ℕ) (was : Domain) (v : Violation) (t : Turn) → slice_get t.joint.domains d ≡ Some was →
    JointGood t.joint → JointHolds (end_domain d was v t).joint
unfolding end_domain
end_holds d was v t there here =
    let domains = t.joint.domains in
    let w : World = (ask_end d (Cloaked (cloak_for t.joint.memory d))).world in
    let e = end_shows d t.joint.memory here.places in
    let gone : PageId → Type 0 = λ q. IsHeldIn domains q × IsApart d (numbers_below 16) q in
    let held : PageId → Type 0 = IsHeldIn (slice_set domains d (ended_domain was)) in
    let of = memory_holds gone held w t.joint.memory (ap is_joint e.is)
    (ended_held domains d was there (all_at Keeps domains d was there here.keep))
    (end_of (IsHeldIn domains) d t.joint.memory here.places here.of) in
    record { owed = of.owed; recorded = of.recorded }

-- A step.

pub record Fits (j : Joint) : Type 0 where
  pub steady : IsSteady j
  pub keep : AllKeep j.domains
  pub of : JointHolds j

good_of : (j : Joint) → Fits j → JointGood j
good_of j here = record { places = here.steady.places; keep = here.keep; of = here.of }

step_holds_pages : (m : Moment) → next_hart m < 4 → Fits m.joint → JointHolds (joint_step m).joint
unfolding joint_step
step_holds_pages m low here =
    answers_give JointGood JointHolds (λ j good. good.of) (λ t good. good.of) end_holds _ _ (step_before_end m)
    (turn_good m.joint (next_hart m) _ _ low here.steady.programs (good_of m.joint here))

pub step_fits : (m : Moment) → next_hart m < 4 → Fits m.joint → Fits (joint_step m).joint
step_fits m low here = record {
  steady = (turn_is_alone m here.steady).steady;
  keep = step_keep m low here.keep;
  of = step_holds_pages m low here;
}
