-- Page tables are recorded of spaces in use alone: over each step of the joint machine, and in a run.
use Rattle.std.proofs.Common.{◌≡◌, ◌∙◌, ℕ, zero, suc, Bool, true, false, cond, List, [], ◌∷◌, slice_get, slice_set, Option, Some, None, IfSome, Result, Ok, Err, refl, sym, ap, subst}
use Rattle.std.specs.Prelude.{IsSomeAnd, is_some, nat_eq}
use Rattle.std.proofs.lemmas.Bool.{false≢true, and_from, and_parts, eqb-true, eq-eqb}
use Rattle.cloak_base.specs.Random.{Random}
use Rattle.cloak_base.specs.declared.causes.Violation.{Violation}
use Rattle.cloak_base.specs.declared.names.PageId.{PageId}
use Rattle.cloak_base.specs.declared.names.SpaceId.{SpaceId}
use Rattle.cloak_model.specs.declared.context.ResumeFault.{ResumeFault}
use Rattle.cloak_model.specs.declared.context.ResumeFault.TheVariants as fault
use Rattle.cloak_model.specs.declared.image.Bundle.{Bundle}
use Rattle.cloak_model.specs.declared.inside.Went.{Went}
use Rattle.cloak_model.specs.declared.inside.Went.TheVariants as went
use Rattle.cloak_model.specs.Items.{Item}
use Rattle.cloak_model.specs.declared.outcome.Kernel.{Kernel}
use Rattle.cloak_model.specs.declared.outcome.Kernel.TheVariants.{Resume}
use Rattle.cloak_model.specs.Ahead.{settle_touched, settled_step, made_after}
use Rattle.cloak_model.specs.Asking.{Told}
use Rattle.cloak_model.specs.Bundle.{IsInGrammar}
use Rattle.cloak_model.specs.Beginning.{Beginning, opening_from}
use Rattle.cloak_model.specs.Cloaking.{CloakedMemory, AfterSettling}
use Rattle.cloak_model.specs.Contexts.{Context, Admitted, admit, is_root, context_at, domain_of, slot_of, same_space, with_space, resume_if, resume_at}
use Rattle.cloak_model.specs.DomainState.{Control, Domain}
use Rattle.cloak_model.specs.DomainStep.{DomainStepped, domain_step, interrupt, resume_told, resume_slot}
use Rattle.cloak_model.specs.Ending.{ask_end, cloak_for, without_roots, ended_domain}
use Rattle.cloak_model.specs.Hart.{Hart}
use Rattle.cloak_model.specs.Hypercalls.{Stepped}
use Rattle.cloak_model.specs.Joint.{Moment, Turn, next_hart, cloak_of, cloak_outside, outside_ended, after_outside, outside_step, domain_ended, after_domain_step, pages_for, interrupt_ended, after_interrupt, by_interrupt, by_running, inside_step, turn_of, end_domain, step_before_end, joint_step}
use Rattle.cloak_model.specs.KernelStep.{ticked}
use Rattle.cloak_model.specs.Ledger.{Keys}
use Rattle.cloak_model.specs.Opening.{RunEdge, started_ledger, started_memory}
use Rattle.cloak_model.specs.PageMoves.{place_with}
use Rattle.cloak_model.specs.Parts.{Joint}
use Rattle.cloak_model.specs.Resources.{Resources}
use Rattle.cloak_model.specs.Resuming.{space_of, resume}
use Rattle.cloak_model.proofs.ResumeParts.{by_root, by_context, by_domain, resume_slot_resources, interrupt_if_resources}
use Rattle.cloak_model.specs.StoredFiles.{FileContents}
use Rattle.cloak_model.specs.World.{World, Cloaked}
use Rattle.resource_map.specs.Kept.{IsInUse}
use Rattle.script_fold.specs.Tables.{recorded_tables}
use Rattle.kernel_isolation.proofs.FilesAdded.{IsGiven, given_keeps}
use Rattle.script_fold.proofs.Rooted.{settle_root, rooted_domain_step, rooted_end}
use Rattle.frozen_state.specs.Limits.{IsContext, KeepsLimits}
use Rattle.limit_law.specs.Roots.{RootsAreOfSpacesInUse}
use Rattle.limit_law.proofs.Roots.{LeavesUsed, step_uses}
use Rattle.limit_law.proofs.Endings.{answers_keep}
use Rattle.limit_law.proofs.Turns.{Keeps, AllKeep}
use Rattle.limit_law.proofs.Moments.{IsKept, at_every_moment}
use Rattle.limit_law.proofs.Openings.{begins_in_memory}
use Rattle.kernel_isolation.proofs.Ahead.{touched_keeps}
use Rattle.limit_law.proofs.Runs.{JointKeeps, opened_keep, limits_are_kept}
use Rattle.script_fold.proofs.Tables.{memory_root}

abbrev HasSpace : ℕ → Domain → Type 0
HasSpace k d = IsInUse d.control.resources k

abbrev Rooted : (SpaceId → Option ℕ) → List Domain → Type 0
Rooted root domains =
    (s : SpaceId) → is_some (root s) ≡ true → IsSomeAnd (slice_get domains s.domain) (HasSpace s.number)

abbrev JointRooted : Joint → Type 0
JointRooted j = Rooted j.memory.ledger.root j.domains

-- A program changes.

there_set : (domains : List Domain) (i d k : ℕ) (was new : Domain) → slice_get domains i ≡ Some was →
    (d ≡ i → HasSpace k was → HasSpace k new) → IsSomeAnd (slice_get domains d) (HasSpace k) →
    IsSomeAnd (slice_get (slice_set domains i new) d) (HasSpace k)
there_set [] i d k was new is used here = here
there_set (x ∷ domains) zero zero k was new is used here =
    let same : x ≡ was = cc in used refl (subst (HasSpace k) same here)
there_set (x ∷ domains) zero (suc d) k was new is used here = here
there_set (x ∷ domains) (suc i) zero k was new is used here = here
there_set (x ∷ domains) (suc i) (suc d) k was new is used here =
    there_set domains i d k was new is (λ e. used (ap suc e)) here

set_here : (domains : List Domain) (i k : ℕ) (was new : Domain) → slice_get domains i ≡ Some was → HasSpace k new →
    IsSomeAnd (slice_get (slice_set domains i new) i) (HasSpace k)
set_here [] i k was new is here = absurd cc
set_here (x ∷ domains) zero k was new is here = here
set_here (x ∷ domains) (suc i) k was new is here = set_here domains i k was new is here

rooted_set : (root : SpaceId → Option ℕ) (domains : List Domain) (i : ℕ) (was new : Domain) →
    slice_get domains i ≡ Some was → ((k : ℕ) → HasSpace k was → HasSpace k new) → Rooted root domains →
    Rooted root (slice_set domains i new)
rooted_set root domains i was new is used rooted s some =
    there_set domains i s.domain s.number was new is (λ e. used s.number) (rooted s some)

-- Resuming.

record_by : (t : Bool) (old : Option ℕ) (satp : ℕ) (P : Type 0) → (t ≡ true → P) → (is_some old ≡ true → P) →
    is_some (cond t (Some satp) old) ≡ true → P
record_by true old satp P here there some = here refl
record_by false old satp P here there some = there some

rooted_recorded : (root : SpaceId → Option ℕ) (domains : List Domain) (i k satp : ℕ) (was new : Domain) →
    slice_get domains i ≡ Some was → ((n : ℕ) → HasSpace n was → HasSpace n new) → HasSpace k was →
    Rooted root domains →
    Rooted (with_space root (record { domain = i; number = k }) (Some satp)) (slice_set domains i new)
rooted_recorded root domains i k satp was new is used here rooted s some =
    record_by (same_space s (record { domain = i; number = k })) (root s) satp
    (IsSomeAnd (slice_get (slice_set domains i new) s.domain) (HasSpace s.number)) (λ t.
    let parts = and_parts (nat_eq s.domain i) (nat_eq s.number k) t in
    let own : s.domain ≡ i = eqb-true s.domain i parts.0 in
    let number : s.number ≡ k = eqb-true s.number k parts.1 in
    subst (λ (d : ℕ). IsSomeAnd (slice_get (slice_set domains i new) d) (HasSpace s.number)) (sym own)
    (set_here domains i s.number was new is (used s.number (subst (λ (n : ℕ). HasSpace n was) (sym number) here))))
    (λ old. rooted_set root domains i was new is used rooted s old) some

admit_by : (t : Bool) (root root' : SpaceId → Option ℕ) (j : Joint) (satp ctx reply : ℕ) (was : Domain)
    (control : Control) → JointRooted j → Rooted root' (slice_set j.domains (domain_of ctx) (record was { control = control })) →
    (let a : Admitted = cond t (record { answer = Ok tt; root = root' }) (record { answer = Err fault.WrongRoot; root = root }) in
    JointRooted (by_root j satp ctx reply was control a a.answer).joint)
unfolding by_root
admit_by true root root' j satp ctx reply was control rooted here = here
admit_by false root root' j satp ctx reply was control rooted here = rooted

-- if it went well, there is such a context
resumes_there : (slot hart answer : ℕ) (d : Control) (u : Unit {0}) → KeepsLimits d →
    (resume_slot slot hart answer d).answer ≡ Ok u → IsInUse d.resources (space_of (context_at d.contexts slot))
unfolding resume_slot resume_told resume_at resume_if
resumes_there slot hart answer d u keeps is = by_slot (context_at d.contexts slot) (keeps.contexts slot) is where
  by_slot : (o : Option Context) → IfSome o (IsContext d.resources) →
      (resume_told slot answer (resume_if slot hart o d.contexts).answer
      (record d { contexts = (resume_if slot hart o d.contexts).contexts })).answer ≡ Ok u →
      IsInUse d.resources (space_of o)
  by_slot None here is = absurd cc
  by_slot (Some c) here is = here.space

context_rooted : (j : Joint) (satp ctx reply : ℕ) (was : Domain) (control : Control)
    (answer : Result (Unit {0}) ResumeFault) → slice_get j.domains (domain_of ctx) ≡ Some was →
    control.resources ≡ was.control.resources →
    ((u : Unit {0}) → answer ≡ Ok u →
    IsInUse was.control.resources (space_of (context_at was.control.contexts (slot_of ctx)))) → JointRooted j →
    JointRooted (by_context j satp ctx reply was control answer).joint
unfolding by_context admit
context_rooted j satp ctx reply was control (Err f) is same there rooted = rooted
context_rooted j satp ctx reply was control (Ok done) is same there rooted =
    let k = space_of (context_at was.control.contexts (slot_of ctx)) in
    let root = j.memory.ledger.root in
    admit_by (is_root satp (root (record { domain = domain_of ctx; number = k }))) root
    (with_space root (record { domain = domain_of ctx; number = k }) (Some satp)) j satp ctx reply was control rooted
    (rooted_recorded root j.domains (domain_of ctx) k satp was (record was { control = control }) is
    (λ n used. subst (λ (r : Resources). IsInUse r n) (sym same) used) (there done refl) rooted)

domain_rooted : (j : Joint) (hart satp ctx reply : ℕ) (found : Option Domain) →
    slice_get j.domains (domain_of ctx) ≡ found → IfSome found Keeps → JointRooted j →
    JointRooted (by_domain j hart satp ctx reply found).joint
unfolding by_domain
domain_rooted j hart satp ctx reply None is keeps rooted = rooted
domain_rooted j hart satp ctx reply (Some was) is keeps rooted =
    context_rooted j satp ctx reply was _ _ is (resume_slot_resources (slot_of ctx) hart reply was.control)
    (λ u ok. resumes_there (slot_of ctx) hart reply was.control u keeps ok) rooted

resume_rooted : (j : Joint) (hart satp ctx reply : ℕ) → AllKeep j.domains → JointRooted j →
    JointRooted (resume j hart satp ctx reply).joint
unfolding resume by_domain by_context by_root
resume_rooted j hart satp ctx reply all rooted =
    domain_rooted j hart satp ctx reply _ refl (all (domain_of ctx)) rooted

-- A hart outside.

ended_rooted : (j : Joint) (number : ℕ) (items : List Item) (e : Kernel) → AllKeep j.domains → JointRooted j →
    JointRooted (outside_ended j number items e).joint
unfolding outside_ended
ended_rooted j number items (Resume ctx reply) all rooted = resume_rooted j number _ ctx reply all rooted
ended_rooted j number items _ all rooted = rooted

touched_root : (h : Hart) (disk : List ℕ) (m : CloakedMemory) →
    (settle_touched h disk m).memory.ledger.root ≡ m.ledger.root
touched_root h disk m =
    touched_keeps (λ x. x.ledger.root ≡ m.ledger.root) (λ f x same. settle_root f x ∙ same) h disk m refl

outside_by : (j : Joint) (number : ℕ) (h : Hart) (s : AfterSettling) → s.memory.ledger.root ≡ j.memory.ledger.root →
    AllKeep j.domains → JointRooted j →
    JointRooted (after_outside j number (made_after h j.disk (cloak_outside j.memory h) s)).joint
unfolding after_outside made_after
outside_by j number h s same all rooted =
    ended_rooted _ number _ _ all (subst (λ (root : SpaceId → Option ℕ). Rooted root j.domains) (sym same) rooted)

kernel_rooted : (j : Joint) (number : ℕ) (h : Hart) → AllKeep j.domains → JointRooted j →
    JointRooted (outside_step j number h).joint
unfolding outside_step settled_step
kernel_rooted j number h all rooted = outside_by j number h _ (touched_root h j.disk j.memory) all rooted

-- A hart inside.

forget_by : (t : Bool) (old : Option ℕ) (P : Type 0) → (t ≡ false → is_some old ≡ true → P) →
    is_some (cond t None old) ≡ true → P
forget_by true old P there some = absurd (false≢true some)
forget_by false old P there some = there refl some

went_rooted : (j : Joint) (number : ℕ) (h : Hart) (d : ℕ) (w : World) (how : Went) (domains : List Domain)
    (was new : Domain) → j.domains ≡ slice_set domains d new → slice_get domains d ≡ Some was →
    LeavesUsed was.control.resources how new.control.resources → Rooted j.memory.ledger.root domains →
    JointRooted (domain_ended j number h d w how).joint
unfolding domain_ended
went_rooted j number h d w (went.SpaceGone space s) domains was new set is used rooted =
    subst (Rooted (with_space j.memory.ledger.root (record { domain = d; number = space }) None)) (sym set)
    (λ x some. forget_by (same_space x (record { domain = d; number = space })) (j.memory.ledger.root x)
    (IsSomeAnd (slice_get (slice_set domains d new) x.domain) (HasSpace x.number))
    (λ other old. there_set domains d x.domain x.number was new is
    (λ own here. used x.number (λ number. false≢true (sym other
    ∙ and_from (nat_eq x.domain d) (nat_eq x.number space) (eq-eqb x.domain d own) (eq-eqb x.number space number))) here)
    (rooted x old)) some)
went_rooted j number h d w _ domains was new set is used rooted =
    subst (Rooted j.memory.ledger.root) (sym set) (rooted_set j.memory.ledger.root domains d was new is used rooted)

stepped_rooted : (j : Joint) (number : ℕ) (h : Hart) (d : ℕ) (told : Told DomainStepped) (was : Domain) →
    slice_get j.domains d ≡ Some was →
    LeavesUsed was.control.resources told.answer.went told.answer.domain.control.resources →
    recorded_tables told.world ≡ j.memory.ledger.root → JointRooted j →
    JointRooted (after_domain_step j number h d told).joint
unfolding after_domain_step
stepped_rooted j number h d told was is used same rooted =
    went_rooted _ number h d told.world told.answer.went j.domains was told.answer.domain refl is used
    (subst (λ (root : SpaceId → Option ℕ). Rooted root j.domains) (sym (memory_root told.world j.memory same)) rooted)

interrupted_rooted : (j : Joint) (number : ℕ) (h : Hart) (items : List Item) (how : Went) → JointRooted j →
    JointRooted (interrupt_ended j number h items how).joint
unfolding interrupt_ended
interrupted_rooted j number h items went.Stay rooted = rooted
interrupted_rooted j number h items _ rooted = rooted

left_rooted : (j : Joint) (number : ℕ) (h : Hart) (d : ℕ) (was : Domain) (step : Stepped) →
    slice_get j.domains d ≡ Some was → step.control.resources ≡ was.control.resources → JointRooted j →
    JointRooted (after_interrupt j number h d was step).joint
unfolding after_interrupt
left_rooted j number h d was step is same rooted =
    interrupted_rooted _ number h _ step.went
    (rooted_set j.memory.ledger.root j.domains d was (record was { control = step.control }) is
    (λ k used. subst (λ (r : Resources). IsInUse r k) (sym same) used) rooted)

due_rooted : (due : Bool) (j : Joint) (number : ℕ) (h : Hart) (d slot : ℕ) (was : Domain) →
    slice_get j.domains d ≡ Some was → Keeps was → JointRooted j →
    JointRooted (by_interrupt due j number h d slot was).joint
unfolding by_interrupt interrupt
due_rooted true j number h d slot was is keeps rooted =
    left_rooted j number h d was _ is (interrupt_if_resources _ slot was.control) rooted
due_rooted false j number h d slot was is keeps rooted =
    let w = Cloaked (cloak_of j.memory h d (pages_for was (context_at was.control.contexts slot))) in
    stepped_rooted j number h d (domain_step slot was w) was is (step_uses slot was w keeps).used
    (rooted_domain_step slot was w).root rooted

running_rooted : (runs : Bool) (j : Joint) (number : ℕ) (h : Hart) (ctx : ℕ) (was : Domain) →
    slice_get j.domains (domain_of ctx) ≡ Some was → Keeps was → JointRooted j →
    JointRooted (by_running runs j number h ctx was).joint
unfolding by_running
running_rooted false j number h ctx was is keeps rooted = rooted
running_rooted true j number h ctx was is keeps rooted =
    due_rooted _ j number h (domain_of ctx) (slot_of ctx) was is keeps rooted

inside_rooted : (j : Joint) (number : ℕ) (h : Hart) (ctx : ℕ) (found : Option Domain) →
    slice_get j.domains (domain_of ctx) ≡ found → IfSome found Keeps → JointRooted j →
    JointRooted (inside_step j number h ctx found).joint
unfolding inside_step
inside_rooted j number h ctx None is keeps rooted = rooted
inside_rooted j number h ctx (Some was) is keeps rooted = running_rooted _ j number h ctx was is keeps rooted

turn_rooted : (j : Joint) (number : ℕ) (h : Hart) (inside : Option ℕ) → AllKeep j.domains → JointRooted j →
    JointRooted (turn_of j number h inside).joint
unfolding turn_of
turn_rooted j number h None all rooted = kernel_rooted j number h all rooted
turn_rooted j number h (Some ctx) all rooted = inside_rooted j number (ticked h) ctx _ refl (all (domain_of ctx)) rooted

-- A domain ends: no page table is recorded of its spaces, and all other domains are as they were.

rooted_without : (root : SpaceId → Option ℕ) (domains : List Domain) (d : ℕ) (was new : Domain) →
    slice_get domains d ≡ Some was → Rooted root domains → Rooted (without_roots d root) (slice_set domains d new)
rooted_without root domains d was new is rooted s some =
    forget_by (nat_eq s.domain d) (root s) (IsSomeAnd (slice_get (slice_set domains d new) s.domain) (HasSpace s.number))
    (λ other old. there_set domains d s.domain s.number was new is
    (λ own used. absurd (false≢true (sym other ∙ eq-eqb s.domain d own))) (rooted s old)) some

end_rooted : (d : ℕ) (was : Domain) (v : Violation) (t : Turn) → slice_get t.joint.domains d ≡ Some was →
    JointRooted t.joint → JointRooted (end_domain d was v t).joint
unfolding end_domain
end_rooted d was v t is rooted =
    let w = Cloaked (cloak_for t.joint.memory d) in
    subst (λ (root : SpaceId → Option ℕ). Rooted (without_roots d root) (slice_set t.joint.domains d (ended_domain was)))
    (sym (memory_root (ask_end d w).world t.joint.memory (rooted_end d w).root))
    (rooted_without t.joint.memory.ledger.root t.joint.domains d was (ended_domain was) is rooted)

step_rooted : (m : Moment) → AllKeep m.joint.domains → JointRooted m.joint → JointRooted (joint_step m).joint
unfolding joint_step
step_rooted m all rooted =
    answers_keep JointRooted (λ t here. here) end_rooted _ _ (step_before_end m)
    (turn_rooted m.joint (next_hart m) _ _ all rooted)

-- The opening: no page table is recorded.

abbrev NoRoot : CloakedMemory → Type 0
NoRoot m = (s : SpaceId) → m.ledger.root s ≡ None

place_none : (q : PageId) (f : ℕ) (bytes : List ℕ) (draw : Option (List ℕ × Random)) (m : CloakedMemory) → NoRoot m →
    IfSome (place_with q f bytes draw m) NoRoot
unfolding place_with
place_none q f bytes None m none = tt
place_none q f bytes (Some draw) m none = none

started_none : (b : Bundle) (keys : Keys) (stream : Random) → NoRoot (started_memory b.kernel keys stream)
unfolding started_memory started_ledger
started_none b keys stream s = refl

given_none : (f : FileContents) (x y : Joint) → IsGiven f x y → NoRoot x.memory → NoRoot y.memory
given_none f x y given none s =
    ap (λ (root : SpaceId → Option ℕ). root s) (given_keeps f x y given).memory.root ∙ none s

opened_rooted : (b : Bundle) (from : Beginning) (o : RunEdge) → opening_from b from ≡ Ok o → JointRooted o.joint
opened_rooted b from o opens s some =
    let none = begins_in_memory NoRoot b from place_none (started_none b) given_none o opens in
    absurd (false≢true (ap is_some (sym (none s)) ∙ some))

-- The run.

record IsFit (j : Joint) : Type 0 where
  keep : JointKeeps j
  rooted : JointRooted j

roots_are_kept : (b : Bundle) → IsInGrammar b → IsKept IsFit b.kernel.schedule
roots_are_kept b grammar m same here = record {
  keep = limits_are_kept b grammar m same here.keep;
  rooted = step_rooted m here.keep here.rooted;
}

pub roots_are_of_spaces_in_use : RootsAreOfSpacesInUse
roots_are_of_spaces_in_use b from budget r grammar is n =
    (at_every_moment IsFit b from budget r
    (λ o opens. record { keep = opened_keep b from grammar o opens; rooted = opened_rooted b from o opens })
    (roots_are_kept b grammar) is n).rooted
