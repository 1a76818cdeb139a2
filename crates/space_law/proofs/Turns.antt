-- A step of the joint machine leaves each page where a space has it, unless it says that the space changed.
use Rattle.std.proofs.Common.{◌≡◌, ◌∙◌, ℕ, zero, suc, Bool, true, false, ◌||◌, List, [], ◌∷◌, Option, Some, None, Result, Ok, Err, refl, sym, ap, subst, eq-eqb}
use Rattle.std.specs.Prelude.{slice_get, slice_set, ◌&&◌, nat_eq}
use Rattle.std.specs.List.{list_any}
use Rattle.std.proofs.lemmas.Bool.{false≢true, or_parts}
use Rattle.cloak_base.specs.declared.names.PageId.{PageId}
use Rattle.cloak_base.specs.declared.names.SpaceId.{SpaceId}
use Rattle.cloak_model.specs.declared.context.ResumeFault.{ResumeFault}
use Rattle.cloak_model.specs.declared.inside.Went.{Went}
use Rattle.cloak_model.specs.declared.inside.Went.TheVariants as went
use Rattle.cloak_model.specs.Items.{Item}
use Rattle.cloak_model.specs.declared.outcome.Kernel.{Kernel}
use Rattle.cloak_model.specs.declared.outcome.Kernel.TheVariants as kernel
use Rattle.cloak_model.specs.Ahead.{settled_step}
use Rattle.cloak_model.specs.Asking.{Told}
use Rattle.cloak_model.specs.Contexts.{Context, Admitted, context_at, domain_of, slot_of, same_space}
use Rattle.cloak_model.specs.Csr.{interrupt_due}
use Rattle.cloak_model.specs.DomainState.{Control, Domain}
use Rattle.cloak_model.specs.DomainStep.{domain_script, DomainStepped, domain_step, step_if, interrupt}
use Rattle.cloak_model.specs.Hart.{Hart}
use Rattle.cloak_model.specs.Joint.{hart_in, memory_of, after_kernel_step, outside_ended, after_outside, outside_step, cloak_of, cloak_outside, pages_for, domain_ended, with_domain, after_domain_step, interrupt_ended, after_interrupt, by_interrupt, by_running, inside_step, turn_of}
use Rattle.cloak_model.specs.KernelStep.{ticked}
use Rattle.cloak_model.specs.Parts.{Joint}
use Rattle.cloak_model.specs.Resuming.{resume}
use Rattle.cloak_model.proofs.ResumeParts.{by_root, by_context, by_domain}
use Rattle.cloak_model.specs.World.{World, Cloaked}
use Rattle.cloak_model.specs.DomainAlone.{runs_on}
use Rattle.cloak_model.specs.Script.{played}
use Rattle.shadow_fold.specs.Events.{changed_by, asked_if, asked_running, asked_inside, asked_of}
use Rattle.space_law.specs.Mapping.{page_of, mapped_in, TurnKeepsPages}
use Rattle.space_law.proofs.Hypercalls.{Spares, Keeps, keeps_page, DomainKeeps, step_keeps, interrupt_keeps, resume_keeps}

-- one program of a list is this one now, which has the page there as before
pub set_page : (domains : List Domain) (i d : ℕ) (was now : Domain) (space va : ℕ) (q : PageId) →
    slice_get domains d ≡ Some was →
    (i ≡ d → page_of (Some was) space va ≡ Some q → page_of (Some now) space va ≡ Some q) →
    page_of (slice_get domains i) space va ≡ Some q →
    page_of (slice_get (slice_set domains d now) i) space va ≡ Some q
set_page [] i d was now space va q there step has = has
set_page (x ∷ domains) zero zero was now space va q there step has =
    let same : x ≡ was = cc in step refl (subst (λ (y : Domain). page_of (Some y) space va ≡ Some q) same has)
set_page (x ∷ domains) zero (suc d) was now space va q there step has = has
set_page (x ∷ domains) (suc i) zero was now space va q there step has = has
set_page (x ∷ domains) (suc i) (suc d) was now space va q there step has =
    set_page domains i d was now space va q there (λ same. step (ap suc same)) has

pub same_self : (s : SpaceId) → same_space s s ≡ true
same_self s = (λ i. eq-eqb s.domain s.domain refl i && nat_eq s.number s.number) ∙ eq-eqb s.number s.number refl

module _ (s : SpaceId) (va : ℕ) (q : PageId) where
  -- space s has page q at the address
  abbrev pub Has : Joint → Type 0
  Has j = mapped_in j s va ≡ Some q

  -- a program's number and resources stay
  pub set_quiet : (j : Joint) (d : ℕ) (was now : Domain) → slice_get j.domains d ≡ Some was →
      Keeps was.control now.control went.Stay → Has j →
      page_of (slice_get (slice_set j.domains d now) s.domain) s.number va ≡ Some q
  set_quiet j d was now there keeps has =
      set_page j.domains s.domain d was now s.number va q there
      (λ same before. keeps_page was.control now.control went.Stay s.number va q keeps tt before) has

  -- Resuming.

  pub root_has : (j : Joint) (satp ctx reply : ℕ) (d : Domain) (control : Control) (a : Admitted)
      (answer : Result (Unit {0}) ResumeFault) → slice_get j.domains (domain_of ctx) ≡ Some d →
      Keeps d.control control went.Stay → Has j → Has (by_root j satp ctx reply d control a answer).joint
  unfolding by_root
  root_has j satp ctx reply d control a (Err fault) there keeps has = has
  root_has j satp ctx reply d control a (Ok done) there keeps has =
      set_quiet j (domain_of ctx) d (record d { control = control }) there keeps has

  pub context_has : (j : Joint) (satp ctx reply : ℕ) (d : Domain) (control : Control)
      (answer : Result (Unit {0}) ResumeFault) → slice_get j.domains (domain_of ctx) ≡ Some d →
      Keeps d.control control went.Stay → Has j → Has (by_context j satp ctx reply d control answer).joint
  unfolding by_context
  context_has j satp ctx reply d control (Err fault) there keeps has = has
  context_has j satp ctx reply d control (Ok done) there keeps has = root_has j satp ctx reply d control _ _ there keeps has

  pub domain_has : (j : Joint) (hart satp ctx reply : ℕ) (found : Option Domain) →
      slice_get j.domains (domain_of ctx) ≡ found → Has j → Has (by_domain j hart satp ctx reply found).joint
  unfolding by_domain
  domain_has j hart satp ctx reply None there has = has
  domain_has j hart satp ctx reply (Some d) there has =
      context_has j satp ctx reply d _ _ there (resume_keeps (slot_of ctx) hart reply d.control) has

  pub resume_has : (j : Joint) (hart satp ctx reply : ℕ) → Has j → Has (resume j hart satp ctx reply).joint
  unfolding resume by_domain by_context by_root
  resume_has j hart satp ctx reply has = domain_has j hart satp ctx reply (slice_get j.domains (domain_of ctx)) refl has

  -- A hart outside.

  pub ended_has : (j : Joint) (number : ℕ) (items : List Item) (e : Kernel) → Has j →
      Has (outside_ended j number items e).joint
  unfolding outside_ended
  ended_has j number items (kernel.Resume ctx answer) has = resume_has j number _ ctx answer has
  ended_has j number items _ has = has

  pub outside_has : (j : Joint) (number : ℕ) (h : Hart) → Has j → Has (outside_step j number h).joint
  unfolding outside_step after_outside
  outside_has j number h has =
      let told = settled_step h j.disk (cloak_outside j.memory h) in
      ended_has (after_kernel_step j number told) number _ told.answer.ending has

  -- A hart inside.

  -- how a step ends changes no program
  pub domain_ended_has : (j : Joint) (number : ℕ) (h : Hart) (d : ℕ) (w : World) (how : Went) → Has j →
      Has (domain_ended j number h d w how).joint
  unfolding domain_ended
  domain_ended_has j number h d w went.Stay has = has
  domain_ended_has j number h d w _ has = has

  pub after_step_has : (j : Joint) (number : ℕ) (h : Hart) (d : ℕ) (was : Domain) (told : Told DomainStepped) →
      slice_get j.domains d ≡ Some was → DomainKeeps was told.answer → (s.domain ≡ d → Spares s.number told.answer.went) →
      Has j → Has (after_domain_step j number h d told).joint
  unfolding after_domain_step
  after_step_has j number h d was told there keeps spared has =
      domain_ended_has (record (with_domain d told.answer.domain j) { memory = memory_of told.world j.memory }) number h d
      told.world told.answer.went
      (set_page j.domains s.domain d was told.answer.domain s.number va q there
      (λ same before. keeps_page was.control told.answer.domain.control told.answer.went s.number va q keeps (spared same)
      before) has)

  pub interrupt_has : (j : Joint) (number : ℕ) (h : Hart) (items : List Item) (how : Went) → Has j →
      Has (interrupt_ended j number h items how).joint
  unfolding interrupt_ended
  interrupt_has j number h items went.Stay has = has
  interrupt_has j number h items _ has = has

  -- A step that says of no change of the space spares it.

  -- the space is none of those that changed
  abbrev pub IsUnchanged : List SpaceId → Type 0
  IsUnchanged changed = list_any (λ x. same_space x s) changed ≡ false

  pub other_space : (d space : ℕ) → same_space (record { domain = d; number = space }) s || false ≡ false → s.domain ≡ d →
      s.number ≡ space → ⊥
  other_space d space out at same =
      let changed : SpaceId = record { domain = d; number = space } in
      false≢true
      (sym (or_parts _ false out).0
      ∙ (λ i. same_space changed (record { domain = at i; number = same i }))
      ∙ same_self changed)

  pub spared_by : (d : ℕ) (how : Went) → IsUnchanged (changed_by d how) → s.domain ≡ d → Spares s.number how
  spared_by d (went.Remapped space) out at = other_space d space out at
  spared_by d (went.SpaceGone space shown) out at = other_space d space out at
  spared_by d _ out at = tt

  pub context_runs : (j : Joint) (number : ℕ) (h : Hart) (d slot : ℕ) (was : Domain) (o : Option Context) →
      slice_get j.domains d ≡ Some was → context_at was.control.contexts slot ≡ o →
      IsUnchanged (asked_if false j h d slot was o).changed → Has j →
      Has (after_domain_step j number h d (domain_step slot was (Cloaked (cloak_of j.memory h d (pages_for was o))))).joint
  unfolding domain_step domain_script step_if
  context_runs j number h d slot was None there is out has =
      let told = domain_step slot was (Cloaked (cloak_of j.memory h d (pages_for was None))) in
      let stays : told.answer.went ≡ went.Stay =
      ap (λ (o : Option Context).
      (played (step_if o slot was) (Cloaked (cloak_of j.memory h d (λ va'. None)))).answer.went) is in
      after_step_has j number h d was told there (step_keeps slot was _)
      (λ at. subst (Spares s.number) (sym stays) tt) has
  context_runs j number h d slot was (Some c) there is out has =
      let told = domain_step slot was (Cloaked (cloak_of j.memory h d (pages_for was (Some c)))) in
      after_step_has j number h d was told there (step_keeps slot was _)
      (spared_by d told.answer.went out) has

  pub due_has : (due : Bool) (j : Joint) (number : ℕ) (h : Hart) (d slot : ℕ) (was : Domain) →
      slice_get j.domains d ≡ Some was →
      IsUnchanged (asked_if due j h d slot was (context_at was.control.contexts slot)).changed → Has j →
      Has (by_interrupt due j number h d slot was).joint
  unfolding by_interrupt after_interrupt
  due_has true j number h d slot was there out has =
      let step = interrupt slot was.control in
      interrupt_has (with_domain d (record was { control = step.control }) j) number h _ step.went
      (set_quiet j d was (record was { control = step.control }) there (interrupt_keeps slot was.control) has)
  due_has false j number h d slot was there out has =
      context_runs j number h d slot was (context_at was.control.contexts slot) there refl out has

  pub running_has : (runs : Bool) (j : Joint) (number : ℕ) (h : Hart) (ctx : ℕ) (was : Domain) →
      slice_get j.domains (domain_of ctx) ≡ Some was →
      IsUnchanged (asked_running runs j h (domain_of ctx) (slot_of ctx) was).changed → Has j →
      Has (by_running runs j number h ctx was).joint
  unfolding by_running
  running_has false j number h ctx was there out has = has
  running_has true j number h ctx was there out has =
      due_has (interrupt_due h.mode h.csrs) j number h (domain_of ctx) (slot_of ctx) was there out has

  pub inside_has : (j : Joint) (number : ℕ) (h : Hart) (ctx : ℕ) (found : Option Domain) →
      slice_get j.domains (domain_of ctx) ≡ found →
      IsUnchanged (asked_inside j number h (domain_of ctx) (slot_of ctx) found).changed → Has j →
      Has (inside_step j number h ctx found).joint
  unfolding inside_step
  inside_has j number h ctx None there out has = has
  inside_has j number h ctx (Some was) there out has =
      running_has (runs_on number (context_at was.control.contexts (slot_of ctx))) j number h ctx was there out has

  pub turn_has : (j : Joint) (number : ℕ) (h : Hart) (o : Option ℕ) →
      IsUnchanged (asked_of j number h o).changed → Has j → Has (turn_of j number h o).joint
  unfolding turn_of
  turn_has j number h None out has = outside_has j number h has
  turn_has j number h (Some ctx) out has =
      inside_has j number (ticked h) ctx (slice_get j.domains (domain_of ctx)) refl out has

pub turn_keeps_pages : TurnKeepsPages
turn_keeps_pages j number s va q has out = let h = hart_in j number in turn_has s va q j number h h.inside out has
