-- A step of a hart outside: it tells no program anything, or the one whose context it resumes.
use Rattle.std.proofs.Common.{◌≡◌, ◌∙◌, inl, inr, ◌<◌, true, cond, suc, ℕ, Bool, List, [], ◌∷◌, ◌++◌, Option, Some, None, Result, Ok, Err, refl, ap, sym, subst, eq-eqb, ne_eqb, length, append-nil, if◌then◌else◌}
use Rattle.std.specs.Prelude.{◌==◌, slice_get}
use Rattle.std.specs.List.{AllByRecursion}
use Rattle.std.proofs.lemmas.List.Elements.{filter-append}
use Rattle.cloak_base.specs.declared.names.SpaceId.{SpaceId}
use Rattle.cloak_base.specs.declared.causes.Violation.{Violation}
use Rattle.cloak_base.specs.declared.causes.Violation.TheVariants as violation
use Rattle.cloak_model.specs.declared.context.ResumeFault.{ResumeFault}
use Rattle.cloak_model.specs.Items.{Item}
use Rattle.cloak_model.specs.Items as item
use Rattle.cloak_model.specs.declared.outcome.Kernel.{Kernel}
use Rattle.cloak_model.specs.declared.outcome.Kernel.TheVariants.{Put, Halt, Resume}
use Rattle.cloak_model.specs.Csr.{satp_of}
use Rattle.cloak_model.specs.Hart.{Hart}
use Rattle.cloak_model.specs.Halves.{is_inward, inward_half}
use Rattle.cloak_model.specs.Record.{IsOfStep}
use Rattle.cloak_model.specs.Cloaking.{CloakedMemory, seen_in}
use Rattle.cloak_model.specs.Ahead.{settle_touched, made_after, settled_step}
use Rattle.cloak_model.specs.World.{MidStep, Flat, items_of}
use Rattle.cloak_model.specs.Contexts.{Admitted, context_at, domain_of, slot_of, admit}
use Rattle.cloak_model.specs.DomainState.{Domain}
use Rattle.cloak_model.specs.DomainStep.{resume_slot}
use Rattle.cloak_model.specs.Resuming.{AfterResume, violated, space_of, resume}
use Rattle.cloak_model.proofs.ResumeParts.{with_roots, with_domain_control, by_root, by_context, by_domain}
use Rattle.cloak_model.specs.Parts.{Joint, DomainPart, domain_pages}
use Rattle.cloak_model.specs.Joint.{Turn, quiet, hart_in, with_hart, cloak_outside, memory_of, outside_ended, after_outside, outside_step}
use Rattle.cloak_model.specs.DomainAlone.{DomainAlone, Other, domain_taken, slot_on, stage_for, is_granted, with_control}
use Rattle.kernel_isolation.proofs.Ahead.{touched_keeps}
use Rattle.domain_isolation.proofs.Ignoring.{taken_half}
use Rattle.domain_isolation.proofs.Steady.{settle_plain, ciphers_told}
use Rattle.domain_isolation.proofs.Alone.{alone_at, ended, RestsAt, resume_rests}
use Rattle.domain_isolation.proofs.InOrder.{decided, inside_at, InOrder, order_kept, order_enters, order_resumes, resume_resumes, get_set_same, slot_outside}
use Rattle.domain_isolation.proofs.KernelHarts.{inside_after, kernel_step_inside}
use Rattle.domain_isolation.proofs.JointSteps.{HoldsPart, StepAlone, is_cut, other_alone}
use Rattle.std.proofs.lemmas.Bool.{false≢true}
use Rattle.std.proofs.lemmas.Option.{same_Some}
use Rattle.cloak_base.proofs.Lists.{slice_get-set_other}

touched_plain : (h : Hart) (disk : List ℕ) (m : CloakedMemory) → (settle_touched h disk m).memory.plain ≡ m.plain
touched_plain h disk m =
    touched_keeps (λ x. x.plain ≡ m.plain) (λ f x same. settle_plain f x ∙ same) h disk m refl

settled_step_plain : (h : Hart) (disk : List ℕ) (c : MidStep) (m : CloakedMemory) →
    (memory_of (settled_step h disk c).world m).plain ≡ c.memory.plain
unfolding settled_step made_after
settled_step_plain h disk c m = touched_plain h disk c.memory

settled_step_items : (d : ℕ) (h : Hart) (disk : List ℕ) (c : MidStep) →
    inward_half d (items_of (settled_step h disk c).world) ≡ inward_half d c.items
unfolding settled_step made_after
settled_step_items d h disk c = ciphers_told d c.items (settle_touched h disk c.memory).ciphers

settled_step_inside : (h : Hart) (disk : List ℕ) (c : MidStep) →
    let a = (settled_step h disk c).answer in a.hart.inside ≡ inside_after a.ending h.inside
unfolding settled_step made_after
settled_step_inside h disk c = kernel_step_inside h disk (Flat (seen_in (settle_touched h disk c.memory).memory))

-- a resuming that was granted, in the order of its parts
resumed_half : (e d ctx reply : ℕ) (items : List Item) → inward_half d items ≡ [] →
    inward_half d (items ++ item.Resume e ctx reply ∷ []) ≡ (if e == d then item.Resume e ctx reply ∷ [] else [])
resumed_half e d ctx reply items half =
    filter-append (is_inward d) items (item.Resume e ctx reply ∷ [])
    ∙ ap (λ (l : List Item). l ++ inward_half d (item.Resume e ctx reply ∷ [])) half

-- a step of a hart outside that got to here: the kernel's part of it is done
record OutsideStep (d count n : ℕ) (p : DomainPart) (j : Joint) (h : Hart) (disk : List ℕ) (m : CloakedMemory)
    (items : List Item) : Type 0 where
  pub none : slot_on n 0 p.domain.control.contexts ≡ None
  pub half : inward_half d items ≡ []
  pub has : HoldsPart d j p
  pub plain : m.plain ≡ j.memory.plain
  pub order : InOrder count j.harts j.domains
  pub within : n < length j.harts
  pub out : inside_at j.harts n ≡ None

abbrev stepped_to : ℕ → Joint → Hart → List ℕ → CloakedMemory → Joint
stepped_to n j h disk m = record (with_hart n h j) { disk = disk; memory = m }

outside_has : (d count n : ℕ) (p : DomainPart) (j : Joint) (h : Hart) (disk : List ℕ) (m : CloakedMemory)
    (items : List Item) → OutsideStep d count n p j h disk m items →
    HoldsPart d (stepped_to n j h disk m) p
outside_has d count n p j h disk m items o = record {
  domain = o.has.domain;
  plain = ap (domain_pages d) o.plain
      ∙ o.has.plain;
}

granted_own : (count : ℕ) (schedule : List ℕ) (k n : ℕ) (p : DomainPart) (j : Joint) (h : Hart) (disk : List ℕ)
    (m : CloakedMemory) (items : List Item) (ctx reply : ℕ) (root : SpaceId → Option ℕ) →
    OutsideStep (domain_of ctx) count n p j h disk m items → h.inside ≡ Some ctx →
    let r = resume_slot (slot_of ctx) n reply p.domain.control in
    is_granted r.answer ≡ true →
    StepAlone (domain_of ctx) count schedule k n p None (record (quiet (record (stepped_to n j h disk m) {
      domains = with_domain_control (domain_of ctx) p.domain r.control j.domains;
      memory = with_roots root m;
    }) (items ++ item.Resume (domain_of ctx) ctx reply ∷ [])) { violation = None })
granted_own count schedule k n p j h disk m items ctx reply root o goes granted =
    let e = domain_of ctx in
    let r = resume_slot (slot_of ctx) n reply p.domain.control in
    let new : Domain = record p.domain { control = r.control } in
    let t : Turn = record (quiet (record (stepped_to n j h disk m) {
      domains = with_domain_control e p.domain r.control j.domains;
      memory = with_roots root m;
    }) (items ++ item.Resume e ctx reply ∷ [])) { violation = None } in
    let half : inward_half e t.items ≡ item.Resume e ctx reply ∷ [] =
    resumed_half e e ctx reply items o.half ∙ ap (λ (b : Bool). cond b (item.Resume e ctx reply ∷ []) [])
    (eq-eqb e e refl) in
    record {
      part = with_control r.control p;
      has = record {
        domain = get_set_same j.domains e p.domain new o.has.domain;
        plain = ap
            (domain_pages e) o.plain ∙ o.has.plain;
      };
      rests =
          subst (λ (s : Option ℕ). RestsAt (ended
          (domain_taken e schedule (alone_at p (suc k) (stage_for n s)) t.items)) (with_control r.control p)
          (is_cut t)) (sym o.none)
          (subst (λ (s : DomainAlone). RestsAt (ended s) (with_control r.control p) (is_cut t))
          (sym (taken_half e schedule (alone_at p (suc k) (Other n)) t.items (item.Resume e ctx reply ∷ []) half))
          (resume_rests e schedule p (suc k) n ctx reply (is_cut t) refl granted));
      opens = λ some. absurd (false≢true some);
      order =
          order_resumes count j.harts j.domains n h ctx p.domain new o.order o.has.domain o.within o.out goes
          (resume_resumes (slot_of ctx) n reply p.domain.control granted);
      told = subst (AllByRecursion IsOfStep) (sym half) (refl, tt);
    }

granted_alone : (d count : ℕ) (schedule : List ℕ) (k n : ℕ) (p : DomainPart) (j : Joint) (h : Hart) (disk : List ℕ)
    (m : CloakedMemory) (items : List Item) (ctx reply : ℕ) (root : SpaceId → Option ℕ) (old : Domain) →
    OutsideStep d count n p j h disk m items → h.inside ≡ Some ctx → slice_get j.domains (domain_of ctx) ≡ Some old →
    let r = resume_slot (slot_of ctx) n reply old.control in
    is_granted r.answer ≡ true →
    StepAlone d count schedule k n p None (record (quiet (record (stepped_to n j h disk m) {
      domains = with_domain_control (domain_of ctx) old r.control j.domains;
      memory = with_roots root m;
    }) (items ++ item.Resume (domain_of ctx) ctx reply ∷ [])) { violation = None })
granted_alone d count schedule k n p j h disk m items ctx reply root old o goes is granted =
    let e = domain_of ctx in
    let turn : Domain → Turn = λ old. record (quiet (record (stepped_to n j h disk m) {
      domains = with_domain_control e old (resume_slot (slot_of ctx) n reply old.control).control j.domains;
      memory = with_roots root m;
    }) (items ++ item.Resume e ctx reply ∷ [])) { violation = None } in
    elim (decided d e) [
      | inl same ↦
          let own : OutsideStep e count n p j h disk m items = subst
          (λ (x : ℕ). OutsideStep x count n p j h disk m items) same o in
          let it : p.domain ≡ old = same_Some p.domain old (sym own.has.domain ∙ is) in
          subst (λ (x : ℕ). StepAlone x count schedule k n p None (turn old)) (sym same)
          (subst (λ (x : Domain). is_granted (resume_slot (slot_of ctx) n reply x.control).answer ≡ true →
          StepAlone e count schedule k n p None (turn x)) it
          (granted_own count schedule k n p j h disk m items ctx reply root own goes) granted)
      | inr other ↦
          other_alone d count schedule k n p None (turn old) o.none
          (resumed_half e d ctx reply items o.half ∙ ap (λ (b : Bool). cond b (item.Resume e ctx reply ∷ []) [])
          (ne_eqb e d (λ same. other (sym same))))
          (record {
            domain = slice_get-set_other j.domains e d
                (record old { control = (resume_slot (slot_of ctx) n reply old.control).control }) other ∙ o.has.domain;
            plain = ap (domain_pages d) o.plain ∙ o.has.plain;
          })
          (order_resumes count j.harts j.domains n h ctx old _ o.order is o.within o.out goes
          (resume_resumes (slot_of ctx) n reply old.control granted))
          (λ some. tt)
    ]

-- what a resuming made, as the step ends with it
abbrev resumed_turn : List Item → AfterResume → Turn
resumed_turn items r = record (quiet r.joint (items ++ r.items)) { violation = r.violation }

refused_alone : (d count : ℕ) (schedule : List ℕ) (k n : ℕ) (p : DomainPart) (j : Joint) (h : Hart) (disk : List ℕ)
    (m : CloakedMemory) (items : List Item) (v : Violation) →
    OutsideStep d count n p j h disk m items →
    StepAlone d count schedule k n p None (resumed_turn items (violated (stepped_to n j h disk m) v))
refused_alone d count schedule k n p j h disk m items v o =
    other_alone d count schedule k n p None (resumed_turn items (violated (stepped_to n j h disk m) v)) o.none
    (ap (inward_half d) (append-nil items) ∙ o.half) (outside_has d count n p j h disk m items o)
    (order_enters count j.harts j.domains n h o.order o.out) (λ some. tt)

by_root_alone : (d count : ℕ) (schedule : List ℕ) (k n : ℕ) (p : DomainPart) (j : Joint) (h : Hart) (disk : List ℕ)
    (m : CloakedMemory) (items : List Item) (satp ctx reply : ℕ) (old : Domain) (admitted : Admitted)
    (answer : Result (Unit {0}) ResumeFault) →
    OutsideStep d count n p j h disk m items → h.inside ≡ Some ctx → slice_get j.domains (domain_of ctx) ≡ Some old →
    is_granted (resume_slot (slot_of ctx) n reply old.control).answer ≡ true →
    StepAlone d count schedule k n p None (resumed_turn items
    (by_root (stepped_to n j h disk m) satp ctx reply old
    (resume_slot (slot_of ctx) n reply old.control).control admitted answer))
unfolding by_root
by_root_alone d count schedule k n p j h disk m items satp ctx reply old admitted (Err fault) o goes is granted =
    refused_alone d count schedule k n p j h disk m items (violation.Mapping ctx satp) o
by_root_alone d count schedule k n p j h disk m items satp ctx reply old admitted (Ok done) o goes is granted =
    granted_alone d count schedule k n p j h disk m items ctx reply admitted.root old o goes is granted

by_context_alone : (d count : ℕ) (schedule : List ℕ) (k n : ℕ) (p : DomainPart) (j : Joint) (h : Hart)
    (disk : List ℕ) (m : CloakedMemory) (items : List Item) (satp ctx reply : ℕ) (old : Domain)
    (answer : Result (Unit {0}) ResumeFault) →
    OutsideStep d count n p j h disk m items → h.inside ≡ Some ctx → slice_get j.domains (domain_of ctx) ≡ Some old →
    (resume_slot (slot_of ctx) n reply old.control).answer ≡ answer →
    StepAlone d count schedule k n p None (resumed_turn items
    (by_context (stepped_to n j h disk m) satp ctx reply old
    (resume_slot (slot_of ctx) n reply old.control).control answer))
unfolding by_context
by_context_alone d count schedule k n p j h disk m items satp ctx reply old (Err fault) o goes is answered =
    refused_alone d count schedule k n p j h disk m items (violation.Context ctx) o
by_context_alone d count schedule k n p j h disk m items satp ctx reply old (Ok done) o goes is answered =
    let admitted = admit (record {
      domain = domain_of ctx;
      number = space_of
          (context_at old.control.contexts (slot_of ctx));
    }) satp m.ledger.root in
    by_root_alone d count schedule k n p j h disk m items satp ctx reply old admitted admitted.answer o goes is
    (ap is_granted answered)

by_domain_alone : (d count : ℕ) (schedule : List ℕ) (k n : ℕ) (p : DomainPart) (j : Joint) (h : Hart)
    (disk : List ℕ) (m : CloakedMemory) (items : List Item) (satp ctx reply : ℕ) (found : Option Domain) →
    OutsideStep d count n p j h disk m items → h.inside ≡ Some ctx → slice_get j.domains (domain_of ctx) ≡ found →
    StepAlone d count schedule k n p None (resumed_turn items (by_domain (stepped_to n j h disk m) n satp ctx reply found))
unfolding by_domain
by_domain_alone d count schedule k n p j h disk m items satp ctx reply None o goes is =
    refused_alone d count schedule k n p j h disk m items (violation.Context ctx) o
by_domain_alone d count schedule k n p j h disk m items satp ctx reply (Some old) o goes is =
    by_context_alone d count schedule k n p j h disk m items satp ctx reply old
    (resume_slot (slot_of ctx) n reply old.control).answer o goes is refl

outside_ended_alone : (d count : ℕ) (schedule : List ℕ) (k n : ℕ) (p : DomainPart) (j : Joint) (h : Hart)
    (disk : List ℕ) (m : CloakedMemory) (items : List Item) (ending : Kernel) →
    OutsideStep d count n p j h disk m items → h.inside ≡ inside_after ending None →
    StepAlone d count schedule k n p None (outside_ended (stepped_to n j h disk m) n items ending)
unfolding outside_ended resume by_domain by_context by_root
outside_ended_alone d count schedule k n p j h disk m items (Put b) o goes =
    let j' = stepped_to n j h disk m in
    let has = outside_has d count n p j h disk m items o in
    other_alone d count schedule k n p None (record
    (quiet (record j' { console = j'.console ++ b ∷ [] }) items) { console = b ∷ [] }) o.none o.half
    (record { domain = has.domain; plain = has.plain })
    (order_kept count j.harts j.domains n h o.order (goes ∙ sym o.out)) (λ some. tt)
outside_ended_alone d count schedule k n p j h disk m items (Halt value) o goes =
    other_alone d count schedule k n p None (record
    (quiet (stepped_to n j h disk m) items) { halt = Some value }) o.none o.half
    (outside_has d count n p j h disk m items o)
    (order_kept count j.harts j.domains n h o.order (goes ∙ sym o.out)) (λ some. tt)
outside_ended_alone d count schedule k n p j h disk m items (Resume ctx reply) o goes =
    by_domain_alone d count schedule k n p j h disk m items
    (satp_of (hart_in (stepped_to n j h disk m) n).csrs) ctx reply (slice_get j.domains (domain_of ctx)) o goes refl
outside_ended_alone d count schedule k n p j h disk m items _ o goes =
    other_alone d count schedule k n p None (quiet (stepped_to n j h disk m) items) o.none o.half
    (outside_has d count n p j h disk m items o)
    (order_kept count j.harts j.domains n h o.order (goes ∙ sym o.out)) (λ some. tt)

pub outside_alone : (d count : ℕ) (schedule : List ℕ) (k n : ℕ) (p : DomainPart) (j : Joint) →
    InOrder count j.harts j.domains → HoldsPart d j p → n < length j.harts → inside_at j.harts n ≡ None →
    StepAlone d count schedule k n p None (outside_step j n (hart_in j n))
unfolding outside_step after_outside
outside_alone d count schedule k n p j order has within out =
    let h = hart_in j n in
    let c = cloak_outside j.memory h in
    let told = settled_step h j.disk c in
    let a = told.answer in
    outside_ended_alone d count schedule k n p j a.hart a.disk (memory_of told.world j.memory)
    (items_of told.world) a.ending
    (record {
      none = slot_outside count j.harts j.domains d p.domain n order has.domain out;
      half = settled_step_items d h j.disk c;
      has = has;
      plain = settled_step_plain h j.disk c j.memory;
      order = order;
      within = within;
      out = out;
    })
    (settled_step_inside h j.disk c ∙ ap (inside_after a.ending) out)
