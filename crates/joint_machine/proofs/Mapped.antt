-- The pages of entries lie where their spaces have them, through a step of a hart.
use Rattle.std.proofs.Common.{arith, get_or, inl, inr, nat_eq, ◌≡◌, ◌∙◌, ◌*◌, ◌/◌, ℕ, Bool, true, false, ◌&&◌, ◌||◌, [], ◌∷◌, List, Option, Some, None, refl, ap, sym, subst}
use Rattle.std.proofs.lemmas.Bool.{eq-eqb}
use Rattle.std.proofs.lemmas.Bool.Decides.{eqb_tells}
use Rattle.std.specs.List.{All, list_any}
use Rattle.std.specs.Prelude.{IfSome, filter, not, slice_get}
use Rattle.shadow_fold.specs.Table.{Table, ending}
use Rattle.cloak_base.specs.declared.names.PageId.{PageId}
use Rattle.cloak_base.specs.declared.names.SpaceId.{SpaceId}
use Rattle.cloak_model.specs.Contexts.{Context, context_at, domain_of, slot_of, same_space}
use Rattle.cloak_model.specs.Csr.{interrupt_due}
use Rattle.cloak_model.specs.DomainAlone.{runs_on}
use Rattle.cloak_model.specs.DomainState as program
use Rattle.cloak_model.specs.Hart.{Hart}
use Rattle.cloak_model.specs.Joint.{cloak_of, cloak_outside, hart_in, pages_for}
use Rattle.cloak_model.specs.Parts as model
use Rattle.cloak_model.specs.Resources.{page_at}
use Rattle.cloaked_side.specs.Tracking.{AreAll, AreMapped, GoesBy, IsGone}
use Rattle.cloaked_side.specs.declared.memory.Memory.{Memory}
use Rattle.hypercalls.specs.declared.domain.Domain.{Domain}
use Rattle.hypercalls.specs.Standing.{StandsFor}
use Rattle.shadow_fold.specs.Agreement.{HasInSpace, IsMapped}
use Rattle.shadow_fold.specs.Entries.{is_of_space, sees_space}
use Rattle.shadow_fold.specs.Events as events
use Rattle.shadow_fold.specs.Reads.{AskedByStep}
use Rattle.shadow_fold.specs.declared.entry.Entry.{Entry}
use Rattle.shadow_fold.specs.declared.entry.Regime.{Regime}
use Rattle.shadow_fold.specs.declared.entry.Regime.TheVariants.{Outside, Inside}
use Rattle.space_law.specs.Mapping.{AreWhole, mapped_in, page_of}
use Rattle.space_law.proofs.Births.{makes_mapped}
use Rattle.space_law.proofs.Outside.{makes_outside}
use Rattle.space_law.proofs.Ended.{step_keeps_pages, step_makes}
use Rattle.joint_machine.specs.Mapping.{MakesIn}
use Rattle.joint_machine.specs.Standing.{step_in}
use Rattle.joint_machine.proofs.Running.{run_asks}

-- the regions of a domain are those of its program
pub whole_of : (domain : Domain) (was : program.Domain) (space : ℕ) → StandsFor domain was →
    ((va other : ℕ) → other / 4096 ≡ va / 4096 →
    page_at domain.control.number domain.control.resources space other ≡ page_at domain.control.number domain.control.resources space va) →
    AreWhole was space
whole_of domain was space stands whole =
    subst (λ (k : program.Control). (va other : ℕ) → other / 4096 ≡ va / 4096 →
    page_at k.number k.resources space other ≡ page_at k.number k.resources space va) (sym stands.control) whole

-- A context in its slot.

pub makes_due : (mapped : SpaceId → ℕ → Option PageId) (due : Bool) (j : model.Joint) (h : Hart) (d slot : ℕ) (was : program.Domain) (c : Option Context) →
    due ≡ true → MakesIn mapped (events.asked_if due j h d slot was c)
makes_due mapped due j h d slot was c is = subst (λ (b : Bool). MakesIn mapped (events.asked_if b j h d slot was c)) (sym is) tt

pub makes_stepped : (mapped : SpaceId → ℕ → Option PageId) (due : Bool) (j : model.Joint) (h : Hart) (d slot : ℕ) (was : program.Domain) (c : Context) →
    due ≡ false → context_at was.control.contexts slot ≡ Some c → AreWhole was c.space →
    ((space va : ℕ) → mapped (record { domain = d; number = space }) va ≡ page_of (Some was) space va) →
    MakesIn mapped (events.asked_if due j h d slot was (context_at was.control.contexts slot))
makes_stepped mapped due j h d slot was c is there whole same =
    let s : SpaceId = record { domain = d; number = c.space } in
    subst (λ (b : Bool). MakesIn mapped (events.asked_if b j h d slot was (context_at was.control.contexts slot))) (sym is)
    (subst (λ (o : Option Context). MakesIn mapped (events.asked_if false j h d slot was o)) (sym there)
    (makes_mapped mapped s slot was c (cloak_of j.memory h d (pages_for was (Some c))) there whole (λ va. same c.space va) tt))

-- A hart inside.

pub makes_stopped : (mapped : SpaceId → ℕ → Option PageId) (a : AskedByStep) → a ≡ events.nothing_asked → MakesIn mapped a
makes_stopped mapped a nothing = subst (λ (x : AskedByStep). MakesIn mapped x) (sym nothing) tt

pub makes_there : (mapped : SpaceId → ℕ → Option PageId) (j : model.Joint) (number : ℕ) (h at_start : Hart) (ctx : ℕ) (was : program.Domain) → h ≡ at_start →
    slice_get j.domains (domain_of ctx) ≡ Some was → runs_on number (context_at was.control.contexts (slot_of ctx)) ≡ true →
    MakesIn mapped (events.asked_if (interrupt_due h.mode h.csrs) j h (domain_of ctx) (slot_of ctx) was (context_at was.control.contexts (slot_of ctx))) →
    MakesIn mapped (events.asked_inside j number at_start (domain_of ctx) (slot_of ctx) (slice_get j.domains (domain_of ctx)))
makes_there mapped j number h at_start ctx was same there runs makes =
    let o = slice_get j.domains (domain_of ctx) in
    subst (λ (y : Hart). MakesIn mapped (events.asked_inside j number y (domain_of ctx) (slot_of ctx) o)) same
    (subst (λ (a : AskedByStep). MakesIn mapped a) (sym (run_asks j number h (domain_of ctx) ctx o was there runs)) makes)

-- a domain has its pages where they are mapped
pub mapped_there : (j : model.Joint) (d : ℕ) (was : program.Domain) → slice_get j.domains d ≡ Some was → (space va : ℕ) →
    mapped_in j (record { domain = d; number = space }) va ≡ page_of (Some was) space va
mapped_there j d was there space va = ap (λ (o : Option program.Domain). page_of o space va) there

-- A hart by the context that it runs.

pub makes_plainly : (mapped : SpaceId → ℕ → Option PageId) (j : model.Joint) (number : ℕ) (at : Hart) → at.inside ≡ None →
    MakesIn mapped (events.asked_of j number at at.inside)
makes_plainly mapped j number at none =
    subst (λ (o : Option ℕ). MakesIn mapped (events.asked_of j number at o)) (sym none)
    (makes_outside mapped at j.disk (cloak_outside j.memory at) tt)

pub makes_inside : (mapped : SpaceId → ℕ → Option PageId) (j : model.Joint) (number : ℕ) (at : Hart) (ctx : ℕ) → at.inside ≡ Some ctx →
    MakesIn mapped (events.asked_of j number at (Some ctx)) → MakesIn mapped (events.asked_of j number at at.inside)
makes_inside mapped j number at ctx some = subst (λ (o : Option ℕ). MakesIn mapped (events.asked_of j number at o)) (sym some)

-- A step.

eq_turned : (a b : ℕ) → nat_eq a b ≡ nat_eq b a
eq_turned a b = elim (eqb_tells a b) [
  | inl h ↦ h.0 ∙ sym (eq-eqb b a (sym h.1))
  | inr h ↦ h.0 ∙ sym (elim (eqb_tells b a) [
    | inl k ↦ absurd (h.1 (sym k.1))
    | inr k ↦ k.0
  ])
]

same_turned : (s x : SpaceId) → same_space s x ≡ same_space x s
same_turned s x = λ i. eq_turned s.domain x.domain i && eq_turned s.number x.number i

-- an entry of a regime of a space is left: the space did not change
unchanged : (satp : ℕ) (sum mxr : Bool) (s : SpaceId) (e : Entry) (changed : List SpaceId) → e.regime ≡ Inside satp sum mxr s →
    AreAll (λ x. is_of_space x e ≡ false) changed → list_any (λ x. same_space x s) changed ≡ false
unfolding is_of_space
unchanged satp sum mxr s e [] at gone = refl
unchanged satp sum mxr s e (x ∷ changed) at gone =
    ap (λ (b : Bool). b || list_any (λ y. same_space y s) changed)
    (same_turned x s ∙ ap (λ (v : Regime). sees_space x v) (sym at) ∙ gone.0)
    ∙ unchanged satp sum mxr s e changed at gone.1

all_gone : (new : Memory) (changed : List SpaceId) → AreAll (IsGone new) changed → (e : Entry) → ((x : SpaceId) → IsGone new x → is_of_space x e ≡ false) →
    AreAll (λ x. is_of_space x e ≡ false) changed
all_gone new [] gone e each = tt
all_gone new (x ∷ changed) gone e each = (each x gone.0, all_gone new changed gone.1 e each)

entry_mapped : (j : model.Joint) (number : ℕ) (e : Entry) → AreAll (λ x. is_of_space x e ≡ false) (events.asked_with_end j number).changed →
    IsMapped (mapped_in j) e → IsMapped (mapped_in (step_in j number).joint) e
entry_mapped j number e gone = by_page e.cloaked
  where
    after : SpaceId → ℕ → Option PageId
    after = mapped_in (step_in j number).joint

    by_regime : (v : Regime) (q : PageId) → e.regime ≡ v → HasInSpace (mapped_in j) v (4096 * e.page) q → HasInSpace after v (4096 * e.page) q
    by_regime (Outside satp mode sum mxr) q at has = has
    by_regime (Inside satp sum mxr s) q at has =
        step_keeps_pages j number s (4096 * e.page) q has (unchanged satp sum mxr s e (events.asked_with_end j number).changed at gone)

    by_page : (o : Option PageId) → IfSome o (HasInSpace (mapped_in j) e.regime (4096 * e.page)) → IfSome o (HasInSpace after e.regime (4096 * e.page))
    by_page None has = tt
    by_page (Some q) has = by_regime e.regime q refl has

pub step_mapped : (old new : Memory) (j : model.Joint) (number : ℕ) → GoesBy old new (events.asked_with_end j number) →
    (let h = hart_in j number in MakesIn (mapped_in j) (events.asked_of j number h h.inside)) → AreMapped (mapped_in j) old →
    AreMapped (mapped_in (step_in j number).joint) new
step_mapped old new j number goes makes are =
    let there = goes.maps (mapped_in j) (step_makes (mapped_in j) j number makes) are in
    λ k d inside. let e = get_or new.shadows.live k d in
    entry_mapped j number e (all_gone new (events.asked_with_end j number).changed goes.gone e (λ x gone. gone k d inside)) (there k d inside)

-- no entry is live: all are mapped as one likes
pub none_mapped : (mapped : SpaceId → ℕ → Option PageId) (memory : Memory) → memory.shadows.live ≡ [] → AreMapped mapped memory
none_mapped mapped memory none = subst (λ (es : List Entry). All (IsMapped mapped) es) (sym none) (λ k d inside. absurd (omega (arith, inside)))

pub ended_empty : (ends : Entry → Bool) (t u : Table) → u ≡ ending ends t → t.live ≡ [] → u.live ≡ []
unfolding ending
ended_empty ends t u ended none = ap (λ (x : Table). x.live) ended ∙ ap (λ (es : List Entry). filter (λ e. not (ends e)) es) none
