-- What a step with answers made of a program that runs alone.
use Rattle.std.proofs.Common.{◌≡◌, ◌∙◌, ◌<◌, ◌⊎◌, inl, inr, ℕ, Bool, true, false, cond, List, [], ◌∷◌, length, Option, Some, None, IfSome, refl, ap, sym, subst}
use Rattle.std.specs.Prelude.{option_map, is_some}
use Rattle.std.proofs.lemmas.Bool.{false≢true}
use Rattle.cloak_base.specs.declared.names.HartId.{HartId}
use Rattle.cloak_model.specs.declared.answer.Answer.{Answer}
use Rattle.cloak_model.specs.World.{World, Alone, Handed, is_clashed}
use Rattle.cloak_model.specs.AskPages.{HasPages}
use Rattle.cloak_model.specs.Contexts.{Context, context_at}
use Rattle.cloak_model.specs.Resources.{Resources}
use Rattle.cloak_model.specs.DomainState as program
use Rattle.cloak_model.specs.DomainStep.{domain_script, DomainStepped, domain_step, step_if}
use Rattle.cloak_model.specs.DomainAlone as model
use Rattle.cloak_model.specs.DomainAlone.{Tried, Over, Wants, Wrong, is_none_left, tried, try_with, handed_of}
use Rattle.cloak_model.specs.Script.{played}
use Rattle.hypercalls.specs.declared.domain.Domain.{Domain}
use Rattle.hypercalls.specs.Standing.{StandsFor, HasPagesOf, control_of}
use Rattle.alone_views.specs.declared.domain.DomainAlone.{DomainAlone}
use Rattle.alone_views.specs.declared.side.HandedSide.{HandedSide}
use Rattle.alone_views.specs.declared.side.Handing.{Handing}
use Rattle.alone_views.specs.DomainPages.{HasPlain}
use Rattle.alone_views.specs.Side.{StandsForHanded, IsAloneNow, answers_in, answers_of, handing_of}
use Rattle.alone_views.specs.DomainStanding.{StepsAlone, IsTried}
use Rattle.alone_views.proofs.DomainAsks.{Lacks, Steps, asks_step}
use Rattle.alone_views.proofs.DomainSlots.{slots_step}

-- The premises of the step.

pages_for : (number : ℕ) (r : Resources) (o : Option Context) (h : Handed) → IfSome o (λ c. HasPages number r c.space (Alone h))
pages_for number r None h = tt
pages_for number r (Some c) h = λ va q is. tt

pub pages_alone : (slot : ℕ) (d : program.Control) (h : Handed) → HasPagesOf slot d (Alone h)
pages_alone slot d h = pages_for d.number d.resources (context_at d.contexts slot) h

unclashed : (h : Handed) (d : program.Domain) (a : DomainStepped) (w : World) → Steps h d (record { answer = a; world = w }) → is_clashed w ≡ false
unclashed h d a (Alone now) o = refl
unclashed h d a _ o = absurd o

pub step_unclashed : (h : Handed) (slot : ℕ) (d : program.Domain) → h.unfit ≡ false → is_clashed (domain_step slot d (Alone h)).world ≡ false
step_unclashed h slot d fit = unclashed h d (domain_step slot d (Alone h)).answer (domain_step slot d (Alone h)).world (asks_step h slot d fit)

-- A slot that is free.

free_if : {A B : Type 0} (o : Option A) (f : A → B) (r : Option B) (b : Bool) → r ≡ option_map f o → b ≡ is_some r → b ≡ false → o ≡ None
free_if None f r b is test off = refl
free_if (Some a) f r b is test off = absurd (false≢true (sym off ∙ test ∙ ap (λ (x : Option _). is_some x) is))

pub free_slot : (domain : Domain) (d : program.Domain) (slot : ℕ) (r : Option (ℕ × Option HartId)) (b : Bool) → StandsFor domain d →
    r ≡ option_map (λ (c : Context). (c.space, c.on)) (context_at (control_of domain).contexts slot) → b ≡ is_some r → b ≡ false → context_at d.control.contexts slot ≡ None
free_slot domain d slot r b stands is test off =
    ap (λ (k : program.Control). context_at k.contexts slot) stands.control
    ∙ free_if (context_at (control_of domain).contexts slot) (λ (c : Context). (c.space, c.on)) r b is test off

-- it makes no step
pub no_step : (machine : DomainAlone) (slot : ℕ) (d : program.Domain) (h : Handed) → context_at d.control.contexts slot ≡ None → StandsFor machine.domain d → StandsForHanded machine.side h →
    StepsAlone machine (domain_step slot d (Alone h))
unfolding domain_step domain_script step_if
no_step machine slot d h free stands side =
    subst (λ (o : Option Context). StepsAlone machine (played (step_if o slot d) (Alone h))) (sym free) (record { domain = stands; side = side })

-- How the step ended.

tried_now : (machine : DomainAlone) (answers : List Answer) (s : model.DomainAlone) (h now : Handed) (a : DomainStepped) (b : Bool) (left : List Answer) →
    now.unfit ≡ b → now.answers ≡ left → h.plain ≡ s.part.plain → h.answers ≡ answers →
    length s.part.domain.control.contexts ≡ 8 → length a.domain.control.contexts ≡ 8 → StandsFor machine.domain a.domain → HasPlain machine.side.pages now.plain →
    (now.unfit ≡ false) ⊎ (Lacks h now × (a.domain ≡ s.part.domain)) →
    IsTried machine (handing_of b left) answers s
    (cond b (cond (is_none_left left) Wants Wrong) (cond (is_none_left left) (Over (record { domain = a.domain; plain = now.plain })) Wrong))
tried_now machine answers s h now a true (x ∷ left) is are plain handed eight slots domain pages o = tt
tried_now machine answers s h now a false (x ∷ left) is are plain handed eight slots domain pages o = tt
tried_now machine answers s h now a false [] is are plain handed eight slots domain pages o = record { domain = domain; pages = pages; slots = slots }
tried_now machine answers s h now a true [] is are plain handed eight slots domain pages (inl fit) = absurd (false≢true (sym fit ∙ is))
tried_now machine answers s h now a true [] is are plain handed eight slots domain pages (inr lacks) = (
  record {
    domain = subst (λ (d : program.Domain). StandsFor machine.domain d) lacks.1 domain;
    pages = subst (λ (p : ℕ → ℕ → List ℕ). HasPlain machine.side.pages p) (lacks.0.plain ∙ plain) pages;
    slots = eight;
  },
  subst (λ (l : List Answer). length l < 2) handed (lacks.0.few are),
)

tried_by : (machine : DomainAlone) (answers : List Answer) (s : model.DomainAlone) (h : Handed) (a : DomainStepped) (w : World) (given : Handing) →
    h.plain ≡ s.part.plain → h.answers ≡ answers →
    length s.part.domain.control.contexts ≡ 8 → length a.domain.control.contexts ≡ 8 → StandsFor machine.domain a.domain → IsAloneNow machine.side w →
    Steps h s.part.domain (record { answer = a; world = w }) → given ≡ handing_of machine.side.unfit (answers_of machine.side) →
    IsTried machine given answers s (tried a.domain (handed_of w))
unfolding tried
tried_by machine answers s h a (Alone now) given plain handed eight slots domain side o is =
    let same : given ≡ handing_of now.unfit now.answers =
    is ∙ (ap (λ (b : Bool). handing_of b (answers_of machine.side)) side.unfit ∙ ap (λ (l : List Answer). handing_of now.unfit l) side.answers) in
    subst (λ (x : Handing). IsTried machine x answers s (tried a.domain now)) (sym same)
    (tried_now machine answers s h now a now.unfit now.answers refl refl plain handed eight slots domain side.pages o)
tried_by machine answers s h a _ given plain handed eight slots domain side o is = absurd side

-- a program with its pages and these answers
abbrev pub handed_to : model.DomainAlone → List Answer → Handed
handed_to s answers = record { plain = s.part.plain; answers = answers; unfit = false }

pub is_tried : (machine : DomainAlone) (slot : ℕ) (answers : List Answer) (s : model.DomainAlone) (given : Handing) →
    length s.part.domain.control.contexts ≡ 8 → StepsAlone machine (domain_step slot s.part.domain (Alone (handed_to s answers))) →
    given ≡ handing_of machine.side.unfit (answers_of machine.side) → IsTried machine given answers s (try_with slot answers s.part)
unfolding try_with
is_tried machine slot answers s given eight steps is =
    let h = handed_to s answers in
    let t = domain_step slot s.part.domain (Alone h) in
    tried_by machine answers s h t.answer t.world given refl refl eight (slots_step slot s.part.domain (Alone h) ∙ eight) steps.domain steps.side (asks_step h slot s.part.domain refl) is

pub hands : (was side : HandedSide) (first second : Option Answer) (s : model.DomainAlone) → side.pages ≡ was.pages → side.first ≡ first → side.second ≡ second → side.unfit ≡ false →
    HasPlain was.pages s.part.plain → StandsForHanded side (handed_to s (answers_in first second))
hands was side first second s pages is_first is_second fit has = record {
  pages = subst (λ (x : List (List ℕ)). HasPlain x s.part.plain) (sym pages) has;
  answers = ap (λ (o : Option Answer). answers_in o side.second) is_first ∙ ap (λ (o : Option Answer). answers_in first o) is_second;
  unfit = fit;
}
