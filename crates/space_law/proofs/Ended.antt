-- The end of a domain after a step: what it makes no entry of, and which pages it leaves where a space has them.
use Rattle.std.proofs.Common.{◌≡◌, ◌∙◌, ℕ, zero, suc, Bool, true, false, ◌||◌, List, [], ◌∷◌, ◌++◌, length, map, Option, Some, None, inl, inr, refl, sym, ap, arith}
use Rattle.std.specs.Prelude.{◌<◌, slice_get, unwrap_or}
use Rattle.std.specs.List.{list_any}
use Rattle.std.proofs.lemmas.Bool.{false≢true, cases_lt, or_parts}
use Rattle.std.proofs.lemmas.List.{get_or_past, map-append}
use Rattle.std.proofs.lemmas.List.Folds.{list_any-append}
use Rattle.cloak_base.specs.declared.names.PageId.{PageId}
use Rattle.cloak_base.specs.declared.names.SpaceId.{SpaceId}
use Rattle.cloak_base.specs.declared.causes.Violation.{Violation}
use Rattle.cloak_model.specs.declared.resource.Region.{Region}
use Rattle.cloak_model.specs.Cloaking.{CloakedMemory}
use Rattle.cloak_model.specs.Contexts.{domain_of, same_space}
use Rattle.cloak_model.specs.DomainState.{Domain}
use Rattle.cloak_model.specs.Ending.{ask_end, cloak_for, spaces_of, ended_domain}
use Rattle.cloak_model.specs.Joint.{Turn, hart_in, turn_of, domain_met, end_domain, ends_once, ends_resumed, ends_asked, answers_violation}
use Rattle.cloak_model.specs.Opening.{numbers_below}
use Rattle.cloak_model.specs.Parts.{Joint}
use Rattle.cloak_model.specs.World.{World, Cloaked}
use Rattle.shadow_fold.specs.Agreement.{IsMapped}
use Rattle.shadow_fold.specs.Births.{MakeAll}
use Rattle.shadow_fold.specs.Events.{with_end, ended_once, ended_resumed, ended_asked, ended_by, asked_of, asked_with_end}
use Rattle.shadow_fold.specs.Reads.{AskedByStep}
use Rattle.script_fold.proofs.Endings.{keeps_end}
use Rattle.space_law.specs.Mapping.{page_of, mapped_in, StepKeepsPages, StepMakesMapped}
use Rattle.space_law.proofs.Mapped.{mapped_turn}
use Rattle.space_law.proofs.Questions.{Maps, map_settles, maps_forget, are_append}
use Rattle.space_law.proofs.Regions.{page_kept}
use Rattle.space_law.proofs.Turns.{Has, IsUnchanged, same_self, set_page, turn_has}

-- Entries.

-- what is asked makes entries of pages that lie there alone
abbrev pub MakesFor : (SpaceId → ℕ → Option PageId) → AskedByStep → Type 0
MakesFor mapped a = MakeAll (IsMapped mapped) a.space a.events

module _ (mapped : SpaceId → ℕ → Option PageId) where
  pub asks_end : (s : Option SpaceId) (domain : ℕ) (w : World) → Maps mapped s w (ask_end domain w).world
  asks_end s domain w = keeps_end (Maps mapped s) (map_settles mapped s) (maps_forget mapped s) domain w

  pub with_end_makes : (d : ℕ) (domain : Domain) (m : CloakedMemory) (a : AskedByStep) → MakesFor mapped a →
      MakesFor mapped (with_end d domain m a)
  with_end_makes d domain m a makes =
      are_append mapped a.space a.events _ makes ((asks_end a.space d (Cloaked (cloak_for m d))).by tt)

  pub once_makes : (ended : Bool) (d : ℕ) (domain : Domain) (m : CloakedMemory) (a : AskedByStep) → MakesFor mapped a →
      MakesFor mapped (ended_once ended d domain m a)
  once_makes true d domain m a makes = makes
  once_makes false d domain m a makes = with_end_makes d domain m a makes

  pub resumed_makes : (found : Option Domain) (d : ℕ) (m : CloakedMemory) (a : AskedByStep) → MakesFor mapped a →
      MakesFor mapped (ended_resumed found d m a)
  resumed_makes None d m a makes = makes
  resumed_makes (Some domain) d m a makes = once_makes domain.control.ended d domain m a makes

  pub asked_makes : (found : Option Domain) (d : ℕ) (m : CloakedMemory) (a : AskedByStep) → MakesFor mapped a →
      MakesFor mapped (ended_asked found d m a)
  asked_makes None d m a makes = makes
  asked_makes (Some domain) d m a makes = with_end_makes d domain m a makes

  -- the end of a domain makes no entry
  pub end_makes : (inside : Option ℕ) (v : Option Violation) (j : Joint) (a : AskedByStep) → MakesFor mapped a →
      MakesFor mapped (ended_by inside v j a)
  end_makes inside None j a makes = makes
  end_makes None (Some v) j a makes = resumed_makes (slice_get j.domains (domain_met v)) (domain_met v) j.memory a makes
  end_makes (Some ctx) (Some v) j a makes =
      asked_makes (slice_get j.domains (domain_of ctx)) (domain_of ctx) j.memory a makes

  -- so if a hart's step makes such entries alone, the step with an end after it does, too
  pub step_makes : (j : Joint) (number : ℕ) →
      (let h = hart_in j number in MakesFor mapped (asked_of j number h h.inside)) →
      MakesFor mapped (asked_with_end j number)
  step_makes j number makes =
      let h = hart_in j number in let t = turn_of j number h h.inside in
      end_makes h.inside t.violation t.joint (asked_of j number h h.inside) makes

pub step_makes_mapped : StepMakesMapped
step_makes_mapped j number whole =
    let h = hart_in j number in step_makes (mapped_in j) j number (mapped_turn j whole number h h.inside)

-- Pages.

module _ (s : SpaceId) where
  -- a number below another one is told of
  named : (d n : ℕ) → s.domain ≡ d → s.number < n →
      list_any (λ x. same_space x s)
      (map (λ (k : ℕ). let x : SpaceId = record { domain = d; number = k } in x) (numbers_below n))
      ≡ true
  named d zero at low = absurd (omega (arith, low))
  named d (suc n) at low =
      let named_by : ℕ → SpaceId = λ k. record { domain = d; number = k } in
      let is : SpaceId → Bool = λ x. same_space x s in
      ap (list_any is) (map-append named_by (numbers_below n) (n ∷ []))
      ∙ list_any-append is (map named_by (numbers_below n)) (named_by n ∷ [])
      ∙ elim (cases_lt s.number n) [
        | inl below ↦ ap (λ (b : Bool). b || list_any is (named_by n ∷ [])) (named d n at below)
        | inr above ↦
            let same : s.number ≡ n = omega (arith, low, above) in
            let last : is (named_by n) ≡ true =
            (λ i. same_space (record { domain = sym at i; number = sym same i }) s) ∙ same_self s in
            ap (λ (b : Bool). list_any is (map named_by (numbers_below n)) || (b || false)) last
            ∙ either_true (list_any is (map named_by (numbers_below n)))
      ]
    where
      either_true : (b : Bool) → (b || true) ≡ true
      either_true true = refl
      either_true false = refl

  module _ (va : ℕ) (q : PageId) where
    -- a domain that ends had no page in a space that is not told of
    gone_has : (d : ℕ) (domain : Domain) → IsUnchanged s va q (spaces_of d domain) → s.domain ≡ d →
        page_of (Some domain) s.number va ≡ Some q → page_of (Some (ended_domain domain)) s.number va ≡ Some q
    unfolding ended_domain
    gone_has d domain out at has =
        page_kept domain.control.number domain.control.resources _ s.number va q
        (inr
        (elim (cases_lt s.number (length domain.control.resources.spaces)) [
          | inl low ↦ absurd (false≢true (sym out ∙ named d _ at low))
          | inr high ↦
              ap (λ (o : Option (List Region)). unwrap_or o [])
              (get_or_past domain.control.resources.spaces s.number None high)
        ])) has

    pub end_has : (d : ℕ) (domain : Domain) (v : Violation) (t : Turn) → slice_get t.joint.domains d ≡ Some domain →
        IsUnchanged s va q (spaces_of d domain) → Has s va q t.joint → Has s va q (end_domain d domain v t).joint
    unfolding end_domain
    end_has d domain v t there out has =
        set_page t.joint.domains s.domain d domain (ended_domain domain) s.number va q there
        (λ at before. gone_has d domain out at before) has

    -- what is told of after a step with an end is told of the step, and of the end
    step_out : (d : ℕ) (domain : Domain) (changed : List SpaceId) → IsUnchanged s va q (changed ++ spaces_of d domain) →
        IsUnchanged s va q changed
    step_out d domain changed out =
        (or_parts _ _ (sym (list_any-append (λ x. same_space x s) changed (spaces_of d domain)) ∙ out)).0

    end_out : (d : ℕ) (domain : Domain) (changed : List SpaceId) → IsUnchanged s va q (changed ++ spaces_of d domain) →
        IsUnchanged s va q (spaces_of d domain)
    end_out d domain changed out =
        (or_parts _ _ (sym (list_any-append (λ x. same_space x s) changed (spaces_of d domain)) ∙ out)).1

    -- a step that asked this, and what follows it
    module _ (a : AskedByStep) (t : Turn) (step : IsUnchanged s va q a.changed → Has s va q t.joint) where
      ends_has : (d : ℕ) (domain : Domain) (v : Violation) → slice_get t.joint.domains d ≡ Some domain →
          IsUnchanged s va q (with_end d domain t.joint.memory a).changed → Has s va q (end_domain d domain v t).joint
      ends_has d domain v there out =
          end_has d domain v t there (end_out d domain a.changed out) (step (step_out d domain a.changed out))

      once_has : (ended : Bool) (d : ℕ) (domain : Domain) (v : Violation) → slice_get t.joint.domains d ≡ Some domain →
          IsUnchanged s va q (ended_once ended d domain t.joint.memory a).changed →
          Has s va q (ends_once ended d domain v t).joint
      unfolding ends_once
      once_has true d domain v there out = step out
      once_has false d domain v there out = ends_has d domain v there out

      resumed_has : (found : Option Domain) (d : ℕ) (v : Violation) → slice_get t.joint.domains d ≡ found →
          IsUnchanged s va q (ended_resumed found d t.joint.memory a).changed →
          Has s va q (ends_resumed found d v t).joint
      unfolding ends_resumed
      resumed_has None d v there out = step out
      resumed_has (Some domain) d v there out = once_has domain.control.ended d domain v there out

      asked_has : (found : Option Domain) (d : ℕ) (v : Violation) → slice_get t.joint.domains d ≡ found →
          IsUnchanged s va q (ended_asked found d t.joint.memory a).changed → Has s va q (ends_asked found d v t).joint
      unfolding ends_asked
      asked_has None d v there out = step out
      asked_has (Some domain) d v there out = ends_has d domain v there out

      pub answer_has : (inside : Option ℕ) (v : Option Violation) →
          IsUnchanged s va q (ended_by inside v t.joint a).changed → Has s va q (answers_violation inside v t).joint
      unfolding answers_violation
      answer_has inside None out = step out
      answer_has None (Some v) out = resumed_has (slice_get t.joint.domains (domain_met v)) (domain_met v) v refl out
      answer_has (Some ctx) (Some v) out =
          asked_has (slice_get t.joint.domains (domain_of ctx)) (domain_of ctx) v refl out

pub step_keeps_pages : StepKeepsPages
step_keeps_pages j number s va q has out =
    let h = hart_in j number in let t = turn_of j number h h.inside in
    answer_has s va q (asked_of j number h h.inside) t (λ out. turn_has s va q j number h h.inside out has) h.inside
    t.violation out
