-- What follows a step: if it met a violation, the domain of this ends, or one more is counted.
use Rattle.std.proofs.Common.{◌≡◌, ◌∙◌, ◌<◌, ◌⊎◌, ◌+◌, ◌-◌, ◌^◌, ℕ, Bool, true, false, List, length, Option, Some, None, refl, sym, ap, subst, inl, inr}
use Rattle.std.specs.Prelude.{min, slice_get, slice_set}
use Rattle.std.proofs.lemmas.List.{length-set}
use Rattle.cloak_base.specs.declared.causes.Violation.{Violation}
use Rattle.cloak_model.specs.declared.inside.Went.{Went}
use Rattle.cloak_model.specs.declared.inside.Went.TheVariants as went
use Rattle.cloak_model.specs.Items.{Item}
use Rattle.cloak_model.specs.declared.outcome.Kernel.{Kernel}
use Rattle.cloak_model.specs.declared.outcome.Kernel.TheVariants as kernel
use Rattle.cloak_model.specs.Cloaking.{CloakedMemory}
use Rattle.cloak_model.specs.Contexts.{domain_of}
use Rattle.cloak_model.specs.Csr.{satp_of}
use Rattle.cloak_model.specs.DomainState.{Domain}
use Rattle.cloak_model.specs.Ending.{ask_end, cloak_for, ended_domain}
use Rattle.cloak_model.specs.Hart.{Hart}
use Rattle.cloak_model.specs.Joint.{Turn, hart_in, memory_of, outside_ended, after_outside, outside_step, domain_ended, after_domain_step, interrupt_ended, after_interrupt, by_interrupt, by_running, inside_step, turn_of, domain_met, end_domain, refuses, ends_once, ends_resumed, ends_asked, answers_violation}
use Rattle.cloak_model.specs.KernelStep.{ticked}
use Rattle.cloak_model.specs.Parts.{Joint}
use Rattle.cloak_model.specs.World.{World, Cloaked}
use Rattle.cause_law.specs.Causes.{EndsBy, CountsRefused}
use Rattle.cause_law.proofs.Asked.{Calm, calms_end}
use Rattle.cause_law.proofs.Kept.{IsKept}
use Rattle.cause_law.proofs.Over.{AreEmpty, empty_set, ended_empty, AreListed, ended_listed}
use Rattle.cause_law.proofs.Resumed.{resume_leaves}
use Rattle.std.proofs.lemmas.Option.{same_Some}
use Rattle.cloak_base.proofs.Lists.{slice_get-set_same}

-- A step itself leaves the list of what ended, and the count.

pub record LeavesList (j j' : Joint) : Type 0 where
  pub listed : j'.ended ≡ j.ended
  pub refused : j'.refused ≡ j.refused

outside_leaves : (j : Joint) (number : ℕ) (items : List Item) (e : Kernel) →
    LeavesList j (outside_ended j number items e).joint
unfolding outside_ended
outside_leaves j number items (kernel.Resume ctx reply) =
    let leaves = resume_leaves j number (satp_of (hart_in j number).csrs) ctx reply in
    record { listed = leaves.ended; refused = leaves.refused }
outside_leaves j number items _ = record { listed = refl; refused = refl }

domain_leaves : (j : Joint) (number : ℕ) (h : Hart) (d : ℕ) (w : World) (g : Went) →
    LeavesList j (domain_ended j number h d w g).joint
unfolding domain_ended
domain_leaves j number h d w went.Stay = record { listed = refl; refused = refl }
domain_leaves j number h d w _ = record { listed = refl; refused = refl }

interrupt_leaves : (j : Joint) (number : ℕ) (h : Hart) (items : List Item) (g : Went) →
    LeavesList j (interrupt_ended j number h items g).joint
unfolding interrupt_ended
interrupt_leaves j number h items went.Stay = record { listed = refl; refused = refl }
interrupt_leaves j number h items _ = record { listed = refl; refused = refl }

due_leaves : (due : Bool) (j : Joint) (number : ℕ) (h : Hart) (d slot : ℕ) (was : Domain) →
    LeavesList j (by_interrupt due j number h d slot was).joint
unfolding by_interrupt after_interrupt after_domain_step
due_leaves true j number h d slot was =
    let l = interrupt_leaves _ number h _ _ in record { listed = l.listed; refused = l.refused }
due_leaves false j number h d slot was =
    let l = domain_leaves _ number h d _ _ in record { listed = l.listed; refused = l.refused }

running_leaves : (runs : Bool) (j : Joint) (number : ℕ) (h : Hart) (ctx : ℕ) (was : Domain) →
    LeavesList j (by_running runs j number h ctx was).joint
unfolding by_running
running_leaves false j number h ctx was = record { listed = refl; refused = refl }
running_leaves true j number h ctx was = due_leaves _ j number h (domain_of ctx) _ was

inside_leaves : (j : Joint) (number : ℕ) (h : Hart) (ctx : ℕ) (found : Option Domain) →
    LeavesList j (inside_step j number h ctx found).joint
unfolding inside_step
inside_leaves j number h ctx None = record { listed = refl; refused = refl }
inside_leaves j number h ctx (Some was) = running_leaves _ j number h ctx was

pub turn_leaves : (j : Joint) (number : ℕ) (h : Hart) (inside : Option ℕ) →
    LeavesList j (turn_of j number h inside).joint
unfolding turn_of outside_step after_outside
turn_leaves j number h None =
    let l = outside_leaves _ number _ _ in record { listed = l.listed; refused = l.refused }
turn_leaves j number h (Some ctx) = inside_leaves j number (ticked h) ctx _

-- The end leaves a memory that is kept.

memory_kept : (w : World) (m : CloakedMemory) → Calm w → IsKept (memory_of w m)
memory_kept (Cloaked c) m calm = calm.kept
memory_kept _ m calm = absurd calm

-- What is kept from step to step: a place for each of four domains in the list, which has exactly those that have
-- ended; a memory in which no page is owed twice; and no context of a domain that has ended.
pub record IsSound (j : Joint) : Type 0 where
  pub places : length j.ended ≡ 4
  pub listed : AreListed j.domains j.ended
  pub kept : IsKept j.memory
  pub empty : AreEmpty j.domains

end_sound : (d : ℕ) (domain : Domain) (v : Violation) (t : Turn) → IsSound t.joint →
    IsSound (end_domain d domain v t).joint
unfolding end_domain
end_sound d domain v t sound =
    let m = t.joint.memory in
    let after = memory_kept (ask_end d (Cloaked (cloak_for m d))).world m
    ((calms_end d (Cloaked (cloak_for m d))).by (record { kept = sound.kept; none = refl })) in
    record {
      places = length-set t.joint.ended d (Some v) ∙ sound.places;
      listed = ended_listed t.joint.domains t.joint.ended d domain v sound.places sound.listed;
      kept = record { places = after.places; once = after.once };
      empty = empty_set t.joint.domains d (ended_domain domain) sound.empty (ended_empty domain);
    }

refuses_sound : (t : Turn) → IsSound t.joint → IsSound (refuses t).joint
refuses_sound t sound = record {
  places = sound.places;
  listed = sound.listed;
  kept = sound.kept;
  empty = sound.empty;
}

once_sound : (over : Bool) (d : ℕ) (domain : Domain) (v : Violation) (t : Turn) → IsSound t.joint →
    IsSound (ends_once over d domain v t).joint
unfolding ends_once
once_sound true d domain v t sound = refuses_sound t sound
once_sound false d domain v t sound = end_sound d domain v t sound

resumed_sound : (found : Option Domain) (d : ℕ) (v : Violation) (t : Turn) → IsSound t.joint →
    IsSound (ends_resumed found d v t).joint
unfolding ends_resumed
resumed_sound None d v t sound = refuses_sound t sound
resumed_sound (Some domain) d v t sound = once_sound domain.control.ended d domain v t sound

asked_sound : (found : Option Domain) (d : ℕ) (v : Violation) (t : Turn) → IsSound t.joint →
    IsSound (ends_asked found d v t).joint
unfolding ends_asked
asked_sound None d v t sound = sound
asked_sound (Some domain) d v t sound = end_sound d domain v t sound

pub answers_sound : (inside : Option ℕ) (o : Option Violation) (t : Turn) → IsSound t.joint →
    IsSound (answers_violation inside o t).joint
unfolding answers_violation
answers_sound inside None t sound = sound
answers_sound None (Some v) t sound = resumed_sound _ (domain_met v) v t sound
answers_sound (Some ctx) (Some v) t sound = asked_sound _ (domain_of ctx) v t sound

-- What was met stays told.

once_met : (over : Bool) (d : ℕ) (domain : Domain) (v : Violation) (t : Turn) →
    (ends_once over d domain v t).violation ≡ t.violation
unfolding ends_once end_domain
once_met true d domain v t = refl
once_met false d domain v t = refl

resumed_met : (found : Option Domain) (d : ℕ) (v : Violation) (t : Turn) →
    (ends_resumed found d v t).violation ≡ t.violation
unfolding ends_resumed
resumed_met None d v t = refl
resumed_met (Some domain) d v t = once_met domain.control.ended d domain v t

asked_met : (found : Option Domain) (d : ℕ) (v : Violation) (t : Turn) →
    (ends_asked found d v t).violation ≡ t.violation
unfolding ends_asked end_domain
asked_met None d v t = refl
asked_met (Some domain) d v t = refl

pub answers_met : (inside : Option ℕ) (o : Option Violation) (t : Turn) →
    (answers_violation inside o t).violation ≡ t.violation
unfolding answers_violation
answers_met inside None t = refl
answers_met None (Some v) t = resumed_met _ (domain_met v) v t
answers_met (Some ctx) (Some v) t = asked_met _ (domain_of ctx) v t

-- What the step does in all.

-- a domain ended, or one more was counted
abbrev pub Does : Joint → Joint → Violation → Type 0
Does j j' v = EndsBy j j' v ⊎ CountsRefused j j' v

-- programs, list and count are as before the step
pub record IsSame (j j' : Joint) : Type 0 where
  pub domains : j'.domains ≡ j.domains
  pub listed : j'.ended ≡ j.ended
  pub refused : j'.refused ≡ j.refused

end_does : (j : Joint) (t : Turn) (domain : Domain) (v : Violation) → IsSame j t.joint → length j.ended ≡ 4 →
    slice_get j.domains (domain_met v) ≡ Some domain → domain.control.ended ≡ false →
    EndsBy j (end_domain (domain_met v) domain v t).joint v
unfolding end_domain
end_does j t domain v same places there goes =
    let listed : slice_set t.joint.ended (domain_met v) (Some v) ≡ slice_set j.ended (domain_met v) (Some v) =
    ap (λ (l : List (Option Violation)). slice_set l (domain_met v) (Some v)) same.listed in
    record {
      domain = domain;
      there = there;
      not_ended = goes;
      domains = ap (λ (l : List Domain). slice_set l (domain_met v) (ended_domain domain)) same.domains;
      listed = listed;
      entry = λ low. ap (λ (l : List (Option Violation)). slice_get l (domain_met v)) listed
          ∙ slice_get-set_same j.ended (domain_met v) (Some v) (subst (λ (n : ℕ). domain_met v < n) (sym places) low);
      refused = same.refused;
    }

refuses_does : (j : Joint) (t : Turn) (v : Violation) → IsSame j t.joint →
    ((domain : Domain) → slice_get j.domains (domain_met v) ≡ Some domain → domain.control.ended ≡ true) →
    Does j (refuses t).joint v
refuses_does j t v same none = inr (record {
  none = none;
  counted = ap (λ (n : ℕ). min (n + 1) (2 ^ 64 - 1)) same.refused;
  domains = same.domains;
  listed = same.listed;
})

once_does : (j : Joint) (t : Turn) (domain : Domain) (v : Violation) (over : Bool) → IsSame j t.joint →
    length j.ended ≡ 4 → slice_get j.domains (domain_met v) ≡ Some domain → domain.control.ended ≡ over →
    Does j (ends_once over (domain_met v) domain v t).joint v
unfolding ends_once
once_does j t domain v true same places there over =
    refuses_does j t v same
    (λ other is. ap (λ (x : Domain). x.control.ended) (same_Some other domain (sym is ∙ there)) ∙ over)
once_does j t domain v false same places there goes = inl (end_does j t domain v same places there goes)

resumed_does : (j : Joint) (t : Turn) (found : Option Domain) (v : Violation) → IsSame j t.joint →
    length j.ended ≡ 4 → slice_get j.domains (domain_met v) ≡ found →
    Does j (ends_resumed found (domain_met v) v t).joint v
unfolding ends_resumed
resumed_does j t None v same places there =
    refuses_does j t v same (λ other is. let clash : None ≡ Some other = sym there ∙ is in absurd cc)
resumed_does j t (Some domain) v same places there = once_does j t domain v _ same places there refl

-- at a resuming
pub outside_does : (j : Joint) (t : Turn) (v : Violation) → IsSame j t.joint → length j.ended ≡ 4 →
    Does j (answers_violation None (Some v) t).joint v
unfolding answers_violation
outside_does j t v same places =
    resumed_does j t _ v same places (ap (λ (l : List Domain). slice_get l (domain_met v)) (sym same.domains))

asked_does : (j : Joint) (t : Turn) (domain : Domain) (v : Violation) (found : Option Domain) → IsSame j t.joint →
    length j.ended ≡ 4 → slice_get j.domains (domain_met v) ≡ Some domain → domain.control.ended ≡ false →
    slice_get j.domains (domain_met v) ≡ found → EndsBy j (ends_asked found (domain_met v) v t).joint v
unfolding ends_asked
asked_does j t domain v None same places there goes is =
    let clash : None ≡ Some domain = sym is ∙ there in absurd cc
asked_does j t domain v (Some other) same places there goes is =
    let it : other ≡ domain = same_Some other domain (sym is ∙ there) in
    end_does j t other v same places is (ap (λ (x : Domain). x.control.ended) it ∙ goes)

-- at a question of a context of this domain
pub inside_does : (j : Joint) (t : Turn) (ctx : ℕ) (domain : Domain) (v : Violation) → IsSame j t.joint →
    length j.ended ≡ 4 → domain_met v ≡ domain_of ctx → slice_get j.domains (domain_of ctx) ≡ Some domain →
    domain.control.ended ≡ false → Does j (answers_violation (Some ctx) (Some v) t).joint v
unfolding answers_violation
inside_does j t ctx domain v same places own there goes =
    subst (λ (d : ℕ). Does j (ends_asked (slice_get t.joint.domains d) d v t).joint v) own
    (inl (asked_does j t domain v _ same places (ap (slice_get j.domains) own ∙ there) goes
    (ap (λ (l : List Domain). slice_get l (domain_met v)) (sym same.domains))))
