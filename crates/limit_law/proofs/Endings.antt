-- What the end of a domain keeps and a refusal keeps, is kept by all that follows a step that met a violation.
use Rattle.std.proofs.Common.{◌≡◌, ℕ, Bool, true, false, slice_get, Option, Some, None, refl}
use Rattle.cloak_base.specs.declared.causes.Violation.{Violation}
use Rattle.cloak_model.specs.Contexts.{domain_of}
use Rattle.cloak_model.specs.DomainState.{Domain}
use Rattle.cloak_model.specs.Joint.{Turn, domain_met, end_domain, refuses, ends_once, ends_resumed, ends_asked, answers_violation}
use Rattle.cloak_model.specs.Parts.{Joint}

-- from P, which holds before, to Q
module _ (P Q : Joint → Type 0) (same : (j : Joint) → P j → Q j) (refused : (t : Turn) → P t.joint → Q (refuses t).joint)
    (ended : (d : ℕ) (was : Domain) (v : Violation) (t : Turn) → slice_get t.joint.domains d ≡ Some was → P t.joint →
    Q (end_domain d was v t).joint)
  where
    once_gives : (over : Bool) (d : ℕ) (was : Domain) (v : Violation) (t : Turn) →
        slice_get t.joint.domains d ≡ Some was → P t.joint → Q (ends_once over d was v t).joint
    unfolding ends_once
    once_gives true d was v t is here = refused t here
    once_gives false d was v t is here = ended d was v t is here

    resumed_gives : (found : Option Domain) (d : ℕ) (v : Violation) (t : Turn) → slice_get t.joint.domains d ≡ found →
        P t.joint → Q (ends_resumed found d v t).joint
    unfolding ends_resumed
    resumed_gives None d v t is here = refused t here
    resumed_gives (Some was) d v t is here = once_gives was.control.ended d was v t is here

    asked_gives : (found : Option Domain) (d : ℕ) (v : Violation) (t : Turn) → slice_get t.joint.domains d ≡ found →
        P t.joint → Q (ends_asked found d v t).joint
    unfolding ends_asked
    asked_gives None d v t is here = same t.joint here
    asked_gives (Some was) d v t is here = ended d was v t is here

    pub answers_give : (inside : Option ℕ) (met : Option Violation) (t : Turn) → P t.joint →
        Q (answers_violation inside met t).joint
    unfolding answers_violation
    answers_give inside None t here = same t.joint here
    answers_give None (Some v) t here = resumed_gives _ (domain_met v) v t refl here
    answers_give (Some ctx) (Some v) t here = asked_gives _ (domain_of ctx) v t refl here

pub answers_keep : (P : Joint → Type 0) → ((t : Turn) → P t.joint → P (refuses t).joint) →
    ((d : ℕ) (was : Domain) (v : Violation) (t : Turn) → slice_get t.joint.domains d ≡ Some was → P t.joint →
    P (end_domain d was v t).joint) →
    (inside : Option ℕ) (met : Option Violation) (t : Turn) → P t.joint → P (answers_violation inside met t).joint
answers_keep P refused ended = answers_give P P (λ j here. here) refused ended
