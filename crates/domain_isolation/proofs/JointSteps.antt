-- A step of the joint machine, and what the program alone makes of its items.
use Rattle.std.proofs.Common.{◌≡◌, ◌∙◌, true, suc, ℕ, Bool, List, [], Option, Some, None, ap, sym, subst, ◌≢◌, inl}
use Rattle.std.specs.Prelude.{is_some, slice_get, ◌||◌}
use Rattle.std.specs.List.{AllByRecursion}
use Rattle.cloak_model.specs.Halves.{inward_half}
use Rattle.cloak_model.specs.Record.{IsOfStep}
use Rattle.cloak_model.specs.Parts.{Joint, DomainPart, domain_pages, domain_part, part_of}
use Rattle.cloak_model.specs.Joint.{Turn, stop_of}
use Rattle.cloak_model.specs.DomainAlone.{DomainAlone, Other, domain_taken, slot_on, stage_for}
use Rattle.domain_isolation.proofs.Ignoring.{taken_half, none_taken}
use Rattle.cloak_model.specs.Contexts.{domain_of}
use Rattle.domain_isolation.proofs.Alone.{alone_at, ended, RestsAt, OtherAt, Opens, other_rests}
use Rattle.domain_isolation.proofs.InOrder.{InOrder}

-- The joint machine has this part as domain d.
pub record HoldsPart (d : ℕ) (j : Joint) (p : DomainPart) : Type 0 where
  pub domain : slice_get j.domains d ≡ Some p.domain
  pub plain : domain_pages d j.memory.plain ≡ p.plain

pub has_part : (d : ℕ) (j : Joint) (p : DomainPart) → HoldsPart d j p → domain_part j d ≡ Some p
has_part d j p has =
    ap (part_of j d) has.domain ∙ ap (λ (plain : ℕ → ℕ → List ℕ). let q : DomainPart =
    record { domain = p.domain; plain = plain } in Some q) has.plain

-- a step was cut short, or stops the run
abbrev pub is_cut : Turn → Bool
is_cut t = is_some t.violation || is_some (stop_of t)

-- A step of this hart, after k others: the program alone, on the step's items, goes from the part before it to the
-- part after it, and all is in order unless the run stops.
pub record StepAlone (d count : ℕ) (schedule : List ℕ) (k hart : ℕ) (p : DomainPart) (inside : Option ℕ) (t : Turn) :
    Type 0 where
  pub part : DomainPart
  pub has : HoldsPart d t.joint part
  pub rests : RestsAt (ended (domain_taken d schedule
      (alone_at p (suc k) (stage_for hart (slot_on hart 0 p.domain.control.contexts)))
      t.items)) part (is_cut t)
  pub opens : is_some t.violation ≡ true → Opens d inside (domain_taken d schedule
      (alone_at p (suc k) (stage_for hart (slot_on hart 0 p.domain.control.contexts)))
      t.items) part
  pub order : InOrder count t.joint.harts t.joint.domains
  pub told : AllByRecursion IsOfStep (inward_half d t.items)

-- it runs no context of the program
abbrev pub IsElsewhere : ℕ → Option ℕ → Type 0
IsElsewhere d None = Unit {0}
IsElsewhere d (Some ctx) = d ≢ domain_of ctx

opens_elsewhere : (d : ℕ) (inside : Option ℕ) (s : DomainAlone) (p : DomainPart) → IsElsewhere d inside → OtherAt s p →
    Opens d inside s p
opens_elsewhere d None s p elsewhere other = other
opens_elsewhere d (Some ctx) s p elsewhere other = inl (elsewhere, other)

-- when it runs none of the program's contexts, and none of the items is the program's
pub other_alone : (d count : ℕ) (schedule : List ℕ) (k hart : ℕ) (p : DomainPart) (inside : Option ℕ) (t : Turn) →
    slot_on hart 0 p.domain.control.contexts ≡ None →
    inward_half d t.items ≡ [] → HoldsPart d t.joint p →
    InOrder count t.joint.harts t.joint.domains →
    (is_some t.violation ≡ true → IsElsewhere d inside) → StepAlone d count schedule k hart p inside t
other_alone d count schedule k hart p inside t none half has order elsewhere = record {
  part = p;
  has = has;
  rests =
      subst (λ (o : Option ℕ). RestsAt (ended
      (domain_taken d schedule (alone_at p (suc k) (stage_for hart o)) t.items)) p (is_cut t)) (sym none)
      (subst (λ (s : DomainAlone). RestsAt (ended s) p (is_cut t))
      (sym (taken_half d schedule (alone_at p (suc k) (Other hart)) t.items [] half))
      (other_rests d schedule p (suc k) hart (is_cut t)));
  opens = λ some. opens_elsewhere d inside _ p (elsewhere some) (record {
    steps = suc k;
    hart = hart;
    is = ap (λ (o : Option ℕ). domain_taken d schedule (alone_at p (suc k) (stage_for hart o)) t.items) none
        ∙ taken_half d schedule (alone_at p (suc k) (Other hart)) t.items [] half
        ∙ none_taken d schedule (alone_at p (suc k) (Other hart));
  });
  order = order;
  told = subst (AllByRecursion IsOfStep) (sym half) tt;
}
