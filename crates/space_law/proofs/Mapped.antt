-- The entries that a step of the joint machine makes are of pages that its space has, and outside of none.
use Rattle.std.proofs.Common.{◌≡◌, ℕ, Bool, true, false, Option, Some, None, refl, ap}
use Rattle.std.specs.Prelude.{slice_get}
use Rattle.cloak_model.specs.Contexts.{Context, context_at, domain_of, slot_of}
use Rattle.cloak_model.specs.Csr.{interrupt_due}
use Rattle.cloak_model.specs.DomainState.{Domain}
use Rattle.cloak_model.specs.Hart.{Hart}
use Rattle.cloak_model.specs.Joint.{hart_in, cloak_of, cloak_outside, pages_for}
use Rattle.cloak_model.specs.KernelStep.{ticked}
use Rattle.cloak_model.specs.Parts.{Joint}
use Rattle.shadow_fold.specs.Agreement.{IsMapped}
use Rattle.shadow_fold.specs.Births.{MakeAll}
use Rattle.cloak_model.specs.DomainAlone.{runs_on}
use Rattle.shadow_fold.specs.Events.{asked_if, asked_running, asked_inside, asked_of}
use Rattle.shadow_fold.specs.Reads.{AskedByStep}
use Rattle.space_law.specs.Mapping.{page_of, mapped_in, AreAllWhole, TurnMakesMapped}
use Rattle.space_law.proofs.Births.{makes_mapped}
use Rattle.space_law.proofs.Outside.{makes_outside}

-- what was asked made entries of pages that lie in its space
abbrev pub AskedMapped : Joint → AskedByStep → Type 0
AskedMapped j a = MakeAll (IsMapped (mapped_in j)) a.space a.events

module _ (j : Joint) (whole : AreAllWhole j) where
  pub mapped_if : (due : Bool) (h : Hart) (d slot : ℕ) (was : Domain) (o : Option Context) →
      slice_get j.domains d ≡ Some was → context_at was.control.contexts slot ≡ o →
      AskedMapped j (asked_if due j h d slot was o)
  mapped_if true h d slot was o there is = tt
  mapped_if false h d slot was None there is = tt
  mapped_if false h d slot was (Some c) there is =
      makes_mapped (mapped_in j) (record { domain = d; number = c.space }) slot was c
      (cloak_of j.memory h d (pages_for was (Some c))) is (whole d was there c.space)
      (λ va. ap (λ (found : Option Domain). page_of found c.space va) there) tt

  pub mapped_running : (runs : Bool) (h : Hart) (d slot : ℕ) (was : Domain) → slice_get j.domains d ≡ Some was →
      AskedMapped j (asked_running runs j h d slot was)
  mapped_running false h d slot was there = tt
  mapped_running true h d slot was there =
      mapped_if (interrupt_due h.mode h.csrs) h d slot was (context_at was.control.contexts slot) there refl

  pub mapped_inside : (number : ℕ) (h : Hart) (d slot : ℕ) (found : Option Domain) → slice_get j.domains d ≡ found →
      AskedMapped j (asked_inside j number h d slot found)
  mapped_inside number h d slot None there = tt
  mapped_inside number h d slot (Some was) there =
      mapped_running (runs_on number (context_at was.control.contexts slot)) h d slot was there

  pub mapped_turn : (number : ℕ) (h : Hart) (o : Option ℕ) → AskedMapped j (asked_of j number h o)
  mapped_turn number h None = makes_outside (mapped_in j) h j.disk (cloak_outside j.memory h) tt
  mapped_turn number h (Some ctx) =
      mapped_inside number (ticked h) (domain_of ctx) (slot_of ctx) (slice_get j.domains (domain_of ctx)) refl

pub turn_makes_mapped : TurnMakesMapped
turn_makes_mapped j number whole = let h = hart_in j number in mapped_turn j whole number h h.inside
