-- The page that a space has at an address, and how long it lies there.
use Rattle.std.specs.Prelude.{ℕ, ◌≡◌, ◌/◌, false, List, Option, Some, None, slice_get}
use Rattle.std.specs.List.{list_any}
use Rattle.cloak_base.specs.declared.names.PageId.{PageId}
use Rattle.cloak_base.specs.declared.names.SpaceId.{SpaceId}
use Rattle.cloak_model.specs.Contexts.{Context, context_at, same_space}
use Rattle.cloak_model.specs.DomainState.{Domain}
use Rattle.cloak_model.specs.DomainStep.{domain_step}
use Rattle.cloak_model.specs.Hart.{Hart}
use Rattle.cloak_model.specs.KernelStep.{kernel_step}
use Rattle.cloak_model.specs.Joint.{hart_in, turn_of, answers_violation}
use Rattle.cloak_model.specs.Parts.{Joint}
use Rattle.cloak_model.specs.Resources.{page_at}
use Rattle.cloak_model.specs.World.{MidStep, Cloaked, events_of}
use Rattle.shadow_fold.specs.Agreement.{IsMapped}
use Rattle.shadow_fold.specs.Births.{MakeAll}
use Rattle.shadow_fold.specs.Events.{asked_of, asked_with_end}

-- the page at an address of a space of a program
abbrev pub page_of : Option Domain → ℕ → ℕ → Option PageId
page_of None space va = None
page_of (Some d) space va = page_at d.control.number d.control.resources space va

-- the page at an address of a space
abbrev pub mapped_in : Joint → SpaceId → ℕ → Option PageId
mapped_in j s va = page_of (slice_get j.domains s.domain) s.number va

-- all addresses of a page of a space lie in one page of the program, or in none
abbrev pub AreWhole : Domain → ℕ → Type 0
AreWhole d space = (va other : ℕ) → other / 4096 ≡ va / 4096 → page_of (Some d) space other ≡ page_of (Some d) space va

-- The entries that a program's step makes are of pages that its space has.
abbrev pub MakesMapped : Type 0
MakesMapped = (mapped : SpaceId → ℕ → Option PageId) (s : SpaceId) (slot : ℕ) (d : Domain) (c : Context) (k : MidStep)
    → context_at d.control.contexts slot ≡ Some c → AreWhole d c.space
    → ((va : ℕ) → mapped s va ≡ page_of (Some d) c.space va) → MakeAll (IsMapped mapped) (Some s) k.events
    → MakeAll (IsMapped mapped) (Some s) (events_of (domain_step slot d (Cloaked k)).world)

-- Those of a hart outside are of no page.
abbrev pub MakesOutside : Type 0
MakesOutside = (mapped : SpaceId → ℕ → Option PageId) (h : Hart) (disk : List ℕ) (k : MidStep)
    → MakeAll (IsMapped mapped) None k.events
    → MakeAll (IsMapped mapped) None (events_of (kernel_step h disk (Cloaked k)).world)

-- all addresses of a page of any space of a program lie in one page, or in none
abbrev pub AreAllWhole : Joint → Type 0
AreAllWhole j = (n : ℕ) (d : Domain) → slice_get j.domains n ≡ Some d → (space : ℕ) → AreWhole d space

-- So it is of all entries that a step makes.
abbrev pub TurnMakesMapped : Type 0
TurnMakesMapped = (j : Joint) (number : ℕ) → AreAllWhole j → let h = hart_in j number in
    let a = asked_of j number h h.inside in MakeAll (IsMapped (mapped_in j)) a.space a.events

-- The end of a domain after it makes no entry: with it, too, all are of pages that the spaces had before the step.
abbrev pub StepMakesMapped : Type 0
StepMakesMapped = (j : Joint) (number : ℕ) → AreAllWhole j →
    let a = asked_with_end j number in MakeAll (IsMapped (mapped_in j)) a.space a.events

-- A step leaves each page where a space has it, unless it says that the space changed.
abbrev pub TurnKeepsPages : Type 0
TurnKeepsPages = (j : Joint) (number : ℕ) (s : SpaceId) (va : ℕ) (q : PageId) → let h = hart_in j number in
    mapped_in j s va ≡ Some q → list_any (λ x. same_space x s) (asked_of j number h h.inside).changed ≡ false
    → mapped_in (turn_of j number h h.inside).joint s va ≡ Some q

-- So does the whole step, with the end of a domain after it: of a domain that ends, each space is said to have changed.
abbrev pub StepKeepsPages : Type 0
StepKeepsPages = (j : Joint) (number : ℕ) (s : SpaceId) (va : ℕ) (q : PageId) → let h = hart_in j number in
    let t = turn_of j number h h.inside in
    mapped_in j s va ≡ Some q → list_any (λ x. same_space x s) (asked_with_end j number).changed ≡ false
    → mapped_in (answers_violation h.inside t.violation t).joint s va ≡ Some q
