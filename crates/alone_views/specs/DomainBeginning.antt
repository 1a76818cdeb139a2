-- A program that runs alone before its first item, with the files that it begins with.
use Rattle.std.specs.Prelude.{ℕ, ◌≡◌, List, [], Result}
use Rattle.cloak_model.specs.declared.resource.MapFault.{MapFault}
use Rattle.cloak_model.specs.DomainAlone.{opened_with_part, with_given}
use Rattle.cloak_model.specs.Parts.{DomainPart}
use Rattle.cloak_model.specs.Resources.{Mapped}
use Rattle.alone_views.specs.declared.domain.DomainAlone.{DomainAlone}
use Rattle.alone_views.specs.DomainStanding.{StandsForDomain}

-- No item was taken, and the program begins as this part.
abbrev pub BeginsWith : ℕ → List ℕ → DomainAlone → DomainPart → Type 0
BeginsWith d schedule machine p = StandsForDomain d schedule machine (opened_with_part p)

-- The answer is the one that is told of a file, and the program begins with the resources that are told.
pub record AddsFile (d : ℕ) (schedule : List ℕ) (machine : DomainAlone) (given : Result ℕ MapFault) (p : DomainPart)
    (made : Mapped ℕ) : Type 0 where
  pub answer : given ≡ made.answer
  pub begins : BeginsWith d schedule machine (with_given [] made.answer made.resources p)
