-- What it is to add a file to a domain, and what is told of one.
use Rattle.std.specs.Prelude.{ℕ, ◌≡◌, Option, Some, None, option_and_then, Result}
use Rattle.cloak_model.specs.declared.resource.MapFault.{MapFault}
use Rattle.cloak_model.specs.declared.resource.Owner.{Owner}
use Rattle.cloak_model.specs.declared.resource.Owner.TheVariants.{Space, File}
use Rattle.cloak_model.specs.declared.resource.Resource.{Resource}
use Rattle.cloak_model.specs.DomainState as model
use Rattle.cloak_model.specs.DomainState.{with_resources}
use Rattle.cloak_model.specs.Resources.{Resources, Mapped, resource_at}
use Rattle.hypercalls.specs.Standing.{StandsFor}
use Rattle.hypercalls.specs.declared.domain.Domain.{Domain}

-- The answer is the one that is told of a file, and the domain stands for the program with the resources that are told.
pub record AddsFile (domain : Domain) (d : model.Domain) (given : Result ℕ MapFault) (made : Mapped ℕ) : Type 0 where
  pub answer : given ≡ made.answer
  pub domain_stands : StandsFor domain (with_resources made.resources d)

-- number and count of pages of a file
abbrev pub file_owned : Owner → ℕ → Option (ℕ × ℕ)
file_owned (Space space) pages = None
file_owned (File number) pages = Some (number, pages)

-- the file that is this resource
abbrev pub file_at : Resources → ℕ → Option (ℕ × ℕ)
file_at r n = option_and_then (λ (held : Resource). file_owned held.owner held.pages) (resource_at r n)
