-- What holds of contexts and resources at every moment.
use Rattle.std.specs.Prelude.{ℕ, ◌<◌, List, Option, IfSome}
use Rattle.cloak_model.specs.Contexts.{Context, context_at}
use Rattle.cloak_model.specs.DomainState.{Control}
use Rattle.cloaked_fork.specs.Homes.{AllInUse}
use Rattle.domain_page.specs.Writing.{HasHart}

-- each context runs on one of four harts, if on any
abbrev pub AllOnHarts : List (Option Context) → Type 0
AllOnHarts contexts = (slot : ℕ) → IfSome (context_at contexts slot) (λ c. HasHart c.on)

-- they are of one of four domains, and each context is of a space that is in use and runs on such a hart
pub record IsFitting (d : Control) : Type 0 where
  pub number : d.number < 4
  pub spaces : AllInUse d.contexts d.resources
  pub harts : AllOnHarts d.contexts
