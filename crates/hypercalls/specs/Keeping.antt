-- What a change of contexts leaves of a domain.
use Rattle.std.specs.Prelude.{◌≡◌}
use Rattle.cloak_model.specs.DomainState.{Control}

-- The domain has the same number, and its resources and the regions of its spaces are the same.
pub record SameResources (old new : Control) : Type 0 where
  pub number : new.number ≡ old.number
  pub resources : new.resources ≡ old.resources
