-- What was read of the page of a program.
use Rattle.std.specs.Prelude.{◌≡◌}
use Rattle.cloak_model.specs.DomainState.{Control}
use Rattle.domain_page.specs.declared.reading.Parts.{Parts}

-- These are its parts.
pub record ArePartsOf (d : Control) (parts : Parts) : Type 0 where
  pub slots : parts.slots ≡ d.contexts
  pub spaces : parts.spaces ≡ d.resources.spaces
  pub held : parts.held ≡ d.resources.held
