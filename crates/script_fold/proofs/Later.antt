-- No step of a program goes back.
use Rattle.std.proofs.Common.{ℕ}
use Rattle.cloak_model.specs.DomainState.{Domain}
use Rattle.cloak_model.specs.DomainStep.{domain_script, domain_step}
use Rattle.cloak_model.specs.World.{World}
use Rattle.cloak_model.proofs.Later.{IsLater}
use Rattle.cloak_model.proofs.ScriptLater.{later_played}

pub later_domain_step : (slot : ℕ) (d : Domain) (w : World) → IsLater w (domain_step slot d w).world
unfolding domain_step
later_domain_step slot d w = later_played (domain_script slot d) w
