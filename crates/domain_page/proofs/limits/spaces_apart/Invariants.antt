use Rattle.std.proofs.Common.{ℕ, ◌<◌}
use Rattle.cloak_model.specs.Resources.{regions_in}
use Rattle.frozen_state.specs.Limits.{IsSpace}
use Rattle.domain_page.proofs.limits.spaces_apart.Given as goal

abbrev pub invariant-loop-space : goal.invariant-loop-space
invariant-loop-space l = (k : ℕ) → k < l.space → IsSpace (regions_in l.r k)
