use Rattle.std.proofs.Common.{None, rules, arith}
use Rattle.cloak_model.specs.Resources.{without_space}
use Rattle.resource_map.proofs.Arrays.{map-from_calls}
use Rattle.resource_map.proofs.held.without_private.Goals as goal

pub returns : goal.returns
returns c = map-from_calls _ _ (without_space c.args.space) (λ a b q called. search rules) None _ _ 16 (omega arith) c.map.ensures.items
