use Rattle.std.proofs.Common.{None, rules, arith}
use Rattle.cloak_model.specs.Resources.{is_private_to}
use Rattle.resource_map.proofs.Arrays.{map-from_calls}
use Rattle.resource_map.proofs.held.marked.Goals as goal

pub returns : goal.returns
returns c = map-from_calls _ _ (is_private_to c.args.space) (λ a b q called. search rules) None _ _ 16 (omega arith) c.map.ensures.items
