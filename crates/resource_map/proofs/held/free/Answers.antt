use Rattle.std.proofs.Common.{None, rules, arith}
use Rattle.std.specs.Prelude.{is_none}
use Rattle.resource_map.proofs.Arrays.{map-from_calls}
use Rattle.resource_map.proofs.held.free.Goals as goal

pub returns : goal.returns
returns c = map-from_calls _ _ is_none (λ a b q called. search rules) None _ _ 16 (omega arith) c.map.ensures.items
