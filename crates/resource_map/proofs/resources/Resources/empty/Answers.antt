use Rattle.resource_map.proofs.Soundness.{IsSound-nothing}
use Rattle.resource_map.proofs.resources.Resources.empty.Goals as goal

pub invariant_of-result : goal.invariant_of-result
invariant_of-result c = IsSound-nothing
