use Rattle.std.proofs.Common.{Bool, ap, ◌∙◌}
use Rattle.cloak_model.specs.Fork.{places}
use Rattle.cloak_model.specs.Resources.{is_private_to}
use Rattle.resource_map.proofs.Places.{places-map}
use Rattle.resource_map.proofs.copying.private_numbers.Goals as goal

pub returns : goal.returns
returns c = c.numbers.ensures.value ∙ (ap (places (λ (mark : Bool). mark) 0) c.marked.ensures ∙ places-map (is_private_to c.args.space) 0 c.args.held.now)
