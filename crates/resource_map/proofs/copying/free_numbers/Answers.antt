use Rattle.std.proofs.Common.{Bool, ap, ◌∙◌}
use Rattle.std.specs.Prelude.{is_none}
use Rattle.cloak_model.specs.Fork.{places}
use Rattle.resource_map.proofs.Places.{places-map}
use Rattle.resource_map.proofs.copying.free_numbers.Goals as goal

pub returns : goal.returns
returns c = c.numbers.ensures.value ∙ (ap (places (λ (mark : Bool). mark) 0) c.free.ensures ∙ places-map is_none 0 c.args.held.now)
