use Rattle.std.proofs.Common.{ap, ◌∙◌, length, ltb, unwrap_or, arith}
use Rattle.cloak_model.specs.declared.resource.Region.{Region}
use Rattle.resource_map.proofs.RegionLists.{unwrap_or-position, position_or_len-le-length}
use Rattle.resource_map.proofs.regions.Regions.place_for.Goals as goal

pub returns-clause-value : goal.returns-clause-value
returns-clause-value c =
    c.unwrap_or.ensures
    ∙ (ap (λ o. unwrap_or o c.len.result) c.first_above.ensures
    ∙ unwrap_or-position (λ (g : Region). ltb c.args.start g.start) c.args.self.now c.len.result (c.len.ensures.value ∙ ap length c.self.view_is))

pub returns-clause-inside : goal.returns-clause-inside
returns-clause-inside c =
    let value = returns-clause-value c in
    omega (arith, value, position_or_len-le-length (λ (g : Region). ltb c.args.start g.start) c.args.self.now)
