use Rattle.std.proofs.Common.{Option, List, unwrap_or, sym, subst, []}
use Rattle.std.specs.Prelude.{All, IfSome}
use Rattle.cloak_model.specs.declared.resource.Region.{Region}
use Rattle.resource_map.specs.Kept.{IsMapped}
use Rattle.resource_map.proofs.Lists.{IfSome-slice_get}
use Rattle.resource_map.proofs.resources.Resources.region.Goals as goal

pub returns-clause-mapped : goal.returns-clause-mapped
returns-clause-mapped c =
    let is_mapped = IsMapped c.args.self.now c.args.space in
    let regions = c.in_ok-regions.field-0.now in
    let all = subst (λ (o : Option (List Region)). All is_mapped (unwrap_or o [])) (sym c.in_ok-regions.ensures.value) (c.regions.ensures.sound.mapped c.args.space) in
    subst (λ (o : Option Region). IfSome o is_mapped) (sym c.get.ensures.value) (IfSome-slice_get is_mapped regions c.args.i all)
