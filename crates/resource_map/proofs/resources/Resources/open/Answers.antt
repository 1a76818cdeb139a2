use Rattle.std.proofs.Common.{List, ◌∷◌, Some, None, replicate, ap, sym, subst, ◌∙◌}
use Rattle.cloak_model.specs.declared.resource.Region.{Region}
use Rattle.cloak_model.specs.Resources.{started_resources, with_region}
use Rattle.resource_map.specs.Kept.{IsSound}
use Rattle.resource_map.proofs.Soundness.{IsSound-started}
use Rattle.resource_map.proofs.resources.Resources.open.Goals as goal

pub invariant_of-result : goal.invariant_of-result
unfolding started_resources
invariant_of-result c =
    let pages = c.args.pages in
    let base = c.args.base in
    let only = c.insert.ensures ∙ ap (with_region (record { start = base; pages = pages; resource = 0; first = 0 })) c.new-regions.ensures in
    subst (λ (regions : List Region). IsSound (record { held = (started_resources pages base).held; spaces = Some regions ∷ replicate 7 None })) (sym only)
    (IsSound-started pages base c.requires.some c.requires.few)
