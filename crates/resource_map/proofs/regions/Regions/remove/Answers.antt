use Rattle.std.proofs.Common.{ap, ◌∙◌, sym, subst, rules}
use Rattle.std.specs.Prelude.{All, AllPairs, filter, not}
use Rattle.std.proofs.lemmas.List.Elements.{All-filter}
use Rattle.std.proofs.lemmas.List.Kept.{AllPairs-filter}
use Rattle.arrayvec.proofs.ArrayVecLemmas.{filter-from_retain}
use Rattle.cloak_model.specs.declared.resource.Region.{Region}
use Rattle.cloak_model.specs.Resources.{starts_at}
use Rattle.resource_map.specs.Kept.{IsSoundRegion, EndsBelow}
use Rattle.resource_map.proofs.regions.Regions.remove.Goals as goal

pub returns : goal.returns
returns c =
    filter-from_retain _ (λ (g : Region). not (starts_at c.args.start g)) _ (λ x b f' y called. search rules) _ _ c.retain.ensures.filtered
    ∙ ap (filter (λ (g : Region). not (starts_at c.args.start g))) c.self.view_is

pub invariant_of-self : goal.invariant_of-self
invariant_of-self c =
    let is = returns c ∙ ap (filter (λ (g : Region). not (starts_at c.args.start g))) (sym c.self.view_is) in (
      subst (All IsSoundRegion) (sym is) (All-filter _ IsSoundRegion _ c.self.invariant.0),
      subst (AllPairs EndsBelow) (sym is) (AllPairs-filter EndsBelow _ _ c.self.invariant.1),
    )
