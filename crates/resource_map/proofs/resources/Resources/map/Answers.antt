use Rattle.std.proofs.Common.{ap, sym, subst, ◌∙◌}
use Rattle.cloak_model.specs.Resources.{Resources, resource_at, size_for}
use Rattle.resource_map.specs.Kept.{IsInUse}
use Rattle.resource_map.proofs.Mapped.{IsSound-mapped, regions_read}
use Rattle.resource_map.proofs.resources.Resources.map.Goals as goal

pub invariant_of-self-2 : goal.invariant_of-self-2
invariant_of-self-2 c =
    let r : Resources = record { held = c.self.inside.held; spaces = c.self.inside.spaces } in
    let used = subst (λ (r : Resources). IsInUse r c.args.space) (sym c.self.view_is) c.requires.in_use in
    let size = sym (c.in-Some.ensures ∙ ap (λ (r : Resources). size_for c.args.space (resource_at r c.args.r.resource)) (sym c.self.view_is)) in
    IsSound-mapped r c.args.space c.in-Some-spaces.regions c.insert.new.self c.args.r c.in-Some.size c.self.invariant
    (regions_read r c.args.space c.in-Some-spaces.regions c.index-self-space.result used c.in-Some-spaces.is)
    size (sym c.if-not-is_region.ensures) c.insert.ensures
