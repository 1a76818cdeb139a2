use Rattle.std.proofs.Common.{not, sym, subst}
use Rattle.cloak_model.specs.declared.resource.Region.{Region}
use Rattle.cloak_model.specs.Resources.{Resources, starts_at}
use Rattle.resource_map.specs.Kept.{IsInUse}
use Rattle.resource_map.proofs.Mapped.{IsSound-unmapped, regions_read}
use Rattle.resource_map.proofs.resources.Resources.unmap.Goals as goal

pub invariant_of-self-2 : goal.invariant_of-self-2
invariant_of-self-2 c =
    let r : Resources = record { held = c.self.inside.held; spaces = c.self.inside.spaces } in
    let used = subst (λ (r : Resources). IsInUse r c.args.space) (sym c.self.view_is) c.requires.in_use in
    IsSound-unmapped r c.args.space c.in-Some.regions c.remove.new.self (λ (g : Region). not (starts_at c.args.start g)) c.self.invariant
    (regions_read r c.args.space c.in-Some.regions c.index-self-space.result used c.in-Some.is)
    c.remove.ensures
