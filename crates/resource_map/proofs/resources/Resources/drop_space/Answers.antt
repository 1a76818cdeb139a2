use Rattle.std.proofs.Common.{List, Option, None, sym, subst}
use Rattle.std.specs.Prelude.{slice_set}
use Rattle.cloak_model.specs.declared.resource.Resource.{Resource}
use Rattle.cloak_model.specs.Resources.{Resources, drop_space}
use Rattle.resource_map.specs.Kept.{IsSound}
use Rattle.resource_map.proofs.Soundness.{IsSound-dropped}
use Rattle.resource_map.proofs.resources.Resources.drop_space.Goals as goal

pub invariant_of-self : goal.invariant_of-self
unfolding drop_space
invariant_of-self c =
    let r : Resources = record { held = c.self.inside.held; spaces = c.self.inside.spaces } in
    subst (λ (held : List (Option Resource)). IsSound (record { held = held; spaces = slice_set r.spaces c.args.space None })) (sym c.without_private-self-inside.ensures)
    (IsSound-dropped c.args.space r c.self.invariant)
