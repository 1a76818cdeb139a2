use Rattle.std.proofs.Common.{◌≡◌, ℕ, List, [], Option, map, unwrap_or, ap, ◌∙◌}
use Rattle.cloak_model.specs.declared.resource.Region.{Region}
use Rattle.cloak_model.specs.Resources.{Resources, regions_in}
use Rattle.cloak_model.specs.Fork.{copies, copied_region, with_copies}
use Rattle.resource_map.proofs.Copies.{IsSound-copied}
use Rattle.resource_map.proofs.resources.Resources.copy_space.Goals as goal

pub invariant_of-self : goal.invariant_of-self
invariant_of-self c =
    let r = c.args.self.now in
    let space = c.args.space in
    let list = copies space r in
    let first = c.as_slice.ensures.value ∙ c.copies-copies.ensures.value in
    let second = c.as_slice-2.ensures.value ∙ c.copies-copies.ensures.value in
    let old : c.in-Some.regions.now ≡ regions_in r space = ap (λ (o : Option (List Region)). unwrap_or o []) c.in-Some.ensures.value in
    IsSound-copied space c.args.new r c.with_copies-self-inside.result c.self.inside.spaces c.copied-regions.result
    c.in-Some.ensures.sound c.requires.number c.requires.room
    (c.with_copies-self-inside.ensures ∙ ap (λ (l : List (ℕ × ℕ)). with_copies c.args.new r.held l r) second)
    (ap (λ (r : Resources). r.spaces) c.self.view_is)
    (c.copied-regions.ensures ∙ (ap (λ (l : List (ℕ × ℕ)). map (copied_region l) c.in-Some.regions.now) first ∙ ap (map (copied_region list)) old))
