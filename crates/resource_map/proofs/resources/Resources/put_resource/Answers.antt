use Rattle.std.proofs.Common.{◌≡◌, ◌+◌, ◌<◌, ◌≤◌, None, Some, length, arith, sym, subst}
use Rattle.std.proofs.lemmas.List.Sums.{sum_by-set}
use Rattle.cloak_model.specs.Resources.{Resources, resource_at, all_pages, pages_of}
use Rattle.resource_map.specs.Owning.{MayOwn}
use Rattle.resource_map.proofs.Soundness.{IsSound-made}
use Rattle.resource_map.proofs.resources.Resources.put_resource.Goals as goal

pub invariant_of-self : goal.invariant_of-self
invariant_of-self c =
    let r : Resources = record { held = c.self.inside.held; spaces = c.self.inside.spaces } in
    let inside : c.args.n < length r.held = omega (arith, c.self.invariant.numbers) in
    let free : resource_at r c.args.n ≡ None = subst (λ (r : Resources). resource_at r c.args.n ≡ None) (sym c.self.view_is) c.requires.free in
    let few : all_pages r + c.args.pages ≤ 1024 = subst (λ (r : Resources). all_pages r + c.args.pages ≤ 1024) (sym c.self.view_is) c.requires.few in
    IsSound-made c.args.owner c.args.pages c.args.n r c.self.invariant inside free c.requires.some few
    (subst (MayOwn c.args.owner) (sym c.self.view_is) c.requires.may_own)
