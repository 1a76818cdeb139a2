use Rattle.std.proofs.Common.{arith, ◌∙◌, sym, subst}
use Rattle.cloak_model.specs.Resources.{Resources}
use Rattle.resource_map.specs.Owning.{MayOwn}
use Rattle.resource_map.proofs.Lists.{first_free-at}
use Rattle.resource_map.proofs.Soundness.{IsSound-made}
use Rattle.resource_map.proofs.resources.Resources.new_owned.Goals as goal

pub invariant_of-self : goal.invariant_of-self
invariant_of-self c =
    let r : Resources = record { held = c.self.inside.held; spaces = c.self.inside.spaces } in
    let free = first_free-at c.self.inside.held c.in-Some.n (sym c.first_free.ensures.value ∙ c.in-Some.is) in
    IsSound-made c.args.owner c.args.pages c.in-Some.n r c.self.invariant free.0 free.1 (omega arith) (omega arith) (subst (MayOwn c.args.owner) (sym c.self.view_is) c.requires.may_own)
