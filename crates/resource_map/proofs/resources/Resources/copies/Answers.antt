use Rattle.std.proofs.Common.{List, ℕ, sym, subst, ap, ◌∙◌}
use Rattle.std.specs.Prelude.{All, zip}
use Rattle.cloak_model.specs.Resources.{Resources}
use Rattle.cloak_model.specs.Fork.{private_numbers}
use Rattle.resource_map.specs.Copying.{IsCopy}
use Rattle.resource_map.proofs.Copies.{IsCopy-all}
use Rattle.resource_map.proofs.resources.Resources.copies.Goals as goal

pub returns-clause-each : goal.returns-clause-each
returns-clause-each c =
    let r : Resources = record { held = c.self.inside.held; spaces = c.self.inside.spaces } in
    let froms = c.as_slice.ensures.value ∙ c.private_numbers-froms.ensures in
    let tos = c.as_slice-2.ensures.value ∙ c.free_numbers-tos.ensures in
    let is = c.pairs.ensures ∙ (ap (λ (list : List ℕ). zip list c.as_slice-2.result.now) froms ∙ ap (zip (private_numbers c.args.space r)) tos) in
    subst (λ (r : Resources). All (IsCopy c.args.space r) c.pairs.result.items) c.self.view_is
    (subst (λ (list : List (ℕ × ℕ)). All (IsCopy c.args.space r) list) (sym is) (IsCopy-all c.args.space r c.self.invariant.numbers))
