use Rattle.std.proofs.Common.{List, ℕ, false, true, ◌≡◌, ◌<◌, sym, subst, ap, ◌∙◌}
use Rattle.std.specs.Prelude.{All, slice_index_or}
use Rattle.cloak_model.specs.Resources.{Resources}
use Rattle.cloak_model.specs.Fork.{marked, private_numbers}
use Rattle.resource_map.proofs.Copies.{marked_all, inside_all}
use Rattle.resource_map.proofs.resources.Resources.private_numbers.Goals as goal

pub returns-clause-marked : goal.returns-clause-marked
returns-clause-marked c =
    let is = c.private_numbers.ensures ∙ ap (private_numbers c.args.space) c.self.view_is in
    subst (λ (list : List ℕ). All (λ n. slice_index_or (marked c.args.space c.args.self.now) n false ≡ true) list) (sym is) (marked_all c.args.space c.args.self.now)

pub returns-clause-inside : goal.returns-clause-inside
returns-clause-inside c =
    let r : Resources = record { held = c.self.inside.held; spaces = c.self.inside.spaces } in
    subst (λ (list : List ℕ). All (λ n. n < 16) list) (sym c.private_numbers.ensures) (inside_all c.args.space r c.self.invariant.numbers)
