use Rattle.std.proofs.Common.{◌≡◌, ℕ, true, Option, None, Some, refl, sym, subst}
use Rattle.std.specs.Prelude.{IsSome}
use Rattle.std.proofs.lemmas.Bool.{false≢true}
use Rattle.std.proofs.lemmas.List.Quantifiers.{position-Some}
use Rattle.cloak_model.specs.declared.resource.Resource.{Resource}
use Rattle.cloak_model.specs.Resources.{Resources, resource_at}
use Rattle.cloak_model.specs.Files.{holds_file}
use Rattle.resource_map.proofs.resources.Resources.file.Goals as goal

-- a file is there
file_is_there : (number : ℕ) (o : Option Resource) → holds_file number o ≡ true → IsSome o
file_is_there number None holds = absurd (false≢true holds)
file_is_there number (Some x) holds = refl

pub returns-clause-in_use : goal.returns-clause-in_use
returns-clause-in_use c =
    let held = c.self.inside.held in
    let at = position-Some (holds_file c.args.number) held c.in_ok-n.n None (sym c.in_ok-n.ensures.value) in
    subst (λ (r : Resources). IsSome (resource_at r c.in_ok-n.n)) c.self.view_is (file_is_there c.args.number _ at.1)
