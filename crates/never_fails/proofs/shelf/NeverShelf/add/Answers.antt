use Rattle.std.proofs.Common.{◌≡◌, List, ℕ, Some, string_bytes, subst}
use Rattle.std.proofs.lemmas.Map.Text.{btree_map_updates_text}
use Rattle.std.proofs.lemmas.Result.{IfOk-at_ok}
use Rattle.io_traits.specs.Told.{OtherFiles}
use Rattle.never_fails.specs.Handed.{handed_in}
use Rattle.never_fails.proofs.Handed.{others_stay}
use Rattle.never_fails.proofs.shelf.NeverShelf.add.Goals as goal

pub returns-clause-others : goal.returns-clause-others
returns-clause-others c =
    let key_is_name = IfOk-at_ok (λ s. string_bytes s ≡ c.args.name.now) c.in_ok-key.was c.from_str.ensures.ok in
    let sets = btree_map_updates_text (string_bytes c.in_ok-key.key) c.args.self.now.files c.insert.new.self _
    c.in_ok-insert.ensures.updates in
    subst (λ (name : List ℕ). OtherFiles name (handed_in c.args.self.now.files) (handed_in c.insert.new.self)) key_is_name
    (others_stay (string_bytes c.in_ok-key.key) c.args.self.now.files c.insert.new.self (Some c.in_ok-value.value) sets)
