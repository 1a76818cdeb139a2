use Rattle.std.proofs.Common.{◌≡◌, ◌∙◌, string_bytes, ap}
use Rattle.std.specs.FinMap.{insert}
use Rattle.std.proofs.lemmas.Map.Text.{btree_map_updates_text}
use Rattle.std.proofs.lemmas.Result.{IfOk-at_ok}
use Rattle.io_traits.specs.Table.{files_of}
use Rattle.io_traits.proofs.Tables.{files_of-set}
use Rattle.io_traits.proofs.table.replace.Goals as goal

pub returns-clause-ok : goal.returns-clause-ok
returns-clause-ok c =
    let key_is_name = IfOk-at_ok (λ s. string_bytes s ≡ c.args.name.now) c.in_ok-key.was c.from_str.ensures.ok in
    let sets = btree_map_updates_text (string_bytes c.in_ok-key.key) c.args.files.now c.insert.new.self _
    c.in_ok-insert.ensures.updates in
    files_of-set (string_bytes c.in_ok-key.key) c.args.files.now c.insert.new.self c.in_ok-value.value sets
    ∙ ap (λ name. insert (files_of c.args.files.now) name c.in_ok-value.value.items) key_is_name
    ∙ ap (λ bytes. insert (files_of c.args.files.now) c.args.name.now bytes) c.in_ok-value.ensures.items
