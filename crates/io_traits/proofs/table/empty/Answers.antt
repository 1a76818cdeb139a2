use Rattle.std.proofs.Common.{◌∙◌, ap, rules}
use Rattle.std.specs.FinMap.{insert}
use Rattle.std.proofs.lemmas.Map.Text.{btree_map_updates_text}
use Rattle.io_traits.specs.Table.{files_of}
use Rattle.io_traits.proofs.Tables.{files_of-set, IsThere-none}
use Rattle.io_traits.proofs.table.empty.Goals as goal

pub returns-in-Some-clause-ok : goal.returns-in-Some-clause-ok
returns-in-Some-clause-ok c =
    let after = c.clear.new.self in
    let lender = c.get_mut.follows.lender after in
    let sets = btree_map_updates_text c.args.name.now c.args.files.now lender _
    ((c.get_mut.follows.holds after).3 (search rules)) in
    files_of-set c.args.name.now c.args.files.now lender after sets
    ∙ ap (insert (files_of c.args.files.now) c.args.name.now) c.clear.ensures.items

pub returns-in-None-clause-there : goal.returns-in-None-clause-there
returns-in-None-clause-there c =
    λ there. absurd (IsThere-none c.args.files.now c.args.name.now c.in-None.ensures.value there)
