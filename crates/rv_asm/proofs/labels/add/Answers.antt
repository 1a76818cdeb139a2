use Rattle.std.proofs.Common.{◌≡◌, None}
use Rattle.std.proofs.lemmas.Map.Text.{btree_map_updates_str}
use Rattle.rv_asm.specs.Assembly.{table}
use Rattle.rv_asm.proofs.Found.{no_mark, added}
use Rattle.rv_asm.proofs.labels.add.Goals as goal

pub returns-in_ok-insert-clause-added : goal.returns-in_ok-insert-clause-added
returns-in_ok-insert-clause-added c = λ q.
    let name = c.args.name.now in
    let absent : table c.args.marks.now name ≡ None = no_mark (table c.args.marks.now name) (cc) in
    added name q (table c.args.marks.now) (table c.insert.new.self) c.args.mark absent (btree_map_updates_str name c.args.marks.now c.insert.new.self _ c.in_ok-insert.ensures.updates q)
