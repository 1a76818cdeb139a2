use Rattle.std.proofs.Common.{◌≡◌, drop}
use Rattle.toml.specs.View.{view}
use Rattle.manifest.specs.Fields.{alone_at}
use Rattle.manifest.proofs.fields.NamedTable.stands_alone.Given as goal

-- none of the keys so far
abbrev pub invariant-loop-key : goal.invariant-loop-key
invariant-loop-key l =
    alone_at l.self.part (view l.self.table.now) (drop l.key-index l.others) ≡ alone_at l.self.part (view l.self.table.now) l.others
