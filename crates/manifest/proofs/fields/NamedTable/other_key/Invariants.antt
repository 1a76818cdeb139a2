use Rattle.std.proofs.Common.{◌≡◌}
use Rattle.toml.specs.Data.{as_table}
use Rattle.toml.specs.View.{view, members_view}
use Rattle.manifest.specs.Fields.{first_other, other_key}
use Rattle.manifest.proofs.fields.NamedTable.other_key.Given as goal

-- no other key so far
abbrev pub invariant-loop-name : goal.invariant-loop-name
invariant-loop-name l =
    (goal.iterator-loop-name).can_next l.name-iterator × (goal.iterator-loop-name).is_finite l.name-iterator
    × (first_other l.keys (members_view l.name-iterator) ≡ other_key l.keys (as_table (view l.self.table.now)))
