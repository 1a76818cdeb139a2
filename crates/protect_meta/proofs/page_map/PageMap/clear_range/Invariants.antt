use Rattle.std.proofs.Common.{◌≡◌}
use Rattle.protect_meta.proofs.Rows.{IsClearedTo}
use Rattle.protect_meta.proofs.page_map.PageMap.clear_range.Given as goal

abbrev pub invariant-loop-i : goal.invariant-loop-i
invariant-loop-i g l = record {
  domains : l.self-inside.domains ≡ l.initial.self-inside.domains;
  cleared : IsClearedTo l.initial.self-inside.row.items l.first l.i l.self-inside.row.items;
}
