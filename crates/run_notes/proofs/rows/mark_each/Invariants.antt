use Rattle.std.proofs.Common.{◌≡◌, ◌++◌, map, take, drop}
use Rattle.run_notes.specs.Rowing.{if_of, row_now, with_mark}
use Rattle.run_notes.proofs.rows.mark_each.Given as goal

-- the rows so far are changed
abbrev pub invariant-loop-row : goal.invariant-loop-row
invariant-loop-row l =
    map row_now l.rows
    ≡ map (if_of l.number (with_mark l.mark)) (take l.row-index (map row_now l.initial.rows)) ++ drop l.row-index (map row_now l.initial.rows)
