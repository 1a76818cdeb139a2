use Rattle.std.proofs.Common.{◌≡◌, ◌+◌, ◌*◌, ◌≤◌, ℕ, List, length}
use Rattle.rv_asm.specs.Operations.{or_else}
use Rattle.rv_asm.specs.Assembly.{lines_of, labels_of, find_in, table}
use Rattle.rv_asm.proofs.labels.labels.Given as goal

abbrev pub invariant-loop-rest : goal.invariant-loop-rest
invariant-loop-rest l = record {
  found : (q : List ℕ) → or_else (table l.marks q) (find_in (labels_of l.line l.place (lines_of l.rest)) q) ≡ find_in (labels_of 0 0 (lines_of l.text)) q;
  lines : l.line + length l.rest ≤ length l.text;
  words : l.place ≤ 2 * l.line;
}

abbrev pub decreases-loop-rest : goal.decreases-loop-rest
decreases-loop-rest l = length l.rest
