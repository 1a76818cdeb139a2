use Rattle.std.proofs.Common.{◌≡◌, ◌+◌, ◌≤◌, length}
use Rattle.std.specs.Prelude.{All}
use Rattle.rv_asm.specs.Statements.{IsItemInRange}
use Rattle.rv_asm.specs.Assembly.{lines_of, items_from, table}
use Rattle.rv_asm.proofs.Lines.{with_front}
use Rattle.rv_asm.proofs.assembler.all_items.Given as goal

abbrev pub invariant-loop-rest : goal.invariant-loop-rest
invariant-loop-rest l = record {
  so_far : with_front l.out.items (items_from (table l.marks) l.line (length l.out.items) (lines_of l.rest)) ≡ items_from (table l.marks) 0 0 (lines_of l.text);
  ready : All IsItemInRange l.out.items;
  lines : l.line + length l.rest ≤ length l.text;
}

abbrev pub decreases-loop-rest : goal.decreases-loop-rest
decreases-loop-rest l = length l.rest
