use Rattle.std.proofs.Common.{arith}
use Rattle.run_notes.specs.Rowing.{if_of, with_put}
use Rattle.run_notes.proofs.Rowing.{row_more}
use Rattle.run_notes.proofs.rows.put_each.Goals as goal

pub loop-row-preserved : goal.loop-row-preserved
loop-row-preserved c =
    row_more (if_of c.args.number with_put) _ _ _ c.row-item.result _ (omega arith) (omega arith) c.loop-row.invariant
    c.put_one.ensures
