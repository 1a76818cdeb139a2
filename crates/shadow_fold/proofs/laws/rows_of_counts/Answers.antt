use Rattle.shadow_fold.proofs.Rows.{smallest_run, three_kinds}
use Rattle.shadow_fold.proofs.laws.rows_of_counts.Goals as goal

pub returns-clause-smallest : goal.returns-clause-smallest
returns-clause-smallest c = smallest_run

pub returns-clause-three_kinds : goal.returns-clause-three_kinds
returns-clause-three_kinds c = three_kinds
