use Rattle.script_fold.proofs.Tables.{end_keeps_tables}
use Rattle.script_fold.proofs.law_of_ends.Goals as goal

pub returns : goal.returns
returns c = end_keeps_tables
