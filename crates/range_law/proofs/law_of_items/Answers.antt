use Rattle.range_law.proofs.Runs.{writes_a_record}
use Rattle.range_law.proofs.law_of_items.Goals as goal

pub returns : goal.returns
returns c = writes_a_record
