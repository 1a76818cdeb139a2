use Rattle.record_law.proofs.Writing.{writes_its_record}
use Rattle.record_law.proofs.law_of_written_records.Goals as goal

pub returns : goal.returns
returns c = writes_its_record
