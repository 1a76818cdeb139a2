use Rattle.frozen_law.proofs.RecordRuns.{records_tell_pages}
use Rattle.frozen_law.proofs.law_of_records.Goals as goal

pub returns : goal.returns
returns c = records_tell_pages
