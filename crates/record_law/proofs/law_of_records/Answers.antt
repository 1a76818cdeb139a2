use Rattle.record_law.proofs.Judged.{one_record, one_fault, not_both, judged}
use Rattle.record_law.proofs.law_of_records.Goals as goal

pub returns-clause-one_record : goal.returns-clause-one_record
returns-clause-one_record c = one_record

pub returns-clause-one_fault : goal.returns-clause-one_fault
returns-clause-one_fault c = one_fault

pub returns-clause-never_both : goal.returns-clause-never_both
returns-clause-never_both c = not_both

pub returns-clause-either : goal.returns-clause-either
returns-clause-either c = λ file are. (judged file are).judged
