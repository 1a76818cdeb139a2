use Rattle.record_reader.proofs.InOrder.{record_is_read, fault_is_read}
use Rattle.record_reader.proofs.law.law_of_reading.Goals as goal

pub returns-clause-record : goal.returns-clause-record
returns-clause-record c = record_is_read

pub returns-clause-fault : goal.returns-clause-fault
returns-clause-fault c = fault_is_read
