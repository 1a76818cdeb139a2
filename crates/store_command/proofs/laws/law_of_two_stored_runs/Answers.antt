use Rattle.store_command.proofs.TwoRuns.{kernels_agree, programs_agree, records_tell_runs}
use Rattle.store_command.proofs.laws.law_of_two_stored_runs.Goals as goal

pub returns-clause-kernel : goal.returns-clause-kernel
returns-clause-kernel g c = kernels_agree g.row.S.Denot g.row.O.Denot

pub returns-clause-programs : goal.returns-clause-programs
returns-clause-programs g c = programs_agree g.row.S.Denot g.row.O.Denot

pub returns-clause-records : goal.returns-clause-records
returns-clause-records g c = records_tell_runs g.row.S.Denot g.row.O.Denot
