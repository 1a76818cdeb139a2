use Rattle.chain_law.proofs.GoesOn.{files_go_on}
use Rattle.chain_law.proofs.Unmade.{end_unmakes_files}
use Rattle.chain_law.proofs.law_of_files_over_runs.Goals as goal

pub returns-clause-files : goal.returns-clause-files
returns-clause-files c = files_go_on

pub returns-clause-ended : goal.returns-clause-ended
returns-clause-ended c = end_unmakes_files
