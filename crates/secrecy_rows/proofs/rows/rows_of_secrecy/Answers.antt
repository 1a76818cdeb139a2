use Rattle.cloak_model.proofs.BlindWhole.{padded_runs_are_one}
use Rattle.secrecy_rows.proofs.Worked.{secret_is_there, secret_is_kept, secret_is_told, premise_is_needed}
use Rattle.secrecy_rows.proofs.rows.rows_of_secrecy.Goals as goal

pub returns-clause-kept : goal.returns-clause-kept
returns-clause-kept c = secret_is_kept padded_runs_are_one

pub returns-clause-there : goal.returns-clause-there
returns-clause-there c = secret_is_there

pub returns-clause-told : goal.returns-clause-told
returns-clause-told c = secret_is_told

pub returns-clause-needed : goal.returns-clause-needed
returns-clause-needed c = premise_is_needed
