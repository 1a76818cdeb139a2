use Rattle.store_command.proofs.NextRun.{first_runs_have_no_files, next_images_keep_keys, next_runs_go_on, runs_begin_chains}
use Rattle.store_command.proofs.laws.law_of_next_runs.Goals as goal

pub returns-clause-next : goal.returns-clause-next
returns-clause-next g c = next_runs_go_on g.row.S.Denot g.row.O.Denot

pub returns-clause-images : goal.returns-clause-images
returns-clause-images g c = next_images_keep_keys g.row.S.Denot g.row.O.Denot

pub returns-clause-begins : goal.returns-clause-begins
returns-clause-begins g c = runs_begin_chains g.row.S.Denot g.row.O.Denot

pub returns-clause-first : goal.returns-clause-first
returns-clause-first g c = first_runs_have_no_files g.row.S.Denot g.row.O.Denot
