use Rattle.frozen_promise.proofs.OneRun.{parts_are_one_run}
use Rattle.frozen_promise.proofs.law_of_one_run.Goals as goal

pub returns : goal.returns
returns g c = parts_are_one_run g.row.S.Denot g.row.O.Denot
