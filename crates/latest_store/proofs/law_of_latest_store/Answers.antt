use Rattle.latest_store.proofs.Histories.{runs_give_latest}
use Rattle.latest_store.proofs.Sums.{runs_add_up}
use Rattle.latest_store.proofs.law_of_latest_store.Goals as goal

pub returns-clause-latest : goal.returns-clause-latest
returns-clause-latest c = runs_give_latest

pub returns-clause-sums : goal.returns-clause-sums
returns-clause-sums c = runs_add_up
