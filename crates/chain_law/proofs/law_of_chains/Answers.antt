use Rattle.chain_law.proofs.Chains.{chains_give_latest}
use Rattle.chain_law.proofs.Since.{latest_is_since}
use Rattle.chain_law.proofs.law_of_chains.Goals as goal

pub returns-clause-runs : goal.returns-clause-runs
returns-clause-runs c = chains_give_latest

pub returns-clause-since : goal.returns-clause-since
returns-clause-since c = latest_is_since
