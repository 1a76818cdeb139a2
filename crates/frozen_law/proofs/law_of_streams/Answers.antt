use Rattle.frozen_law.proofs.Streams.{runs_keep_keys, runs_keep_streams}
use Rattle.frozen_law.proofs.law_of_streams.Goals as goal

pub returns-clause-streams : goal.returns-clause-streams
returns-clause-streams c = runs_keep_streams

pub returns-clause-keys : goal.returns-clause-keys
returns-clause-keys c = runs_keep_keys
