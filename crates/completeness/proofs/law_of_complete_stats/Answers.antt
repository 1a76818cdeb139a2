use Rattle.completeness.proofs.Stats.{stats_are_complete}
use Rattle.completeness.proofs.law_of_complete_stats.Goals as goal

pub returns : goal.returns
returns c _ = stats_are_complete _ _
