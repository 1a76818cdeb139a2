use Rattle.completeness.proofs.Stores.{stores_are_complete}
use Rattle.completeness.proofs.law_of_complete_stores.Goals as goal

pub returns : goal.returns
returns c _ = stores_are_complete _ _
