use Rattle.completeness.proofs.Freezes.{freezes_are_complete}
use Rattle.completeness.proofs.law_of_complete_freezes.Goals as goal

pub returns : goal.returns
returns c _ = freezes_are_complete _ _
