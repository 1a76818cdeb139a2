use Rattle.completeness.proofs.Thaws.{thaws_are_complete}
use Rattle.completeness.proofs.law_of_complete_thaws.Goals as goal

pub returns : goal.returns
returns c _ = thaws_are_complete _ _
