use Rattle.shadow_law.proofs.Hits.{hit_is_walk, hit_is_offer}
use Rattle.shadow_law.proofs.law_of_hits.Goals as goal

pub returns-clause-walk : goal.returns-clause-walk
returns-clause-walk c = hit_is_walk

pub returns-clause-offer : goal.returns-clause-offer
returns-clause-offer c = hit_is_offer
