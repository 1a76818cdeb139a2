use Rattle.shadow_law.proofs.Walks.{walk_reaches, walk_kept, walk_of_page, walk_within}
use Rattle.shadow_law.proofs.law_of_walks.Goals as goal

pub returns-clause-reaches : goal.returns-clause-reaches
returns-clause-reaches c = walk_reaches

pub returns-clause-kept : goal.returns-clause-kept
returns-clause-kept c = walk_kept

pub returns-clause-of_page : goal.returns-clause-of_page
returns-clause-of_page c = walk_of_page

pub returns-clause-within : goal.returns-clause-within
returns-clause-within c = walk_within
