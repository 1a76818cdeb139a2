use Rattle.page_law.proofs.OwnPages.{steps_keep_pages, closing_keeps_pages}
use Rattle.page_law.proofs.law_of_own_pages.Goals as goal

pub returns-clause-steps : goal.returns-clause-steps
returns-clause-steps c = steps_keep_pages

pub returns-clause-closing : goal.returns-clause-closing
returns-clause-closing c = closing_keeps_pages
