use Rattle.page_law.proofs.Ciphers.{ciphers_show_pages}
use Rattle.page_law.proofs.OwnDraws.{ciphers_have_own_draws}
use Rattle.page_law.proofs.law_of_ciphers.Goals as goal

pub returns-clause-pages : goal.returns-clause-pages
returns-clause-pages c = ciphers_show_pages

pub returns-clause-draws : goal.returns-clause-draws
returns-clause-draws c = ciphers_have_own_draws
