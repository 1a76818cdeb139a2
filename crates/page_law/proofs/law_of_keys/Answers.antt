use Rattle.page_law.proofs.Ciphers.{pages_keep_their_keys, closing_keeps_keys}
use Rattle.page_law.proofs.law_of_keys.Goals as goal

pub returns-clause-moments : goal.returns-clause-moments
returns-clause-moments c = pages_keep_their_keys

pub returns-clause-closing : goal.returns-clause-closing
returns-clause-closing c = closing_keeps_keys
