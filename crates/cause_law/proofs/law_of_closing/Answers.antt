use Rattle.cause_law.proofs.Closed.{closing_owes_nothing, closing_shows_owed, closing_spares_others}
use Rattle.cause_law.proofs.law_of_closing.Goals as goal

pub returns-clause-nothing_owed : goal.returns-clause-nothing_owed
returns-clause-nothing_owed c = closing_owes_nothing

pub returns-clause-shown : goal.returns-clause-shown
returns-clause-shown c = closing_shows_owed

pub returns-clause-others : goal.returns-clause-others
returns-clause-others c = closing_spares_others
