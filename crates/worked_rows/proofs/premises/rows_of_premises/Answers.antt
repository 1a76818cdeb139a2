use Rattle.std.proofs.Common.{refl}
use Rattle.worked_rows.proofs.Computing.{instructions}
use Rattle.worked_rows.proofs.MetPremises.{whole_premises, one_half, smallest_premises, stored_premises, hart_premises, all_met, record_premises}
use Rattle.worked_rows.proofs.Reserving.{context_premises}
use Rattle.worked_rows.proofs.premises.rows_of_premises.Goals as goal

pub returns-clause-whole : goal.returns-clause-whole
returns-clause-whole c = whole_premises

pub returns-clause-half : goal.returns-clause-half
returns-clause-half c = one_half

pub returns-clause-smallest : goal.returns-clause-smallest
returns-clause-smallest c = smallest_premises

pub returns-clause-stored : goal.returns-clause-stored
returns-clause-stored c = stored_premises

pub returns-clause-words : goal.returns-clause-words
unfolding instructions
returns-clause-words c = record { kernel = refl; program = refl }

pub returns-clause-hart : goal.returns-clause-hart
returns-clause-hart c = hart_premises

pub returns-clause-context : goal.returns-clause-context
returns-clause-context c = context_premises

pub returns-clause-violations : goal.returns-clause-violations
returns-clause-violations c = all_met

pub returns-clause-records : goal.returns-clause-records
returns-clause-records c = record_premises
