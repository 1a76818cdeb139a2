use Rattle.sealed_store.proofs.SpellsOne.{spells_one}
use Rattle.sealed_store.proofs.FaultOrTable.{has_fault_or_table}
use Rattle.sealed_store.proofs.law.law_of_stores.Goals as goal

pub returns-clause-one_table : goal.returns-clause-one_table
returns-clause-one_table c = spells_one

pub returns-clause-fault_or_table : goal.returns-clause-fault_or_table
returns-clause-fault_or_table c = has_fault_or_table
