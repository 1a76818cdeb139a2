use Rattle.shadow_fold.specs.Agreement.{EntryAgrees, IsMapped}
use Rattle.shadow_fold.specs.Entries.{IsWithin}
use Rattle.shadow_law.proofs.Misses.{asked_walk, settled_walk, offered_walk, open_entry_agrees, page_entry_agrees, entry_within, keeps_birth}
use Rattle.shadow_law.proofs.law_of_new_entries.Goals as goal

pub returns-clause-asked : goal.returns-clause-asked
returns-clause-asked c = asked_walk

pub returns-clause-settled : goal.returns-clause-settled
returns-clause-settled c = settled_walk

pub returns-clause-offered : goal.returns-clause-offered
returns-clause-offered c = offered_walk

pub returns-clause-open : goal.returns-clause-open
returns-clause-open c = open_entry_agrees

pub returns-clause-page : goal.returns-clause-page
returns-clause-page c = page_entry_agrees

pub returns-clause-within : goal.returns-clause-within
returns-clause-within c = entry_within

pub returns-clause-birth : goal.returns-clause-birth
returns-clause-birth c p e old new = keeps_birth (EntryAgrees p) _ e old new

pub returns-clause-birth_mapped : goal.returns-clause-birth_mapped
returns-clause-birth_mapped c mapped e old new = keeps_birth (IsMapped mapped) _ e old new

pub returns-clause-birth_within : goal.returns-clause-birth_within
returns-clause-birth_within c n e old new = keeps_birth (IsWithin n) _ e old new
