use Rattle.shadow_fold.specs.Agreement.{EntryAgrees}
use Rattle.shadow_fold.specs.Entries.{is_for}
use Rattle.shadow_fold.proofs.Agreeing.{found, keeps_ending, keeps_insert}
use Rattle.shadow_fold.proofs.laws.law_of_agreement.Goals as goal

pub returns-clause-found : goal.returns-clause-found
returns-clause-found c = λ p regime page kind t e all is. found (EntryAgrees p) (is_for regime page kind) t.live e all is

pub returns-clause-ending : goal.returns-clause-ending
returns-clause-ending c = λ p p'. keeps_ending (EntryAgrees p) (EntryAgrees p')

pub returns-clause-insert : goal.returns-clause-insert
returns-clause-insert c = λ p. keeps_insert (EntryAgrees p)
