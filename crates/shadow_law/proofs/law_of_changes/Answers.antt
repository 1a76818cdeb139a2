use Rattle.shadow_law.proofs.Changes.{write_keeps, touch_keeps, offer_keeps, change_keeps, remap_keeps}
use Rattle.shadow_law.proofs.law_of_changes.Goals as goal

pub returns-clause-write : goal.returns-clause-write
returns-clause-write c = write_keeps

pub returns-clause-touch : goal.returns-clause-touch
returns-clause-touch c = touch_keeps

pub returns-clause-offer : goal.returns-clause-offer
returns-clause-offer c = offer_keeps

pub returns-clause-remap : goal.returns-clause-remap
returns-clause-remap c = remap_keeps

pub returns-clause-change : goal.returns-clause-change
returns-clause-change c = change_keeps
