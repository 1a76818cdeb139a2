use Rattle.frozen_law.proofs.HeldOpened.{runs_hold_pages}
use Rattle.frozen_law.proofs.law_of_pages.Goals as goal

pub returns : goal.returns
returns c = runs_hold_pages
