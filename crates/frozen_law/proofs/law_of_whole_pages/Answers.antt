use Rattle.frozen_law.proofs.Pages.{pages_are_whole}
use Rattle.frozen_law.proofs.law_of_whole_pages.Goals as goal

pub returns : goal.returns
returns c = pages_are_whole
