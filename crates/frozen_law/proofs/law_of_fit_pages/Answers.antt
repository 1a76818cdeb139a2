use Rattle.frozen_law.proofs.Fit.{runs_fit_pages}
use Rattle.frozen_law.proofs.law_of_fit_pages.Goals as goal

pub returns : goal.returns
returns c = runs_fit_pages
