use Rattle.completeness.proofs.ReadingBack.{runs_are_soloed, runs_are_viewed}
use Rattle.completeness.proofs.law_of_reading_back.Goals as goal

pub returns-clause-views : goal.returns-clause-views
returns-clause-views c _ = runs_are_viewed _ _

pub returns-clause-solos : goal.returns-clause-solos
returns-clause-solos c _ = runs_are_soloed _ _
