use Rattle.completeness.proofs.Views.{views_are_complete, solos_are_complete}
use Rattle.completeness.proofs.SoloOvers.{solo_overs_are_complete}
use Rattle.completeness.proofs.law_of_complete_views.Goals as goal

pub returns-clause-views : goal.returns-clause-views
returns-clause-views c _ = views_are_complete _ _

pub returns-clause-solos : goal.returns-clause-solos
returns-clause-solos c _ = solos_are_complete _ _

pub returns-clause-over_files : goal.returns-clause-over_files
returns-clause-over_files c _ = solo_overs_are_complete _ _
