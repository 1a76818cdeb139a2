use Rattle.completeness.proofs.Images.{gens_are_complete, demos_are_complete}
use Rattle.completeness.proofs.Upgrades.{upgrades_are_complete}
use Rattle.completeness.proofs.law_of_complete_images.Goals as goal

pub returns-clause-gens : goal.returns-clause-gens
returns-clause-gens c _ = gens_are_complete _ _

pub returns-clause-demos : goal.returns-clause-demos
returns-clause-demos c _ = demos_are_complete _

pub returns-clause-upgrades : goal.returns-clause-upgrades
returns-clause-upgrades c _ = upgrades_are_complete _ _
