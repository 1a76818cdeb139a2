use Rattle.cloak_commands.proofs.BundleFirst.{judges_bundle_first}
use Rattle.cloak_commands.proofs.Complete.{complete_by}
use Rattle.cloak_commands.proofs.command.cloak.Goals as goal

pub returns-clause-complete : goal.returns-clause-complete
returns-clause-complete g c = complete_by _ _ _ _ c.requires.reading c.carry_out.ensures.answers

pub returns-clause-bundle_first : goal.returns-clause-bundle_first
returns-clause-bundle_first g c = judges_bundle_first _ _ _ _ c.carry_out.ensures.answers
