use Rattle.std.proofs.Common.{◌∙◌, ap}
use Rattle.joint_machine.specs.Storing.{known_files}
use Rattle.joint_machine.proofs.Holding.{files_sealed, files_tell}
use Rattle.joint_machine.proofs.joint.Joint.store_files.Goals as goal

pub returns-clause-tells : goal.returns-clause-tells
returns-clause-tells c j stands = c.store_domains.ensures.tells
    ∙ (ap (known_files c.args.self.now.memory.pager.table 0) c.deref.ensures.value ∙ files_tell c.args.self.now j stands)

pub returns-clause-stands : goal.returns-clause-stands
returns-clause-stands c j stands none = record {
  tells = c.store_domains.ensures.tells
      ∙ (ap (known_files c.args.self.now.memory.pager.table 0) c.deref.ensures.value ∙ files_tell c.args.self.now j stands);
  sealed = files_sealed c.args.self.now j stands c.requires.outside none;
}
