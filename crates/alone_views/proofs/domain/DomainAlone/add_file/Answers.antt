use Rattle.std.proofs.Common.{refl}
use Rattle.cloak_model.specs.Files.{file_resource}
use Rattle.alone_views.proofs.DomainFiles.{adds_file}
use Rattle.alone_views.proofs.domain.DomainAlone.add_file.Goals as goal

pub returns-clause-adds : goal.returns-clause-adds
returns-clause-adds c = λ d schedule p begins.
    adds_file c.add_file.result (file_resource c.args.number c.args.pages p.domain.control.resources) begins refl refl refl
    refl refl refl
    (c.add_file.ensures.adds p.domain (begins.state.while_fit refl).part.domain) c.add_file.ensures.refused
