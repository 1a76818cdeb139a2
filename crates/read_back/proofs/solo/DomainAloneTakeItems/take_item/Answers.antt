use Rattle.cloak_model.specs.DomainAlone.{domain_alone_from}
use Rattle.cloak_model.specs.Items.{item_of}
use Rattle.read_back.proofs.ProgramReads.{solos_more}
use Rattle.read_back.proofs.solo.DomainAloneTakeItems.take_item.Goals as goal

pub returns : goal.returns
returns c = λ first before few took d k p stands.
    let solos = took d k p stands in
    solos_more c.take.result (item_of c.args.item.now) solos
    (c.take.ensures.takes d k.schedule (domain_alone_from d k.schedule p before) solos.given.stands)
