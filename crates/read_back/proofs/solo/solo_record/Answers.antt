use Rattle.cloak_model.specs.DomainAlone.{domain_alone_from}
use Rattle.read_back.specs.Answering.{program_unfit}
use Rattle.read_back.proofs.Lines.{fits_whole}
use Rattle.read_back.proofs.Shown.{solo_whole, solo_cut}
use Rattle.read_back.proofs.solo.solo_record.Goals as goal

pub returns-in-Ok-clause-shows : goal.returns-in-Ok-clause-shows
returns-in-Ok-clause-shows g c = λ d k p stands.
    let solos = c.read_program-ending.ensures.solos d k p stands in
    solo_whole g.S.Shelf g.O.Sink _ _ solos
    (c.in-Ok.ensures d k.schedule (domain_alone_from d k.schedule p solos.items) solos.stands solos.few
    (fits_whole (program_unfit d k p) solos.items c.read_program-ending.result solos.read.fits)) c.status.ensures

pub returns-in-Err-clause-shows : goal.returns-in-Err-clause-shows
returns-in-Err-clause-shows g c = λ d k p stands.
    let solos = c.read_program-ending.ensures.solos d k p stands in
    solo_cut g.S.Shelf g.O.Sink _ _ solos
    (c.in-Err.ensures d k.schedule (domain_alone_from d k.schedule p solos.items) solos.stands solos.few
    (fits_whole (program_unfit d k p) solos.items c.read_program-ending.result solos.read.fits))
