use Rattle.std.proofs.Common.{Some}
use Rattle.read_back.proofs.ItemsRead.{fits_so, stops_so}
use Rattle.read_back.proofs.ProgramReads.{solos_none, solos_to}
use Rattle.read_back.proofs.solo.read_program.Goals as goal

pub for_each_item-requires-clause-none : goal.for_each_item-requires-clause-none
for_each_item-requires-clause-none g c = solos_none c.args.program.now

pub returns-in-Ok-clause-solos : goal.returns-in-Ok-clause-solos
returns-in-Ok-clause-solos g c = λ d k p stands.
    let read = c.in-Ok.ensures.reads in
    let solos = read.taken d k p stands in
    solos_to solos read.few (fits_so (Some c.in-Ok.ending) solos.given.fits read.read)

pub returns-in-Err-clause-solos : goal.returns-in-Err-clause-solos
returns-in-Err-clause-solos g c = λ d k p stands.
    let read = c.in-Err.ensures.reads in
    let solos = read.taken d k p stands in
    solos_to solos read.few (stops_so c.in-Err.unfit.step solos.given.fits read.read)
