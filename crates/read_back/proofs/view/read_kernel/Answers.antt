use Rattle.std.proofs.Common.{Some, None, sym}
use Rattle.read_back.proofs.ItemsRead.{fits_so, stops_so}
use Rattle.read_back.proofs.KernelReads.{views_none, views_to}
use Rattle.read_back.proofs.view.read_kernel.Goals as goal

pub for_each_item-requires-clause-none : goal.for_each_item-requires-clause-none
for_each_item-requires-clause-none g c = views_none g.O.Sink _

pub returns-in-Ok-clause-views : goal.returns-in-Ok-clause-views
returns-in-Ok-clause-views g c = λ k stands.
    let read = c.in-Ok.ensures.reads in
    let views = read.taken.views k stands in
    rw (c.kernel-1.given.1 (sym read.taken.same_kernel), c.screen-1.given.1 (sym read.taken.same_screen))
    (views_to views read.few (fits_so (Some c.in-Ok.ending) views.given.fits read.read))

pub returns-in-Err-Some-clause-views : goal.returns-in-Err-Some-clause-views
returns-in-Err-Some-clause-views g c = λ k stands.
    let read = rw (c.in-Err-Some.field-0-is) at c.in-Err-Some.ensures.reads in
    let views = read.taken.views k stands in
    rw (c.kernel-1.given.1 (sym read.taken.same_kernel), c.screen-1.given.1 (sym read.taken.same_screen))
    (views_to views read.few (stops_so c.in-Err-Some.unfit.step views.given.fits read.read))

pub returns-in-Err-None-clause-views : goal.returns-in-Err-None-clause-views
returns-in-Err-None-clause-views g c = λ k stands.
    let read = rw (c.in-Err-None.field-0-is) at c.in-Err-None.ensures.reads in
    let views = read.taken.views k stands in
    rw (c.kernel-1.given.1 (sym read.taken.same_kernel), c.screen-1.given.1 (sym read.taken.same_screen))
    (views_to views read.few (fits_so None views.given.fits read.read))
