use Rattle.std.proofs.Common.{refl, sym}
use Rattle.cloak_model.specs.KernelAlone.{kernel_alone}
use Rattle.read_back.proofs.Shown.{view_broke, view_whole, view_cut}
use Rattle.read_back.proofs.view.view_record.Goals as goal

pub returns-then-screen-clause-shows : goal.returns-then-screen-clause-shows
returns-then-screen-clause-shows g c = λ k stands.
    view_broke g.S.Shelf g.O.Sink (c.read_kernel-ended.ensures.views k stands) refl c.if-screen.true refl
    (c.out-1.given.1 (sym c.read_kernel-ended.ensures.same_out))

pub returns-in-Ok-clause-shows : goal.returns-in-Ok-clause-shows
returns-in-Ok-clause-shows g c = λ k stands.
    let views = c.in-Some.ensures.views k stands in
    view_whole g.S.Shelf g.O.Sink _ views refl c.if-screen.false refl
    (c.out-1.given.1 (sym c.read_kernel-ended.ensures.same_out))
    (c.in-Ok.ensures k.schedule (kernel_alone k views.items) views.stands views.few) c.status.ensures

pub returns-in-Err-clause-shows : goal.returns-in-Err-clause-shows
returns-in-Err-clause-shows g c = λ k stands.
    let views = c.in-Some.ensures.views k stands in
    view_cut g.S.Shelf g.O.Sink _ views refl c.if-screen.false refl
    (c.out-1.given.1 (sym c.read_kernel-ended.ensures.same_out))
    (c.in-Err.ensures k.schedule (kernel_alone k views.items) views.stands views.few)
