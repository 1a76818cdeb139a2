use Rattle.std.proofs.Common.{◌∙◌, ap, sym, Option}
use Rattle.replayed_run.specs.PagesTold.{after_grant, pages_of}
use Rattle.replayed_run.specs.declared.frames.PresentedPage.{PresentedPage}
use Rattle.replayed_run.proofs.watch.Watch.note_grant.Goals as goal

pub returns-in-Some-clause-pages : goal.returns-in-Some-clause-pages
returns-in-Some-clause-pages c = λ b items stand.
    let p = pages_of c.args.self.now.pages in
    c.reach.ensures
    ∙ ap (λ (o : Option PresentedPage). after_grant o p) (sym c.in-Some.is ∙ c.presented.ensures b items stand)
