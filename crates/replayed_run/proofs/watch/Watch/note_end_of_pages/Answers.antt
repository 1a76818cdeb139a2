use Rattle.std.proofs.Common.{◌∙◌, ap, sym, Option}
use Rattle.replayed_run.specs.PagesTold.{after_leave, pages_of}
use Rattle.replayed_run.specs.declared.machines.StandingContext.{StandingContext}
use Rattle.replayed_run.proofs.watch.Watch.note_end_of_pages.Goals as goal

pub returns-in-Some-clause-pages : goal.returns-in-Some-clause-pages
returns-in-Some-clause-pages c = λ b items stand.
    let p = pages_of c.args.self.now.pages in
    ap (λ (o : Option StandingContext). after_leave b items c.args.ctx o p) (sym c.in-Some.is ∙ c.context.ensures b items stand)

pub returns-in-None-clause-pages : goal.returns-in-None-clause-pages
returns-in-None-clause-pages c = λ b items stand.
    let p = pages_of c.args.self.now.pages in
    c.forget.ensures b items stand
    ∙ ap (λ (o : Option StandingContext). after_leave b items c.args.ctx o p) (sym c.in-None.is ∙ c.context.ensures b items stand)
