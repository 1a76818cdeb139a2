use Rattle.std.proofs.Common.{◌∙◌, true, sym, ap}
use Rattle.alone_views.specs.KernelStages.{stood_stage}
use Rattle.replayed_run.specs.declared.contexts.ToldContexts.{ToldContexts}
use Rattle.replayed_run.specs.declared.notes.Notes.{Notes}
use Rattle.replayed_run.proofs.NotedMore.{resumed_told}
use Rattle.replayed_run.proofs.watch.Watch.note_resume.Goals as goal

pub returns-in-Some-clause-notes : goal.returns-in-Some-clause-notes
returns-in-Some-clause-notes c = λ b items stand.
    let n = c.args.self.now.notes in
    let with_contexts : ToldContexts → Notes =
    λ t. record n { has_resumed = true; contexts = t } in
    ap with_contexts (c.resume.ensures
    ∙ resumed_told b items n c.args.ctx c.in-Outside.hart c.in-Some.context c.words_of-satp.result
    (sym (c.stage.ensures b items stand) ∙ ap stood_stage c.in-Outside.is)
    (sym (c.context.ensures b items stand) ∙ c.in-Some.is) (c.words_of-satp.ensures b items stand))
