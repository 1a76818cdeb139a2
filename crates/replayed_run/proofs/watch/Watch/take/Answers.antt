use Rattle.std.proofs.Common.{◌≡◌, [], ◌∷◌, ◌++◌, ◌∙◌, ap, sym, subst}
use Rattle.cloak_model.specs.Items.{item_of}
use Rattle.alone_views.specs.declared.asked.AskedAccess.{AskedAccess}
use Rattle.replayed_run.specs.Machines.{StandAlone, TookItem}
use Rattle.replayed_run.specs.Noted.{notes_after}
use Rattle.replayed_run.specs.PagesTold.{PagesTold, paged_in, pages_of, showing_in}
use Rattle.replayed_run.specs.Questions.{question_for, questions_after}
use Rattle.replayed_run.specs.Watching.{notes_of}
use Rattle.replayed_run.specs.declared.machines.Machines.{Machines}
use Rattle.replayed_run.specs.declared.notes.Notes.{Notes}
use Rattle.replayed_run.specs.declared.pages.Pages.{Pages}
use Rattle.replayed_run.specs.declared.questions.Questions.{Questions}
use Rattle.replayed_run.proofs.NotedMore.{asked_more, watches_more}
use Rattle.replayed_run.proofs.watch.Watch.take.Goals as goal

pub returns-clause-takes : goal.returns-clause-takes
returns-clause-takes c = λ b items is watched.
    let i = item_of c.args.item.now in
    let now = items ++ i ∷ [] in
    let was = c.args.self.now.questions in
    let took : TookItem b items i c.take.new.self = c.in_ok-take.ensures b items is watched.machines in
    let asked : c.after-questions.result ≡ questions_after was (question_for b items was.answers i) i =
    c.after-questions.ensures
    ∙ ap (λ (q : AskedAccess). questions_after was q i) (c.question_for-question.ensures b items watched.machines) in
    let questions = asked_more b items i was c.after-questions.result watched.questions asked in
    let paged = c.note_page-showing.ensures.pages b items (record {
      machines = took.stands;
      notes = watched.notes;
      question = ap (λ (q : Questions). q.last) questions;
    }) in
    let run = c.note_page-showing.ensures.run in
    let noted = c.note.ensures.notes b items (record {
      took = subst (λ (m : Machines). TookItem b items i m) (sym run.machines) took;
      stage = sym (c.stage-stage.ensures b items watched.machines);
    }) in
    watches_more b items i c.args.self.now (record c.note.new.self { questions = c.after-questions.result }) watched
    (subst (λ (m : Machines). StandAlone b now m) (sym (c.note.ensures.machines ∙ run.machines)) took.stands)
    (noted ∙ ap (λ (n : Notes). notes_after b items now n i) run.notes) asked
    (ap (λ (p : Pages). pages_of p) c.note.ensures.pages ∙ paged)

pub returns-clause-shows : goal.returns-clause-shows
returns-clause-shows c = λ b items is watched.
    let i = item_of c.args.item.now in
    c.note_page-showing.ensures.shows
    ∙ (ap (λ (p : PagesTold). showing_in p (notes_of c.args.self.now).step i) watched.pages
    ∙ ap (λ (n : Notes). showing_in (paged_in b items).pages n.step i) watched.notes)
