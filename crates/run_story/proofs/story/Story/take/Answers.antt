use Rattle.std.proofs.Common.{[], ◌∷◌, ◌++◌, ap, sym, subst}
use Rattle.cloak_model.specs.Items.{item_of}
use Rattle.replayed_run.specs.Watching.{Watches}
use Rattle.replayed_run.specs.declared.watch.Watch.{Watch}
use Rattle.run_story.specs.Telling.{LacksNext}
use Rattle.run_story.specs.declared.story.Story.{Story}
use Rattle.run_story.specs.declared.untold.Untold.{Untold}
use Rattle.run_story.proofs.StoryMore.{lacks_unfit, notes_next, story_takes}
use Rattle.run_story.proofs.story.Story.take.Goals as goal

pub returns-in-Ok : goal.returns-in-Ok
returns-in-Ok c = λ b told items is count tells.
    let same = c.note_ending.ensures.same in
    let watches = subst (λ (w : Watch). Watches b items w) (sym (ap (λ (s : Story). s.watch) same)) tells.knows.watches in
    let took = c.in-Ok.ensures.takes b items is watches in
    story_takes b told items (item_of c.args.item.now) c.step-step.result c.args.self.now
    (record c.note_ending.new.self { watch = c.take.new.self }) c.note.new.self c.note.result tells
    (record {
      at = c.step-step.ensures;
      due = c.note_ending.ensures.due b items tells.knows.watches;
      ended = ap (λ (s : Story). s.ended) same;
      refused = ap (λ (s : Story). s.refused) same;
      text = ap (λ (s : Story). s.text) same;
      watches = took;
    })
    (notes_next b items (item_of c.args.item.now) c.step-step.result c.args.before
    (record c.note_ending.new.self { watch = c.take.new.self }) c.note.new.self c.note.result count
    (c.note.ensures b (items ++ (item_of c.args.item.now) ∷ []) took))

pub returns-in-Err : goal.returns-in-Err
returns-in-Err c = λ b told items is count tells.
    let same = ap (λ (s : Story). s.watch) c.note_ending.ensures.same in
    let watches = subst (λ (w : Watch). Watches b items w) (sym same) tells.knows.watches in
    subst (λ (u : Untold). LacksNext b items (item_of c.args.item.now) u) (sym c.unfit.ensures)
    (lacks_unfit b items (item_of c.args.item.now) c.args.self.now c.in-Err.at.step tells.knows (c.in-Err.ensures.takes b items is watches))
