use Rattle.std.proofs.Common.{refl, sym, subst}
use Rattle.run_story.specs.Telling.{AddsOutcome, due_of}
use Rattle.run_story.specs.Told.{ByQuestion, Violated, end_outcome}
use Rattle.run_story.specs.declared.presented.Target.{Target}
use Rattle.run_story.specs.declared.story.Story.{Story}
use Rattle.run_story.proofs.StoryMore.{adds_from}
use Rattle.run_story.proofs.story.Story.note_ended.Goals as goal

pub returns-in-Question-clause-adds : goal.returns-in-Question-clause-adds
returns-in-Question-clause-adds c =
    let met = ByQuestion c.args.step c.in-Question.ctx in
    let mid : Story = record c.args.self.now { ended = c.set_ended.new.ended } in
    subst (λ (t : Target). AddsOutcome (end_outcome c.args.step (due_of t)) c.args.step c.args.self.now
    c.tell_end.new.self c.tell_end.result) (sym c.in-Question.is)
    (adds_from (Violated met) c.args.step c.args.self.now mid
    c.tell_end.new.self c.tell_end.result refl refl
    (c.tell_end.ensures.adds c.args.step met refl))
