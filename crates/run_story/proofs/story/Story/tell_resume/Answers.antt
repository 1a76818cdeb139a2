use Rattle.std.proofs.Common.{◌≡◌, Some, refl, sym, subst}
use Rattle.run_story.specs.Telling.{AddsOutcome}
use Rattle.run_story.specs.Told.{ByResume, Outcome}
use Rattle.run_story.proofs.StoryMore.{resume_is}
use Rattle.run_story.proofs.story.Story.tell_resume.Goals as goal

pub returns-then-asking-ctx-clause-adds : goal.returns-then-asking-ctx-clause-adds
returns-then-asking-ctx-clause-adds c =
    let is : c.args.asked ≡ Some c.in-Some.field-0 = cc in
    let same : c.args.asking.ctx ≡ c.in-Some.field-0.ctx = cc in
    subst (λ (o : Outcome). AddsOutcome o c.args.step c.args.self.now c.tell_end.new.self c.tell_end.result)
    (sym (resume_is c.args.asking c.args.why c.args.asked c.in-Some.field-0 is same))
    (c.tell_end.ensures.adds c.args.step (ByResume c.args.asking c.args.why) refl)
