use Rattle.std.proofs.Common.{◌≡◌, ◌∙◌, None, ap, arith, not, refl, sym, subst, slice_index_or}
use Rattle.cloak_model.specs.Contexts.{domain_of}
use Rattle.run_story.specs.Telling.{GrewBy}
use Rattle.run_story.specs.Told.{OfNone, Outcome, Violated, none_outcome}
use Rattle.run_story.proofs.StoryMore.{none_ended, none_past}
use Rattle.run_story.proofs.story.Story.tell_none.Goals as goal
use Rattle.run_story.proofs.story.Story.tell_none.Goals.{else-is_none-via-then-is_none+else-has_program, else-is_none-via-else-is_none}

pub returns-in-Ok-clause-adds : goal.returns-in-Ok-clause-adds
returns-in-Ok-clause-adds c = λ b items watches.
    let is : none_outcome b c.args.step c.args.asked (slice_index_or c.args.self.now.ended (domain_of c.args.asked.ctx) None)
    ≡ Violated (OfNone c.args.step c.args.asked c.ended_at-ended.result) =
    elim c.else-is_none.branch [
      | else-is_none-via-then-is_none+else-has_program w ↦ none_past b c.args.step c.args.asked _ _ c.ended_at-ended.ensures
          (sym (w.has_program.ensures b items watches) ∙ w.if-has_program.false)
      | else-is_none-via-else-is_none w ↦ none_ended b c.args.step c.args.asked _ _ c.ended_at-ended.ensures
          (c.is_none.ensures ∙ ap not w.if-is_none.false)
    ] in
    subst (λ (o : Outcome). GrewBy o c.args.self.now c.tell.new.self) (sym is) (record {
      text = (_, c.in-Ok.ensures.text, refl);
      refused = omega (arith, c.in-Ok.ensures.same.refused);
    })
