use Rattle.std.proofs.Common.{◌≤◌, ℕ, List, Option, Some, IfSome, slice_index, ap, subst, sym, ◌∙◌}
use Rattle.run_story.specs.Deeds.{change_at, changed_places}
use Rattle.run_story.specs.Seeing.{change_more}
use Rattle.run_story.specs.declared.deeds.FrameChange.{FrameChange}
use Rattle.run_story.proofs.DeedsMore.{change_counts, change_step, few_places, no_places, place_differs, place_same}
use Rattle.run_story.proofs.deeds.difference.Goals as goal
use Rattle.run_story.proofs.deeds.difference.Goals.{then-was-now, else-was-now}

pub loop-place-init : goal.loop-place-init
loop-place-init c =
    ap (λ (l : List ℕ). change_at c.args.old.now c.args.new.now l) (sym (no_places c.args.old.now c.args.new.now))

pub changed-requires-clause-count : goal.changed-requires-clause-count
changed-requires-clause-count c =
    let old = c.args.old.now in
    let new = c.args.new.now in
    let n = c.loop-place.place in
    subst (λ (o : Option FrameChange). IfSome o (λ change. change.count ≤ n)) (sym c.loop-place.invariant)
    (change_counts old new (changed_places old new n) n (few_places old new n))

pub loop-place-preserved : goal.loop-place-preserved
loop-place-preserved c =
    let old = c.args.old.now in
    let new = c.args.new.now in
    let n = c.loop-place.place in
    elim c.if-was-now.branch [
      | then-was-now w ↦ w.change-is
          ∙ (ap (λ (f : FrameChange). Some f) w.changed.ensures
          ∙ (ap (λ (o : Option FrameChange). Some (change_more o n (slice_index old n) (slice_index new n)))
          c.loop-place.invariant
          ∙ (change_step old new (changed_places old new n) n
          ∙ ap (λ (l : List ℕ). change_at old new l) (sym (place_differs old new n w.if-was-now.true)))))
      | else-was-now w ↦ w.change-is
          ∙ (c.loop-place.invariant
          ∙ ap (λ (l : List ℕ). change_at old new l) (sym (place_same old new n w.if-was-now.false)))
    ]
