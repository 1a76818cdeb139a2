use Rattle.std.proofs.Common.{◌∙◌, ap, ◌+◌, ℕ, arith}
use Rattle.run_command.proofs.StepFacts.{unclashed-next, goes_on-start, goes_on-more, stops-more, runs-all}
use Rattle.stats_command.proofs.CountFacts.{counts-all, counts-more, counts-start, counts-stopped}
use Rattle.stats_command.proofs.counting.run_counted.Goals as goal

pub loop-made-init : goal.loop-made-init
loop-made-init c = record {
  made = c.requires.fresh;
  runs = λ m stands none. goes_on-start _ _ m stands;
  counts = λ m s stands counts none. counts-start _ c.args.steps m s counts;
}

pub loop-made-preserved : goal.loop-made-preserved
loop-made-preserved c = record {
  made = c.step.ensures.steps ∙ ap (λ (n : ℕ). n + 1) c.loop-made.invariant.made;
  runs = λ m stands none.
      let on = c.loop-made.invariant.runs m stands none in
      let makes = c.step.ensures.makes _ on.stands (unclashed-next _ _ _ _ on c.loop-made-test.true none) in
      goes_on-more _ _ _ _ _ m on makes.answer makes.stands c.loop-made-test.true c.in_default.is;
  counts = λ m s stands counts none.
      let on = c.loop-made.invariant.runs m stands none in
      let calm = unclashed-next _ _ _ _ on c.loop-made-test.true none in
      counts-more _ _ _ _ m s on c.loop-made-test.true (c.loop-made.invariant.counts m s stands counts none)
      (λ x so_far. c.step.ensures.counts _ x on.stands so_far calm);
}

pub returns-in-Some-clause-makes : goal.returns-in-Some-clause-makes
returns-in-Some-clause-makes c = λ m stands none.
    let on = c.loop-made.invariant.runs m stands none in
    let makes = c.step.ensures.makes _ on.stands (unclashed-next _ _ _ _ on c.loop-made-test.true none) in
    stops-more _ _ _ _ _ _ m on makes.answer makes.stands c.in-Some.is c.loop-made-test.true

pub returns-in-Some-clause-counts : goal.returns-in-Some-clause-counts
returns-in-Some-clause-counts c = λ m s stands counts none.
    let on = c.loop-made.invariant.runs m stands none in
    let calm = unclashed-next _ _ _ _ on c.loop-made-test.true none in
    let makes = c.step.ensures.makes _ on.stands calm in
    counts-stopped _ _ _ _ _ _ m s on makes.answer c.in-Some.is c.loop-made-test.true
    (c.loop-made.invariant.counts m s stands counts none)
    (λ x so_far. c.step.ensures.counts _ x on.stands so_far calm)

pub returns-clause-makes : goal.returns-clause-makes
returns-clause-makes c = λ m stands none.
    runs-all _ c.args.steps c.loop-made.made m (c.loop-made.invariant.runs m stands none)
    (let low = c.loop-made-test.false in let high = c.loop-made.auto.made-end in omega (arith, low, high))

pub returns-clause-counts : goal.returns-clause-counts
returns-clause-counts c = λ m s stands counts none.
    counts-all _ c.loop-made.made c.args.steps m s (c.loop-made.invariant.runs m stands none)
    (let low = c.loop-made-test.false in let high = c.loop-made.auto.made-end in omega (arith, low, high))
    (c.loop-made.invariant.counts m s stands counts none)
