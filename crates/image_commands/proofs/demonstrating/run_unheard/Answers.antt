use Rattle.std.proofs.Common.{◌∙◌, ap, ◌+◌, ℕ, arith}
use Rattle.run_command.proofs.StepFacts.{unclashed-next, goes_on-start, goes_on-more, stops-more, runs-all}
use Rattle.image_commands.proofs.demonstrating.run_unheard.Goals as goal

pub loop-made-init : goal.loop-made-init
loop-made-init c = record {
  made = c.requires.fresh;
  runs = λ m stands none. goes_on-start _ _ m stands;
}

pub loop-made-preserved : goal.loop-made-preserved
loop-made-preserved c = record {
  made = c.step.ensures.steps ∙ ap (λ (n : ℕ). n + 1) c.loop-made.invariant.made;
  runs = λ m stands none.
      let on = c.loop-made.invariant.runs m stands none in
      let makes = c.step.ensures.makes _ on.stands (unclashed-next _ _ _ _ on c.loop-made-test.true none) in
      goes_on-more _ _ _ _ _ m on makes.answer makes.stands c.loop-made-test.true c.in_default.is;
}

pub returns-in-Some : goal.returns-in-Some
returns-in-Some c = λ m stands none.
    let on = c.loop-made.invariant.runs m stands none in
    let makes = c.step.ensures.makes _ on.stands (unclashed-next _ _ _ _ on c.loop-made-test.true none) in
    stops-more _ _ _ _ _ _ m on makes.answer makes.stands c.in-Some.is c.loop-made-test.true

pub returns : goal.returns
returns c = λ m stands none.
    runs-all _ c.args.steps c.loop-made.made m (c.loop-made.invariant.runs m stands none)
    (let low = c.loop-made-test.false in let high = c.loop-made.auto.made-end in omega (arith, low, high))
