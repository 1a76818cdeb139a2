use Rattle.std.proofs.Common.{[], ◌∙◌, ◌≡◌, ◌+◌, ◌-◌, ◌<◌, ◌≤◌, ℕ, List, refl, subst, arith}
use Rattle.cloak_model.specs.Exchange.{Piece}
use Rattle.cloak_model.specs.Joint.{Moment}
use Rattle.cloak_machine.specs.declared.machine.Machine.{Machine}
use Rattle.run_command.proofs.OutletFacts.{gave_all, emits_failed}
use Rattle.cloak_model.proofs.Emitting.{emits_none, some_then}
use Rattle.run_command.proofs.RunFacts.{GoesOn, unclashed-next, goes_on-start, goes_on-more}
use Rattle.run_command.proofs.RunFacts.{runs-all, runs-failed, stops-more}
use Rattle.run_command.proofs.run.run_steps.Goals as goal

-- the same number of steps under another name
as_many : {E : Type 0} {gave : E → E → List Piece → Type 0} {e f : E} {machine : Machine} {n k budget : ℕ}
    {m : Moment} → n ≡ k → GoesOn gave e f machine n budget m → GoesOn gave e f machine k budget m
as_many {E} {gave} {e} {f} {machine} {n} {k} {budget} {m} same on =
    subst (λ (number : ℕ). GoesOn gave e f machine number budget m) same on

-- some steps are left, so that fewer than all were made
fewer : (left steps : ℕ) → 0 < left → left ≤ steps → steps - left < steps
fewer left steps some few = omega (arith, some, few)

-- and one more was made after the next
one_more : (left steps : ℕ) → 0 < left → left ≤ steps → steps - left + 1 ≡ steps - (left - 1)
one_more left steps some few = omega (arith, some, few)

pub loop-left-init : goal.loop-left-init
loop-left-init g c = record {
  same_shelf = refl;
  same_out = refl;
  few = omega arith;
  made = refl;
  some = ([], emits_none _ _);
  runs = λ m stands none.
      as_many (let none : 0 ≡ c.args.steps - c.args.steps = omega arith in none) (goes_on-start _ _ _ _ m stands);
}

pub loop-left-preserved : goal.loop-left-preserved
loop-left-preserved g c =
    let given = gave_all c.step.ensures.emits_some.1 in
    let so_far = c.loop-left.invariant.made in
    let few = c.loop-left.invariant.few in
    let some_left = c.loop-left-test.true in
    let within = fewer _ _ some_left few in
    record {
      same_shelf = given.shelf ∙ c.loop-left.invariant.same_shelf;
      same_out = given.output ∙ c.loop-left.invariant.same_out;
      few = omega (arith, few);
      made = (let one = c.step.ensures.steps in omega (arith, so_far, one, some_left));
      some = some_then c.loop-left.invariant.some c.step.ensures.emits_some;
      runs = λ m stands none.
          let on = c.loop-left.invariant.runs m stands none in
          as_many (one_more _ _ some_left few) (goes_on-more _ _ _ _ _ _ c.step.result _ _ m on
          (c.step.ensures.makes _ on.stands (unclashed-next _ _ _ _ _ _ _ on within none)) within c.in_default.is);
    }

pub returns-then-outlet-clause-runs : goal.returns-then-outlet-clause-runs
returns-then-outlet-clause-runs g c = λ m stands none.
    runs-failed _ _ _ _ _ _ _ _ m (c.loop-left.invariant.runs m stands none) c.if-outlet.true
    (λ ps. emits_failed _ _ _ ps c.if-outlet.true)

pub returns-in-Some-clause-runs : goal.returns-in-Some-clause-runs
returns-in-Some-clause-runs g c = λ m stands none.
    let on = c.loop-left.invariant.runs m stands none in
    let within = fewer _ _ c.loop-left-test.true c.loop-left.invariant.few in
    stops-more _ _ _ _ _ _ _ c.step.result c.in-Some.stop _ c.args.steps m on
    (c.step.ensures.makes _ on.stands (unclashed-next _ _ _ _ _ _ _ on within none)) c.in-Some.is within

pub returns-in-Some-clause-emits_some : goal.returns-in-Some-clause-emits_some
returns-in-Some-clause-emits_some g c = some_then c.loop-left.invariant.some c.step.ensures.emits_some

pub returns-clause-runs : goal.returns-clause-runs
returns-clause-runs g c =
    λ m stands none. runs-all _ _ _ _ _ c.args.steps _ m (c.loop-left.invariant.runs m stands none)
    (let over = c.loop-left-test.false in omega (arith, over))

pub returns-in-Some-clause-same_shelf : goal.returns-in-Some-clause-same_shelf
returns-in-Some-clause-same_shelf g c = let given =
    gave_all c.step.ensures.emits_some.1 in given.shelf ∙ c.loop-left.invariant.same_shelf

pub returns-in-Some-clause-same_out : goal.returns-in-Some-clause-same_out
returns-in-Some-clause-same_out g c = let given =
    gave_all c.step.ensures.emits_some.1 in given.output ∙ c.loop-left.invariant.same_out
