use Rattle.cloak_model.specs.Run.{first_moment, turns_from}
use Rattle.run_command.proofs.ClashFacts.{run_unclashed}
use Rattle.run_command.proofs.OutletFacts.{emits_failed, gave_all}
use Rattle.cloak_model.proofs.Emitting.{some_then}
use Rattle.store_command.proofs.RunFacts.{first_front, first_unended, first_whole, place_after}
use Rattle.store_command.proofs.run.write_first.Goals as goal
use Rattle.record_law.specs.Steps.{moment_after}

pub returns-then-outlet-clause-writes : goal.returns-then-outlet-clause-writes
returns-then-outlet-clause-writes g c = λ b from o opened none.
    first_front _ _ b c.args.steps o
    (c.write_steps-stopped.ensures.runs b from o opened.opens opened.placings opened.stands
    (run_unclashed b c.args.steps o none)) (λ ps. emits_failed _ _ _ ps c.if-outlet.true)

pub returns-then-outlet-2-clause-emits_some : goal.returns-then-outlet-2-clause-emits_some
returns-then-outlet-2-clause-emits_some g c =
    some_then c.write_steps-stopped.ensures.emits_some c.finish-end.ensures.emits_some

pub returns-then-outlet-2-clause-same_shelf : goal.returns-then-outlet-2-clause-same_shelf
returns-then-outlet-2-clause-same_shelf g c =
    let given = gave_all (returns-then-outlet-2-clause-emits_some g c).1 in given.shelf

pub returns-then-outlet-2-clause-same_out : goal.returns-then-outlet-2-clause-same_out
returns-then-outlet-2-clause-same_out g c =
    let given = gave_all (returns-then-outlet-2-clause-emits_some g c).1 in given.output

pub returns-then-outlet-2-clause-writes : goal.returns-then-outlet-2-clause-writes
returns-then-outlet-2-clause-writes g c = λ b from o opened none.
    let begins = c.write_steps-stopped.ensures.runs b from o opened.opens opened.placings opened.stands
    (run_unclashed b c.args.steps o none) in
    first_unended (first_whole b c.args.steps o begins c.if-outlet.false c.unwrap_or.ensures
    (c.finish-end.ensures.ends
    (moment_after (first_moment b o.joint) (turns_from c.args.steps (first_moment b o.joint)))
    (begins.made c.if-outlet.false).stands (place_after c.args.steps opened)))

pub returns-clause-emits_some : goal.returns-clause-emits_some
returns-clause-emits_some g c =
    some_then c.write_steps-stopped.ensures.emits_some c.finish-end.ensures.emits_some

pub returns-clause-same_shelf : goal.returns-clause-same_shelf
returns-clause-same_shelf g c = let given = gave_all (returns-clause-emits_some g c).1 in given.shelf

pub returns-clause-same_out : goal.returns-clause-same_out
returns-clause-same_out g c = let given = gave_all (returns-clause-emits_some g c).1 in given.output

pub returns-clause-writes : goal.returns-clause-writes
returns-clause-writes g c = λ b from o opened none.
    let begins = c.write_steps-stopped.ensures.runs b from o opened.opens opened.placings opened.stands
    (run_unclashed b c.args.steps o none) in
    first_whole b c.args.steps o begins c.if-outlet.false c.unwrap_or.ensures
    (c.finish-end.ensures.ends
    (moment_after (first_moment b o.joint) (turns_from c.args.steps (first_moment b o.joint)))
    (begins.made c.if-outlet.false).stands (place_after c.args.steps opened))
