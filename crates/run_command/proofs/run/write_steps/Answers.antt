use Rattle.cloak_model.specs.Run.{first_moment}
use Rattle.run_command.proofs.OutletFacts.{gave_all}
use Rattle.cloak_model.proofs.Emitting.{some_then}
use Rattle.run_command.proofs.RunFacts.{begins_run}
use Rattle.run_command.proofs.run.write_steps.Goals as goal

pub returns-clause-runs : goal.returns-clause-runs
returns-clause-runs g c = λ b from o opens same stands none.
    let shows = c.opening.ensures.shows b from o opens same stands in
    begins_run c.append.ensures.emits shows (c.run_steps.ensures.runs (first_moment b o.joint) shows.stands none)

pub returns-clause-emits_some : goal.returns-clause-emits_some
returns-clause-emits_some g c =
    some_then (_, c.append.ensures.emits) (some_then c.opening.ensures.emits_some c.run_steps.ensures.emits_some)

pub returns-clause-same_shelf : goal.returns-clause-same_shelf
returns-clause-same_shelf g c = let given = gave_all (returns-clause-emits_some g c).1 in given.shelf

pub returns-clause-same_out : goal.returns-clause-same_out
returns-clause-same_out g c = let given = gave_all (returns-clause-emits_some g c).1 in given.output
