use Rattle.std.proofs.Common.{◌∙◌, ap}
use Rattle.run_command.specs.Running.{status_of}
use Rattle.run_command.proofs.OutletFacts.{gave_all}
use Rattle.cloak_model.proofs.Emitting.{some_then}
use Rattle.run_command.proofs.RunFacts.{ends_run}
use Rattle.run_command.proofs.run.write_end.Goals as goal

pub returns-clause-ends : goal.returns-clause-ends
returns-clause-ends g c =
    λ m stands. ends_run (c.finish-end.ensures.ends m stands) c.show.ensures.emits c.report.ensures.emits
    (c.stop_status.ensures ∙ ap (status_of c.finish-end.result.stop) c.is_refused.ensures)

pub returns-clause-same_shelf : goal.returns-clause-same_shelf
returns-clause-same_shelf g c = let given =
    gave_all c.finish-end.ensures.emits_some.1 in c.report.ensures.same_shelf ∙
    (c.show.ensures.same_shelf ∙ given.shelf)

pub returns-clause-same_out : goal.returns-clause-same_out
returns-clause-same_out g c = let given =
    gave_all c.finish-end.ensures.emits_some.1 in c.report.ensures.same_out ∙ (c.show.ensures.same_out ∙ given.output)

pub returns-clause-emits_some : goal.returns-clause-emits_some
returns-clause-emits_some g c =
    some_then c.finish-end.ensures.emits_some (some_then (_, c.show.ensures.emits) (_, c.report.ensures.emits))

pub returns-clause-some_stop : goal.returns-clause-some_stop
returns-clause-some_stop g c = (c.finish-end.result.stop, c.is_refused.result, c.stop_status.ensures)
