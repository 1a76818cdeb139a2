use Rattle.std.proofs.Common.{◌≡◌, ◌∙◌, true, false, sym}
use Rattle.run_command.proofs.ClashFacts.{run_unclashed}
use Rattle.run_command.proofs.OutletFacts.{emits_failed, gave_all}
use Rattle.cloak_model.proofs.Emitting.{some_then}
use Rattle.run_command.proofs.RunFacts.{writes-front, writes-whole}
use Rattle.run_command.proofs.run.write_run.Goals as goal

pub returns-then-outlet-clause-runs : goal.returns-then-outlet-clause-runs
returns-then-outlet-clause-runs g c = λ b from o opens same stands none.
    writes-front _ b _ o
    (c.write_steps-stopped.ensures.runs b from o opens same stands (run_unclashed b c.args.steps o none))
    c.if-outlet.true (λ ps. emits_failed _ _ _ ps c.if-outlet.true)

pub returns-then-outlet-clause-some_stop : goal.returns-then-outlet-clause-some_stop
returns-then-outlet-clause-some_stop g c = λ unfailed.
    absurd (let clash : true ≡ false = sym c.if-outlet.true ∙ unfailed in cc)

pub returns-clause-runs : goal.returns-clause-runs
returns-clause-runs g c = λ b from o opens same stands none.
    writes-whole b _ o
    (c.write_steps-stopped.ensures.runs b from o opens same stands (run_unclashed b c.args.steps o none))
    c.if-outlet.false c.unwrap_or.ensures c.write_end.ensures.ends

pub returns-clause-emits_some : goal.returns-clause-emits_some
returns-clause-emits_some g c = some_then c.write_steps-stopped.ensures.emits_some c.write_end.ensures.emits_some

pub returns-clause-same_shelf : goal.returns-clause-same_shelf
returns-clause-same_shelf g c = let given = gave_all (returns-clause-emits_some g c).1 in given.shelf

pub returns-clause-same_out : goal.returns-clause-same_out
returns-clause-same_out g c = let given = gave_all (returns-clause-emits_some g c).1 in given.output
