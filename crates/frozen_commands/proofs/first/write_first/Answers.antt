use Rattle.run_command.proofs.OutletFacts.{emits_failed, gave_all}
use Rattle.cloak_model.proofs.Emitting.{some_then}
use Rattle.frozen_commands.proofs.FirstFacts.{first_ended, first_front, first_reached, first_unended}
use Rattle.frozen_commands.proofs.first.write_first.Goals as goal

pub returns-then-outlet-clause-writes : goal.returns-then-outlet-clause-writes
returns-then-outlet-clause-writes g c = λ b from o opens same stands none.
    first_front b c.args.steps o (c.write_steps-stopped.ensures.runs b from o opens same stands none) c.if-outlet.true
    (λ ps. emits_failed _ _ _ ps c.if-outlet.true)

pub returns-in_default-clause-writes : goal.returns-in_default-clause-writes
returns-in_default-clause-writes g c = λ b from o opens same stands none.
    first_reached b c.args.steps o (c.write_steps-stopped.ensures.runs b from o opens same stands none) c.if-outlet.false
    c.in_default.is

pub returns-then-outlet-2-clause-emits_some : goal.returns-then-outlet-2-clause-emits_some
returns-then-outlet-2-clause-emits_some g c =
    some_then c.write_steps-stopped.ensures.emits_some c.write_end-status.ensures.emits_some

pub returns-then-outlet-2-clause-same_shelf : goal.returns-then-outlet-2-clause-same_shelf
returns-then-outlet-2-clause-same_shelf g c =
    let given = gave_all (returns-then-outlet-2-clause-emits_some g c).1 in given.shelf

pub returns-then-outlet-2-clause-same_out : goal.returns-then-outlet-2-clause-same_out
returns-then-outlet-2-clause-same_out g c =
    let given = gave_all (returns-then-outlet-2-clause-emits_some g c).1 in given.output

pub returns-then-outlet-2-clause-writes : goal.returns-then-outlet-2-clause-writes
returns-then-outlet-2-clause-writes g c = λ b from o opens same stands none.
    first_unended (first_ended b c.args.steps o (c.write_steps-stopped.ensures.runs b from o opens same stands none)
    c.if-outlet.false c.in-Some.is c.write_end-status.ensures.ends)

pub returns-clause-emits_some : goal.returns-clause-emits_some
returns-clause-emits_some g c =
    some_then c.write_steps-stopped.ensures.emits_some c.write_end-status.ensures.emits_some

pub returns-clause-same_shelf : goal.returns-clause-same_shelf
returns-clause-same_shelf g c = let given = gave_all (returns-clause-emits_some g c).1 in given.shelf

pub returns-clause-same_out : goal.returns-clause-same_out
returns-clause-same_out g c = let given = gave_all (returns-clause-emits_some g c).1 in given.output

pub returns-clause-writes : goal.returns-clause-writes
returns-clause-writes g c = λ b from o opens same stands none.
    first_ended b c.args.steps o (c.write_steps-stopped.ensures.runs b from o opens same stands none) c.if-outlet.false
    c.in-Some.is c.write_end-status.ensures.ends
