use Rattle.std.proofs.Common.{◌≡◌, ◌∙◌, true, false, sym}
use Rattle.frozen_state.specs.Continuing.{next_moment}
use Rattle.run_command.proofs.OutletFacts.{emits_failed, gave_all}
use Rattle.cloak_model.proofs.Emitting.{some_then}
use Rattle.frozen_commands.proofs.RestFacts.{rest_front, rest_unclashed, rest_whole}
use Rattle.frozen_commands.proofs.rest.write_rest.Goals as goal

pub returns-then-outlet-clause-writes : goal.returns-then-outlet-clause-writes
returns-then-outlet-clause-writes g c = λ b n j stands none.
    rest_front _ b n j c.args.steps
    (c.run_steps-stopped.ensures.runs (next_moment b n j) stands (rest_unclashed b n j c.args.steps none))
    c.if-outlet.true (λ ps. emits_failed _ _ _ ps c.if-outlet.true)

pub returns-then-outlet-clause-some_stop : goal.returns-then-outlet-clause-some_stop
returns-then-outlet-clause-some_stop g c = λ unfailed.
    absurd (let clash : true ≡ false = sym c.if-outlet.true ∙ unfailed in cc)

pub returns-clause-writes : goal.returns-clause-writes
returns-clause-writes g c = λ b n j stands none.
    rest_whole b n j c.args.steps
    (c.run_steps-stopped.ensures.runs (next_moment b n j) stands (rest_unclashed b n j c.args.steps none))
    c.if-outlet.false c.unwrap_or.ensures c.write_end.ensures.ends

pub returns-clause-emits_some : goal.returns-clause-emits_some
returns-clause-emits_some g c = some_then c.run_steps-stopped.ensures.emits_some c.write_end.ensures.emits_some

pub returns-clause-same_shelf : goal.returns-clause-same_shelf
returns-clause-same_shelf g c = let given = gave_all (returns-clause-emits_some g c).1 in given.shelf

pub returns-clause-same_out : goal.returns-clause-same_out
returns-clause-same_out g c = let given = gave_all (returns-clause-emits_some g c).1 in given.output
