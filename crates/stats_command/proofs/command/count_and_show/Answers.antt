use Rattle.std.proofs.Common.{refl}
use Rattle.command_parts.proofs.FaultFacts.{raised}
use Rattle.stats_command.proofs.AnswerFacts.{shows_front, shows_lines}
use Rattle.stats_command.proofs.command.count_and_show.Goals as goal

pub returns-in-Ok : goal.returns-in-Ok
returns-in-Ok g c = λ b stream o opens stands.
    shows_lines c.count_run-counted.result b c.args.steps o _ _ _
    (λ none. c.count_run-counted.ensures b stream o opens stands none)
    c.in-Ok.ensures.0 c.in-Ok.ensures.1 c.stop_status.ensures

pub returns-in-Err : goal.returns-in-Err
returns-in-Err g c = λ b stream o opens stands.
    shows_front c.count_run-counted.result b c.args.steps o _ _ _
    (λ none. c.count_run-counted.ensures b stream o opens stands none)
    c.in-Err.ensures.0 (raised c.in-Err.ensures.1 c.requires.output) refl
