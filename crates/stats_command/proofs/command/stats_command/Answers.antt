use Rattle.std.proofs.Common.{None}
use Rattle.stats_command.proofs.AnswerFacts.{answers_no_run, answers_shown}
use Rattle.stats_command.proofs.command.stats_command.Goals as goal

pub returns-in-Ok-clause-answers : goal.returns-in-Ok-clause-answers
returns-in-Ok-clause-answers g c =
    let stats = c.args.stats.now in
    let prepared = c.in-Ok.ensures.prepares None stats.steps stats.few_steps in
    answers_shown _ _ _ prepared.1 prepared.0
    (c.count_and_show.ensures prepared.1.bundle prepared.1.stream prepared.1.opened prepared.1.opens prepared.1.stands)

pub returns-in-Ok-clause-kept : goal.returns-in-Ok-clause-kept
returns-in-Ok-clause-kept g c =
    let stats = c.args.stats.now in
    let prepared = c.in-Ok.ensures.prepares None stats.steps stats.few_steps in prepared.0.held

pub returns-in-Err-clause-answers : goal.returns-in-Err-clause-answers
returns-in-Err-clause-answers g c =
    let stats = c.args.stats.now in
    answers_no_run (c.in-Err.ensures.prepares None stats.steps stats.few_steps) c.requires.output c.refuse.ensures

pub returns-in-Err-clause-kept : goal.returns-in-Err-clause-kept
returns-in-Err-clause-kept g c =
    let stats = c.args.stats.now in
    let no_run = c.in-Err.ensures.prepares None stats.steps stats.few_steps in no_run.held
