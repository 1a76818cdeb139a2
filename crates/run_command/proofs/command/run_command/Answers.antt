use Rattle.std.proofs.Common.{Some, refl}
use Rattle.cloak_model.specs.Beginning.{Fresh}
use Rattle.run_command.proofs.AnswerFacts.{asks_run, lawful_run, answers_no_run, answers_recorded, keeps_files}
use Rattle.run_command.proofs.command.run_command.Goals as goal

pub returns-in-Ok-clause-answers : goal.returns-in-Ok-clause-answers
returns-in-Ok-clause-answers g c =
    let run = c.args.run.now in
    let prepared = c.in-Ok.ensures.prepares (Some run.record_name.now) run.steps run.few_steps in
    answers_recorded (asks_run prepared.1) (lawful_run prepared.1) prepared.0 refl c.requires.writing c.requires.output
    (c.record_run.ensures prepared.1.bundle (Fresh prepared.1.stream) prepared.1.opened prepared.1.opens prepared.1.placings
    prepared.1.stands)

pub returns-in-Ok-clause-kept : goal.returns-in-Ok-clause-kept
returns-in-Ok-clause-kept g c = keeps_files _ _ _ _ (returns-in-Ok-clause-answers g c)

pub returns-in-Err-clause-answers : goal.returns-in-Err-clause-answers
returns-in-Err-clause-answers g c =
    let run = c.args.run.now in
    answers_no_run (c.in-Err.ensures.prepares (Some run.record_name.now) run.steps run.few_steps) c.requires.output
    c.refuse.ensures

pub returns-in-Err-clause-kept : goal.returns-in-Err-clause-kept
returns-in-Err-clause-kept g c = keeps_files _ _ _ _ (returns-in-Err-clause-answers g c)
