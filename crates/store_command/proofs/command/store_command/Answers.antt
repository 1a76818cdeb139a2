use Rattle.command_words.specs.Request.{names_of}
use Rattle.command_parts.specs.Outside.{files}
use Rattle.store_command.proofs.AnswerFacts.{answers_no_run, answers_stored, keeps_stored, same_files}
use Rattle.store_command.proofs.command.store_command.Goals as goal

pub returns-in-Ok-clause-answers : goal.returns-in-Ok-clause-answers
returns-in-Ok-clause-answers g c =
    let prepared = c.in-Ok.ensures.prepares in
    answers_stored prepared.1.asks (c.record_stored.ensures (files g.S.Shelf c.args.shelf.now) prepared)

pub returns-in-Ok-clause-kept : goal.returns-in-Ok-clause-kept
returns-in-Ok-clause-kept g c =
    keeps_stored (c.record_stored.ensures (files g.S.Shelf c.args.shelf.now) c.in-Ok.ensures.prepares)

pub returns-in-Err-clause-answers : goal.returns-in-Err-clause-answers
returns-in-Err-clause-answers g c = answers_no_run c.in-Err.ensures.prepares c.requires.output c.refuse.ensures

pub returns-in-Err-clause-kept : goal.returns-in-Err-clause-kept
returns-in-Err-clause-kept g c = same_files (names_of c.args.store.now.files) _ _ _ c.in-Err.ensures.prepares.held
