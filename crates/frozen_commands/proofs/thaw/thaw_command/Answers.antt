use Rattle.std.proofs.Common.{◌≤◌, arith}
use Rattle.command_words.specs.Request.{thaw_names_of}
use Rattle.command_parts.specs.Outside.{files}
use Rattle.frozen_commands.proofs.ThawFacts.{answers_no_run, same_files}
use Rattle.frozen_commands.proofs.thaw.thaw_command.Goals as goal

pub returns-in-Ok-clause-answers : goal.returns-in-Ok-clause-answers
returns-in-Ok-clause-answers g c =
    let both = c.record_thawed.ensures (files g.S.Shelf c.args.shelf.now) c.in-Ok.ensures in both.0

pub returns-in-Ok-clause-kept : goal.returns-in-Ok-clause-kept
returns-in-Ok-clause-kept g c =
    let both = c.record_thawed.ensures (files g.S.Shelf c.args.shelf.now) c.in-Ok.ensures in both.1

pub returns-in-Err-clause-answers : goal.returns-in-Err-clause-answers
returns-in-Err-clause-answers g c = answers_no_run c.in-Err.ensures c.requires.output c.refuse.ensures

pub returns-in-Err-clause-kept : goal.returns-in-Err-clause-kept
returns-in-Err-clause-kept g c = same_files (thaw_names_of c.args.thaw.now.files) _ _ _ c.in-Err.ensures.held
