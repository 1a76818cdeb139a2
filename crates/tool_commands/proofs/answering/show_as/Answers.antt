use Rattle.std.proofs.Common.{true, false}
use Rattle.tool_commands.proofs.WordFacts.{shows_as}
use Rattle.tool_commands.proofs.answering.show_as.Goals as goal

pub returns-then-json : goal.returns-then-json
returns-then-json g c =
    shows_as _ true _ _ _ _ _ c.if-json.true (record {
      shows = c.show_json_command.ensures.shows;
      kept = c.show_json_command.ensures.files;
      writing = c.show_json_command.ensures.writing;
    })

pub returns-else-json : goal.returns-else-json
returns-else-json g c =
    shows_as _ false _ _ _ _ _ c.if-json.false (record {
      shows = c.show_command.ensures.shows;
      kept = c.show_command.ensures.files;
      writing = c.show_command.ensures.writing;
    })
