use Rattle.std.proofs.Common.{refl}
use Rattle.tool_commands.proofs.answering.trace_over.Goals as goal

pub returns-in-None : goal.returns-in-None
returns-in-None g c = rw c.in-None.is (record { shown = c.say_apart.ensures; untouched = refl })

pub returns-in-Some : goal.returns-in-Some
returns-in-Some g c =
    rw c.in-Some.is (record {
      answers = c.trace_over_command.ensures.answers;
      kept = c.trace_over_command.ensures.files;
      writing = c.trace_over_command.ensures.writing;
    })
