use Rattle.std.proofs.Common.{refl}
use Rattle.tool_commands.proofs.answering.trace_from.Goals as goal

pub returns-in-None : goal.returns-in-None
returns-in-None g c = rw c.in-None.is (record { shown = c.say_apart.ensures; untouched = refl })

pub returns-in-None-given : goal.returns-in-None-given
returns-in-None-given g c =
    rw (c.in-Some.is, c.in-None-given.is) (record {
      answers = c.trace_command.ensures.answers;
      kept = c.trace_command.ensures.files;
      writing = c.trace_command.ensures.writing;
    })

pub returns-in-Some-given : goal.returns-in-Some-given
returns-in-Some-given g c = rw (c.in-Some.is, c.in-Some-given.is) c.trace_over.ensures
