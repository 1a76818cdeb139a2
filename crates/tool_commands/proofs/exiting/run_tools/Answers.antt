use Rattle.command_parts.specs.Outside.{outside}
use Rattle.tool_commands.proofs.exiting.run_tools.Goals as goal

pub returns-clause-exits : goal.returns-clause-exits
returns-clause-exits g c = record {
  done = outside g.S.Shelf g.O.Sink c.answer-status.new.shelf c.answer-status.new.out;
  answer = c.answer-status.result;
  answers = c.answer-status.ensures;
  written = c.write_out.ensures.written;
}
