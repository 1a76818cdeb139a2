use Rattle.command_parts.specs.Outside.{outside}
use Rattle.cloak_commands.proofs.WordsAnswered.{completes_words, judges_words}
use Rattle.cloak_commands.proofs.program.run_program.Goals as goal

pub returns-clause-exits : goal.returns-clause-exits
returns-clause-exits g c = record {
  done = outside g.S.Shelf g.O.Sink c.obey-status.new.shelf c.obey-status.new.out;
  answer = c.obey-status.result;
  answers = c.obey-status.ensures;
  written = c.write_out.ensures.written;
}

pub returns-clause-complete : goal.returns-clause-complete
returns-clause-complete g c = record {
  done = outside g.S.Shelf g.O.Sink c.obey-status.new.shelf c.obey-status.new.out;
  answer = c.obey-status.result;
  answers = completes_words _ _ _ _ c.requires.reading c.obey-status.ensures;
  written = c.write_out.ensures.written;
}

pub returns-clause-bundle_first : goal.returns-clause-bundle_first
returns-clause-bundle_first g c = record {
  done = outside g.S.Shelf g.O.Sink c.obey-status.new.shelf c.obey-status.new.out;
  answer = c.obey-status.result;
  answers = judges_words _ _ _ _ c.obey-status.ensures;
  written = c.write_out.ensures.written;
}
