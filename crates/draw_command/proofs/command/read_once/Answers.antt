use Rattle.draw_command.proofs.command.read_once.Goals as goal

pub returns-clause-reads : goal.returns-clause-reads
returns-clause-reads g c = c.read_run-ending.ensures.reads c.args.bundle.now.kernel c.in_ok-run.ensures
