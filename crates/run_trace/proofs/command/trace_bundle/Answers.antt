use Rattle.run_trace.proofs.command.trace_bundle.Goals as goal

pub returns-in-None-clause-shows : goal.returns-in-None-clause-shows
returns-in-None-clause-shows g c = rw c.in-None.is c.trace_kernel_side.ensures.shows

pub returns-in-Some-clause-shows : goal.returns-in-Some-clause-shows
returns-in-Some-clause-shows g c = rw c.in-Some.is c.trace_program_side.ensures.shows
