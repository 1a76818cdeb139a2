use Rattle.std.proofs.Common.{inl, inr, refl}
use Rattle.run_trace.proofs.command.trace_kernel_side.Goals as goal

pub returns-in-Ok-clause-shows : goal.returns-in-Ok-clause-shows
returns-in-Ok-clause-shows g c = inl (c.trace_kernel.ensures.shows c.args.bundle.now.kernel c.in-Ok.ensures)

pub returns-in-Err-clause-shows : goal.returns-in-Err-clause-shows
returns-in-Err-clause-shows g c = inr (inl (record { reading = refl; line = c.refuse.ensures }))
