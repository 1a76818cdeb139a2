use Rattle.run_trace.proofs.kernel_side.put_halt.Goals as goal

pub returns-else-halted : goal.returns-else-halted
returns-else-halted g c = rw c.if-halted.false c.text-else-halted.ensures
