use Rattle.cloaked_fork.proofs.ending.end_context.Goals as goal

pub returns-clause-kept : goal.returns-clause-kept
returns-clause-kept g c = rw (c.context.ensures, ← c.space.view_is) c.end_in_space.ensures.kept
