use Rattle.cloaked_fork.proofs.Freed.{marked_numbers-marked}
use Rattle.cloaked_fork.proofs.ending.forget_pages.Goals as goal

pub returns-clause-follows : goal.returns-clause-follows
returns-clause-follows g c = rw (← marked_numbers-marked c.args.space c.args.r.now, ← c.marked-marked.ensures) c.forget_all.ensures.follows
