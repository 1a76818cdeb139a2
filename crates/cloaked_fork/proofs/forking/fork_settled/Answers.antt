use Rattle.cloaked_fork.proofs.Laters.{fork_goes_on}
use Rattle.cloaked_fork.proofs.forking.fork_settled.Goals as goal

pub copy_pages-requires-clause-cleared : goal.copy_pages-requires-clause-cleared
copy_pages-requires-clause-cleared g c = rw (← c.caller.view_is) at (c.requires.cleared c.in-Ok.is)

pub returns-in-Ok-clause-follows : goal.returns-in-Ok-clause-follows
returns-in-Ok-clause-follows g c =
    fork_goes_on _ _ c.copy_pages.new.m c.args.domain c.args.caller.now _ _ c.args.r.now c.args.c.now c.args.settled _ _ c.in-Ok.is
    c.copy_space.ensures.number c.copy_space.ensures.spaces
    (rw (← c.caller.view_is) c.copy_pages.ensures.follows)
