use Rattle.std.proofs.Common.{refl, sym}
use Rattle.cloaked_fork.proofs.Laters.{fork_follows}
use Rattle.cloaked_fork.proofs.forking.fork_caller.Goals as goal

pub fork_settled-requires-clause-room : goal.fork_settled-requires-clause-room
fork_settled-requires-clause-room g c = rw (← c.caller.view_is) (c.in-Ok.ensures.room refl)

pub fork_settled-requires-clause-cleared : goal.fork_settled-requires-clause-cleared
fork_settled-requires-clause-cleared g c = rw (← c.caller.view_is) (λ ok n is. c.clear-settled.ensures.cleared ok n (rw c.marked.ensures is))

pub returns-in-Ok-clause-follows : goal.returns-in-Ok-clause-follows
returns-in-Ok-clause-follows g c =
    fork_follows _ _ c.clear-settled.new.self _ c.args.domain c.args.caller.now c.args.r.now c.args.c.now c.clear-settled.result _
    (rw (← c.caller.view_is) (sym c.in-Ok.ensures.as_defined))
    (rw (← c.caller.view_is, ← c.marked.ensures) c.clear-settled.ensures.follows)
    c.fork_settled.ensures.follows
