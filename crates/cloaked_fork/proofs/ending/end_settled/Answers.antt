use Rattle.std.proofs.Common.{rules}
use Rattle.cloaked_fork.proofs.Laters.{end_goes_on}
use Rattle.cloaked_fork.proofs.ending.end_settled.Goals as goal

pub returns-in-Ok-clause-follows : goal.returns-in-Ok-clause-follows
returns-in-Ok-clause-follows g c =
    end_goes_on _ _ c.forget_pages.new.m c.args.domain c.args.slot c.args.space c.args.r.now c.args.c.now c.args.settled _ c.in-Ok.is
    (search rules) c.forget_pages.ensures.follows
