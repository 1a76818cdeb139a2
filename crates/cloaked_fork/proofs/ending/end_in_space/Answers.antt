use Rattle.std.proofs.Common.{sym, ◌∙◌}
use Rattle.cloaked_fork.proofs.Laters.{end_follows}
use Rattle.cloaked_fork.proofs.ending.end_in_space.Goals as goal

pub returns-clause-follows : goal.returns-clause-follows
returns-clause-follows g c =
    end_follows _ _ c.clear-settled.new.self _ c.args.domain c.args.slot c.args.space c.args.r.now c.args.c.now c.clear-settled.result _
    (sym c.has_other.ensures ∙ c.if-has_other.false)
    (rw (← c.marked.ensures) c.clear-settled.ensures.follows)
    c.end_settled.ensures.follows
