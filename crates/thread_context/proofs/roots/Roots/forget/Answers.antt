use Rattle.std.proofs.Common.{rules, arith, []}
use Rattle.thread_context.proofs.Recording.{root_at-past}
use Rattle.thread_context.proofs.roots.Roots.forget.Goals as goal

pub returns-else-s-lt8 : goal.returns-else-s-lt8
returns-else-s-lt8 c = rw (← c.self.view_is) (record { each = λ t. root_at-past c.self.inside.table c.args.s t (rw (c.self.invariant c.args.s.domain [] (search (rules, arith))) c.if-s-lt8.false) })
