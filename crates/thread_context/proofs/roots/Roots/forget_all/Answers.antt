use Rattle.std.proofs.Common.{rules, arith}
use Rattle.thread_context.proofs.Recording.{root_at-without}
use Rattle.thread_context.proofs.roots.Roots.forget_all.Goals as goal

pub returns : goal.returns
returns c = rw (← c.self.view_is) (record { each = λ t. root_at-without c.self.inside.table c.args.domain 8 t (search (rules, arith)) })
