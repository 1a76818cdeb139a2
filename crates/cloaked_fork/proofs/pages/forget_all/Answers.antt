use Rattle.std.proofs.Common.{◌<◌, ◌≤◌, ◌+◌, length, drop, false, rules, arith}
use Rattle.std.proofs.Math.ListN.{drop_of_length-le}
use Rattle.cloaked_fork.proofs.Asks.{drop_next, marked_next, unmarked_next, forgets_end}
use Rattle.cloaked_fork.proofs.pages.forget_all.Goals as goal
use Rattle.cloaked_fork.proofs.pages.forget_all.Goals.{then-marked-n, else-marked-n}

pub loop-n-preserved : goal.loop-n-preserved
loop-n-preserved g c =
    let inside : c.loop-n.n < length c.args.marked.now = omega arith in
    elim c.if-marked-n.branch [
      | then-marked-n w ↦ rw w.m-is (record {
        follows = λ new rest.
            c.loop-n.invariant.follows new
            (rw (drop_next c.args.marked.now c.loop-n.n false inside) (marked_next _ _ _ _ _ _ _ (drop (c.loop-n.n + 1) c.args.marked.now) w.if-marked-n.true w.forget.ensures.follows rest));
        side = search rules;
        cleared = search rules;
        dropped = search rules;
      })
      | else-marked-n w ↦ rw w.m-is (record {
        follows = λ new rest.
            c.loop-n.invariant.follows new
            (rw (drop_next c.args.marked.now c.loop-n.n false inside) (unmarked_next _ _ _ _ _ _ (drop (c.loop-n.n + 1) c.args.marked.now) w.if-marked-n.false rest));
        side = search rules;
        cleared = search rules;
        dropped = search rules;
      })
    ]

pub returns-clause-follows : goal.returns-clause-follows
returns-clause-follows g c =
    let past : length c.args.marked.now ≤ c.loop-n.n = omega arith in
    c.loop-n.invariant.follows c.loop-n.m (rw (drop_of_length-le c.args.marked.now past) (forgets_end _ _ c.args.domain))
