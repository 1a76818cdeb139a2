use Rattle.std.proofs.Common.{rules}
use Rattle.std.proofs.Math.ListN.{drop_of_length-le}
use Rattle.cloaked_fork.proofs.Asks.{drop_next, copies_next, copies_end}
use Rattle.cloaked_fork.proofs.pages.copy_all.Goals as goal

pub loop-copy-preserved : goal.loop-copy-preserved
loop-copy-preserved g c = record {
  follows = λ new rest.
      c.loop-copy.invariant.follows new
      (rw (drop_next c.args.copies.now c.loop-copy.copy-index (0, 0) c.loop-copy-test.true) (copies_next _ _ _ _ _ _ _ c.copy.ensures.follows rest));
  side = search rules;
  cleared = search rules;
}

pub returns-clause-follows : goal.returns-clause-follows
returns-clause-follows g c = c.loop-copy.invariant.follows c.loop-copy.m (rw (drop_of_length-le c.args.copies.now c.loop-copy-test.false) (copies_end _ _ c.args.domain))
