use Rattle.std.proofs.Common.{◌<◌, sym, ap, subst, refl, arith, ◌∙◌}
use Rattle.std.proofs.lemmas.Bool.{false≢true}
use Rattle.chain_arena.specs.declared.chain.Chain.TheVariants as chain
use Rattle.multi_shadow.specs.Placed.{is_hit, bucket_of}
use Rattle.multi_shadow.proofs.Pruning.{not_true, past_head, not_yet}
use Rattle.multi_shadow.proofs.places.prune_all.Goals as goal

pub loop-head-preserved : goal.loop-head-preserved
loop-head-preserved c =
    let inv = c.loop-head.invariant in let now = c.prune_head.ensures in let h = c.loop-head.head in let space = c.args.space in
    record {
      placed = now.placed;
      heads = now.heads ∙ inv.heads;
      long = now.ends.long ∙ inv.long;
      ended = λ s e l.
          let o = now.ends.ended s e l in let i = inv.ended s e o.0 in
          (i.0, past_head _ h space e i.1 (ap (λ n. is_hit n chain.Bucket h space e) (sym inv.heads) ∙ o.1));
      kept = λ s e l later.
          now.ends.kept s e (inv.kept s e l (λ w. let more = later w in omega (arith, more)))
          (ap (λ n. is_hit n chain.Bucket h space e) inv.heads ∙ not_yet _ h space e later);
    }

pub returns-clause-ends : goal.returns-clause-ends
returns-clause-ends c =
    let inv = c.loop-head.invariant in
    record {
      long = inv.long;
      ended = λ s e l.
          let i = inv.ended s e l in
          let below = (inv.placed.there chain.Bucket s _ e l refl).0 in (
            i.0,
            not_true _ (λ w.
                let less = subst (λ n. bucket_of n e.regime e.page e.kind < n) inv.heads below in
                let more = i.1 w in
                let heads = c.requires.heads in
                let end = c.loop-head-test.false in
                omega (arith, less, more, heads, end)),
          );
      kept = λ s e l miss. inv.kept s e l (λ w. absurd (false≢true (sym miss ∙ w)));
    }
