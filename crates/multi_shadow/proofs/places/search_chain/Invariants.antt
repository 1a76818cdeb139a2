use Rattle.std.proofs.Common.{◌≡◌, ℕ, true, length, Some}
use Rattle.chain_arena.specs.declared.chain.Chain.TheVariants as chain
use Rattle.chain_arena.specs.Arena.{chain_at, chain_rest}
use Rattle.chain_arena.specs.Chains.{IsMemberOf}
use Rattle.shadow_fold.specs.declared.entry.Entry.{Entry}
use Rattle.shadow_fold.specs.Entries.{is_for}
use Rattle.multi_shadow.specs.Placed.{LiesAt}
use Rattle.multi_shadow.proofs.places.search_chain.Given as goal

abbrev pub invariant-loop-at : goal.invariant-loop-at
invariant-loop-at l = record {
  inside : (s : ℕ) → l.at ≡ Some s → IsMemberOf s (chain_at l.arena chain.Bucket l.bucket);
  left : (s : ℕ) (e : Entry) → LiesAt l.arena s e → is_for l.v l.page l.kind e ≡ true
      → IsMemberOf s (chain_rest l.at (chain_at l.arena chain.Bucket l.bucket));
}

abbrev pub decreases-loop-at : goal.decreases-loop-at
decreases-loop-at l = length (chain_rest l.at (chain_at l.arena chain.Bucket l.bucket))
