-- Where an entry that a look is for stands.
use Rattle.std.proofs.Common.{◌≡◌, ℕ, true, Some, sym, ap, ◌∙◌}
use Rattle.chain_arena.specs.declared.chain.Chain.TheVariants as chain
use Rattle.chain_arena.specs.Arena.{Arena, chain_at}
use Rattle.chain_arena.specs.Chains.{IsMemberOf}
use Rattle.cloak_base.specs.declared.names.Kind.{Kind}
use Rattle.shadow_fold.specs.declared.entry.Entry.{Entry}
use Rattle.shadow_fold.specs.declared.entry.Regime.{Regime}
use Rattle.shadow_fold.specs.Entries.{is_for}
use Rattle.shadow_fold.proofs.Keys.{is_for-key}
use Rattle.multi_shadow.specs.Placed.{ArePlaced, LiesAt, bucket_of}

-- an entry for the access stands in the access's bucket
pub in_bucket : (A : Arena Entry) (v : Regime) (page : ℕ) (kind : Kind) (bucket s : ℕ) (e : Entry) → ArePlaced A
    → bucket ≡ bucket_of A.heads v page kind → LiesAt A s e → is_for v page kind e ≡ true
    → IsMemberOf s (chain_at A chain.Bucket bucket)
in_bucket A v page kind bucket s e placed is l passes =
    let key = is_for-key v page kind e passes in
    (placed.there chain.Bucket s bucket e l (ap Some ((λ i. bucket_of A.heads (key.0 i) (key.1 i) (key.2 i)) ∙ sym is))).1
