use Rattle.std.proofs.Common.{◌<◌, sym, ap, subst, ◌∙◌}
use Rattle.chain_arena.specs.declared.chain.Chain.TheVariants as chain
use Rattle.chain_arena.specs.Arena.{chain_at, chain_rest}
use Rattle.chain_arena.specs.Chains.{IsMemberOf}
use Rattle.chain_arena.proofs.Callers.{first_in_list, rest_first}
use Rattle.shadow_fold.specs.Entries.{is_for}
use Rattle.multi_shadow.specs.Placed.{bucket_of}
use Rattle.multi_shadow.proofs.Buckets.{in_bucket}
use Rattle.multi_shadow.proofs.Pruning.{not_true}
use Rattle.multi_shadow.proofs.Slots.{none_found}
use Rattle.multi_shadow.proofs.places.search.Goals as goal

pub returns-in-None : goal.returns-in-None
returns-in-None c =
    let A = c.args.arena.now in let test = is_for c.args.v.now c.args.page c.args.kind in
    let b = c.bucket_of-bucket.result in let all = chain_at A chain.Bucket b in
    let is = c.bucket_of-bucket.ensures.bucket ∙ ap (λ n. bucket_of n c.args.v.now c.args.page c.args.kind) c.requires.heads in
    let empty = ap (λ o. chain_rest o all) (sym c.in-None.is ∙ c.first.ensures) ∙ rest_first all in
    sym (none_found test A.payloads (λ s x l. not_true (test x) (λ p.
    subst (IsMemberOf s) (sym empty) (in_bucket A c.args.v.now c.args.page c.args.kind b s x c.requires.placed is l p))))

pub search_from-requires-clause-in_use : goal.search_from-requires-clause-in_use
search_from-requires-clause-in_use c =
    let A = c.args.arena.now in let b = c.bucket_of-bucket.result in
    let head : b < A.heads = subst (λ n. b < n) c.requires.heads c.bucket_of-bucket.ensures.within in
    c.requires.placed.tidy.in_use chain.Bucket b c.in-Some.s head
    (first_in_list (chain_at A chain.Bucket b) c.in-Some.s (sym c.first.ensures ∙ c.in-Some.is))
