use Rattle.std.proofs.Common.{◌≡◌, ◌<◌, inl, inr, ◌∷◌, length, slice_get, sym, ap, subst, arith, ◌∙◌}
use Rattle.std.proofs.lemmas.Bool.{false≢true}
use Rattle.chain_arena.specs.declared.chain.Chain.TheVariants as chain
use Rattle.chain_arena.specs.Arena.{chain_at, chain_rest}
use Rattle.chain_arena.specs.Chains.{IsMemberOf}
use Rattle.chain_arena.proofs.Callers.{first_in_list, behind_in_list, rest_first}
use Rattle.shadow_fold.specs.Entries.{is_for}
use Rattle.multi_shadow.proofs.Buckets.{in_bucket}
use Rattle.multi_shadow.proofs.Pruning.{step, not_true, same_entry}
use Rattle.multi_shadow.proofs.Slots.{found, none_found}
use Rattle.multi_shadow.proofs.places.search_chain.Goals as goal

pub loop-at-init : goal.loop-at-init
loop-at-init c =
    let A = c.args.arena.now in let all = chain_at A chain.Bucket c.args.bucket in
    let is = c.requires.bucket in
    record {
      inside = λ s e. first_in_list all s (sym c.first-at.ensures ∙ e);
      left = λ s e l p. subst (IsMemberOf s) (sym (ap (λ o. chain_rest o all) c.first-at.ensures ∙ rest_first all))
          (in_bucket A c.args.v.now c.args.page c.args.kind c.args.bucket s e c.requires.placed is l p);
    }

pub payload_ref-e-requires : goal.payload_ref-e-requires
payload_ref-e-requires c =
    let b = c.args.bucket in
    let head : b < c.args.arena.now.heads = c.requires.within in
    record { in_use = c.requires.placed.tidy.in_use chain.Bucket b c.in-Some.s head (c.loop-at.invariant.inside c.in-Some.s c.in-Some.is) }

pub returns-then-is_for : goal.returns-then-is_for
returns-then-is_for c =
    let A = c.args.arena.now in let test = is_for c.args.v.now c.args.page c.args.kind in
    let passes = sym c.is_for.ensures ∙ c.if-is_for.true in
    sym (found test A.payloads c.in-Some.s c.payload_ref-e.result.now c.payload_ref-e.ensures passes
    (c.requires.apart c.args.v.now c.args.page c.args.kind))

pub loop-at-smaller : goal.loop-at-smaller
loop-at-smaller c =
    let A = c.args.arena.now in let s = c.in-Some.s in let b = c.args.bucket in let all = chain_at A chain.Bucket b in
    let head : b < A.heads = c.requires.within in
    let stands = c.loop-at.invariant.inside s c.in-Some.is in
    let more = step A chain.Bucket b s c.loop-at.at c.next-at.result c.requires.placed.tidy head stands c.in-Some.is (c.next-at.ensures b stands) in
    subst (λ l. length (chain_rest c.next-at.result all) < length l) (sym more) (omega arith)

pub loop-at-preserved : goal.loop-at-preserved
loop-at-preserved c =
    let A = c.args.arena.now in let s = c.in-Some.s in let b = c.args.bucket in let all = chain_at A chain.Bucket b in
    let test = is_for c.args.v.now c.args.page c.args.kind in
    let head : b < A.heads = c.requires.within in
    let stands = c.loop-at.invariant.inside s c.in-Some.is in
    let next = c.next-at.ensures b stands in
    let more = step A chain.Bucket b s c.loop-at.at c.next-at.result c.requires.placed.tidy head stands c.in-Some.is next in
    record {
      inside = λ t e. behind_in_list all s t (sym next ∙ e);
      left = λ t e l p. let q : IsMemberOf t (s ∷ chain_rest c.next-at.result all) = subst (IsMemberOf t) more (c.loop-at.invariant.left t e l p) in elim q [
        | inl f ↦
            let same : e ≡ c.payload_ref-e.result.now = same_entry A s e c.payload_ref-e.result.now (ap (slice_get A.payloads) (sym f) ∙ l) c.payload_ref-e.ensures in
            absurd (false≢true (sym c.if-is_for.false ∙ (c.is_for.ensures ∙ ap test (sym same) ∙ p)))
        | inr r ↦ r
      ];
    }

pub returns : goal.returns
returns c =
    let A = c.args.arena.now in let test = is_for c.args.v.now c.args.page c.args.kind in
    let all = chain_at A chain.Bucket c.args.bucket in
    sym (none_found test A.payloads (λ s x l. not_true (test x) (λ p.
    subst (λ o. IsMemberOf s (chain_rest o all)) c.in_default.is (c.loop-at.invariant.left s x l p))))
