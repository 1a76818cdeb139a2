use Rattle.std.proofs.Common.{◌<◌, length, sym, ap, refl, subst, ◌∙◌}
use Rattle.chain_arena.specs.Arena.{chain_at, chain_rest}
use Rattle.chain_arena.specs.Chains.{IsMemberOf}
use Rattle.chain_arena.proofs.Callers.{first_in_list, rest_first}
use Rattle.multi_shadow.specs.Placed.{emptied_if, without_if}
use Rattle.multi_shadow.proofs.Pruning.{smaller, inside_now, fewer_now, left_now, kept_now, hit_stands, not_true}
use Rattle.multi_shadow.proofs.Removing.{emptied_long}
use Rattle.multi_shadow.proofs.places.prune.Goals as goal

pub loop-at-init : goal.loop-at-init
loop-at-init c =
    let A = c.args.arena.now in let all = chain_at A c.args.c c.args.head in
    record {
      placed = c.requires.placed;
      heads = refl;
      long = refl;
      inside = λ s e. first_in_list all s (sym c.first-at.ensures ∙ e);
      left = λ s e l hit. subst (IsMemberOf s) (sym (ap (λ o. chain_rest o all) c.first-at.ensures ∙ rest_first all))
          (hit_stands A.heads c.args.c c.args.head c.args.space A c.requires.placed refl s e l hit);
      fewer = λ s e l. l;
      kept = λ s e l miss. l;
    }

pub payload-e-requires : goal.payload-e-requires
payload-e-requires c =
    let inv = c.loop-at.invariant in
    let head = subst (λ k. c.args.head < k) (sym inv.heads) c.requires.within in
    record { in_use = inv.placed.tidy.in_use c.args.c c.args.head c.in-Some.s head (inv.inside c.in-Some.s c.in-Some.is) }

pub loop-at-smaller : goal.loop-at-smaller
loop-at-smaller c =
    let A = c.loop-at.arena in let B = c.remove_if.new.arena in let s = c.in-Some.s in let e = c.payload-e.result in
    let inv = c.loop-at.invariant in
    let head : c.args.head < A.heads = subst (λ k. c.args.head < k) (sym inv.heads) c.requires.within in
    let stands = inv.inside s c.in-Some.is in
    smaller c.args.arena.now.heads c.args.c c.args.head c.args.space A B s e c.loop-at.at c.next-at.result inv.placed inv.heads
    head c.payload-e.ensures stands c.in-Some.is (c.next-at.ensures c.args.head stands)
    (c.remove_if.ensures.payloads ∙ ap (λ b. emptied_if b s A.payloads) c.is_wanted.ensures)
    (c.remove_if.ensures.chains c.args.c c.args.head ∙ ap (λ b. without_if b s (chain_at A c.args.c c.args.head)) c.is_wanted.ensures)

pub loop-at-preserved : goal.loop-at-preserved
loop-at-preserved c =
    let A = c.loop-at.arena in let B = c.remove_if.new.arena in let s = c.in-Some.s in let e = c.payload-e.result in
    let inv = c.loop-at.invariant in let n = c.args.arena.now.heads in
    let head : c.args.head < A.heads = subst (λ k. c.args.head < k) (sym inv.heads) c.requires.within in
    let stands = inv.inside s c.in-Some.is in
    let next = c.next-at.ensures c.args.head stands in
    let paid = c.remove_if.ensures.payloads ∙ ap (λ b. emptied_if b s A.payloads) c.is_wanted.ensures in
    let chain = c.remove_if.ensures.chains c.args.c c.args.head ∙ ap (λ b. without_if b s (chain_at A c.args.c c.args.head)) c.is_wanted.ensures in
    record {
      placed = c.remove_if.ensures.placed;
      heads = c.remove_if.ensures.heads ∙ inv.heads;
      long = ap length c.remove_if.ensures.payloads ∙ emptied_long c.is_wanted.result A.payloads s ∙ inv.long;
      inside = inside_now n c.args.c c.args.head c.args.space A B s e c.loop-at.at c.next-at.result inv.placed inv.heads head
          c.payload-e.ensures stands c.in-Some.is next paid chain;
      left = left_now n c.args.c c.args.head c.args.space A B s e c.loop-at.at c.next-at.result inv.placed inv.heads head
          c.payload-e.ensures stands c.in-Some.is next paid chain inv.left;
      fewer = λ t x l. inv.fewer t x (fewer_now n c.args.c c.args.head c.args.space A B s e c.loop-at.at c.next-at.result inv.placed
          inv.heads head c.payload-e.ensures stands c.in-Some.is next paid chain t x l);
      kept = λ t x l miss. kept_now n c.args.c c.args.head c.args.space A B s e c.loop-at.at c.next-at.result inv.placed inv.heads
          head c.payload-e.ensures stands c.in-Some.is next paid chain t x (inv.kept t x l miss) miss;
    }

pub returns-clause-ends : goal.returns-clause-ends
returns-clause-ends c =
    let inv = c.loop-at.invariant in
    record {
      long = inv.long;
      ended = λ s e l. (
        inv.fewer s e l,
        not_true _ (λ hit.
            subst (λ o. IsMemberOf s (chain_rest o (chain_at c.loop-at.arena c.args.c c.args.head))) c.in_default.is (inv.left s e l hit)),
      );
      kept = inv.kept;
    }
