use Rattle.std.proofs.Common.{◌≡◌, ◌+◌, ◌<◌, ◌≤◌, inl, inr, Some, slice_get, subst, sym, ap, ◌∙◌, arith}
use Rattle.std.proofs.lemmas.Bool.{cases_lt}
use Rattle.chain_arena.specs.Arena.{Arena, chain_at}
use Rattle.chain_arena.specs.Nodes.{next_of}
use Rattle.chain_arena.proofs.Nodes.{read_next}
use Rattle.chain_arena.proofs.Arenas.{head_in_block, first_of}
use Rattle.chain_arena.proofs.arena.ChainArena.first.Goals as goal

pub overflow_add-at : goal.overflow_add-at
overflow_add-at g c =
    let small = c.self.invariant.small in let within = c.requires.within in
    let heads = ap (λ (a : Arena g.row.T.Denot). a.heads) c.self.view_is in omega (arith, heads)

pub get-requires : goal.get-requires
get-requires g c = head_in_block c.self.inside c.self.invariant c.args.head
    (subst (λ (v : Arena g.row.T.Denot). c.args.head < v.heads) (sym c.self.view_is) c.requires.within)

pub returns : goal.returns
returns g c =
    let a = c.self.inside in let at = a.nodes + c.args.head in let x = c.get-2.result in
    let is_next : x ≡ _ = c.get-2.ensures ∙ read_next c.link.result at a.block c.get.result.now c.get.ensures
    ∙ ap (λ k. next_of k a.block at) c.link.ensures in
    let f = first_of a c.self.invariant c.args.c c.args.head
    (subst (λ (v : Arena g.row.T.Denot). c.args.head < v.heads) (sym c.self.view_is) c.requires.within) in
    elim (cases_lt x a.nodes) [
      | inl l ↦ c.slot_at.ensures.below l ∙ ap Some is_next ∙ f.0 (subst (λ i. i < a.nodes) is_next l)
      | inr l ↦ c.slot_at.ensures.past l ∙ f.1 (subst (λ i. a.nodes ≤ i) is_next l)
    ] ∙ ap (λ v. slice_get (chain_at v c.args.c c.args.head) 0) c.self.view_is
