use Rattle.std.proofs.Common.{◌≡◌, ◌<◌, ◌≤◌, inl, inr, Some, subst, ap, ◌∙◌}
use Rattle.std.proofs.lemmas.Bool.{cases_lt}
use Rattle.chain_arena.specs.Arena.{IsInUse, chains, chain_at, next_behind}
use Rattle.chain_arena.specs.Chains.{IsMemberOf}
use Rattle.chain_arena.specs.Nodes.{next_of}
use Rattle.chain_arena.proofs.Nodes.{read_next}
use Rattle.chain_arena.specs.Inside.{arena_of}
use Rattle.chain_arena.proofs.Arenas.{carried, in_block, in_some_chain, behind_of}
use Rattle.chain_arena.proofs.Takes.{every_tidy}
use Rattle.chain_arena.proofs.arena.ChainArena.next.Goals as goal

pub get-requires : goal.get-requires
get-requires g c =
    let s = c.s.inside.index in
    in_block c.self.inside c.self.invariant s (carried IsInUse c.self.view_is c.s.view_is c.requires.in_use)

pub returns : goal.returns
returns g c h p =
    let a = c.self.inside in let s = c.s.inside.index in let x = c.get-2.result in
    let is_next : x ≡ _ = c.get-2.ensures ∙ read_next c.link.result s a.block c.get.result.now c.get.ensures
    ∙ ap (λ k. next_of k a.block s) c.link.ensures in
    let there : IsMemberOf s (chain_at (arena_of a) c.args.c h) =
    carried (λ v i. IsMemberOf i (chain_at v c.args.c h)) c.self.view_is c.s.view_is p in
    let within = in_some_chain (chains (arena_of a) c.args.c) h s there in
    let f = behind_of a c.self.invariant c.args.c s h
    (subst (λ k. h < k) ((every_tidy a c.self.invariant).heads c.args.c) within) there in
    elim (cases_lt x a.nodes) [
      | inl q ↦ c.slot_at.ensures.below q ∙ ap Some is_next ∙ f.0 (subst (λ i. i < a.nodes) is_next q)
      | inr q ↦ c.slot_at.ensures.past q ∙ f.1 (subst (λ i. a.nodes ≤ i) is_next q)
    ] ∙ (λ i. next_behind (c.s.view_is i) (chain_at (c.self.view_is i) c.args.c h))
