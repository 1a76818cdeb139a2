use Rattle.std.proofs.Common.{Some, slice_get, sym, ap, ◌∙◌}
use Rattle.std.proofs.lemmas.Option.{cond_some}
use Rattle.chain_arena.specs.Arena.{IsInUse}
use Rattle.chain_arena.proofs.Nodes.{read_payload}
use Rattle.chain_arena.proofs.Arenas.{carried, in_block, payload_in}
use Rattle.chain_arena.proofs.arena.ChainArena.payload_ref.Goals as goal

pub get-requires : goal.get-requires
get-requires g c =
    let s = c.s.inside.index in
    in_block c.self.inside c.self.invariant s (carried IsInUse c.self.view_is c.s.view_is c.requires.in_use)

pub returns : goal.returns
returns g c =
    let a = c.self.inside in let s = c.s.inside.index in let node = c.get.result.now in
    let u = carried IsInUse c.self.view_is c.s.view_is c.requires.in_use in
    let p = payload_in a.block a.nodes s (Some u.0) u.1 in
    let read = sym (read_payload s a.block node c.get.ensures) ∙ p.1 in
    let same = cond_some node.used node.value u.0 read in
    sym (λ i. slice_get ((c.self.view_is i).payloads) (c.s.view_is i)) ∙ u.1 ∙ ap (λ x. Some (Some x)) (sym same.1)
