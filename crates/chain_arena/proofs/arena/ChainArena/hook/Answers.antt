use Rattle.std.proofs.Common.{◌+◌, ◌<◌, length, subst, sym, ap, ◌∙◌, arith}
use Rattle.chain_arena.specs.Arena.{Arena, hooked, Stands, IsInUse}
use Rattle.chain_arena.specs.Nodes.{linked_in, next_of}
use Rattle.chain_arena.proofs.Arenas.{carried, in_block, head_in_block, next_in_block, hook_keeps, hook_shows}
use Rattle.chain_arena.proofs.Takes.{every_tidy}
use Rattle.chain_arena.proofs.arena.ChainArena.hook.Goals as goal

pub overflow_add-at : goal.overflow_add-at
overflow_add-at g c =
    let small = c.self.invariant.small in let within = c.requires.within in
    let heads = ap (λ (a : Arena g.row.T.Denot). a.heads) c.self.view_is in omega (arith, heads)

pub link_in-requires : goal.link_in-requires
link_in-requires g c =
    let a = c.self.inside in
    let head : c.args.head < a.heads = subst (λ (v : Arena g.row.T.Denot). c.args.head < v.heads)
    (sym c.self.view_is) c.requires.within in (
      in_block a c.self.invariant c.s.inside.index (carried IsInUse c.self.view_is c.s.view_is c.requires.in_use),
      head_in_block a c.self.invariant c.args.head head,
      subst (λ k. next_of k a.block (a.nodes + c.args.head) < length a.block) (sym c.link.ensures)
          (next_in_block a c.self.invariant c.args.c c.args.head head),
    )

pub invariant_of-self : goal.invariant_of-self
invariant_of-self g c =
    let a = c.self.inside in
    let head : c.args.head < a.heads = subst (λ (v : Arena g.row.T.Denot). c.args.head < v.heads)
    (sym c.self.view_is) c.requires.within in
    hook_keeps a c.self.invariant c.args.c c.s.inside.index c.args.head
    (carried IsInUse c.self.view_is c.s.view_is c.requires.in_use) head
    (λ st. c.requires.apart (carried (λ v i. Stands v c.args.c i) (sym c.self.view_is) (sym c.s.view_is) st))
    c.link_in.new.block (c.link_in.ensures ∙ ap
    (λ k. linked_in k c.s.inside.index (a.nodes + c.args.head) a.block) c.link.ensures)

pub returns-clause-hooked : goal.returns-clause-hooked
returns-clause-hooked g c =
    let a = c.self.inside in
    let head : c.args.head < a.heads = subst (λ (v : Arena g.row.T.Denot). c.args.head < v.heads)
    (sym c.self.view_is) c.requires.within in
    hook_shows a c.self.invariant c.args.c c.s.inside.index c.args.head
    (carried IsInUse c.self.view_is c.s.view_is c.requires.in_use) head
    (λ st. c.requires.apart (carried (λ v i. Stands v c.args.c i) (sym c.self.view_is) (sym c.s.view_is) st))
    c.link_in.new.block (c.link_in.ensures ∙ ap
    (λ k. linked_in k c.s.inside.index (a.nodes + c.args.head) a.block) c.link.ensures)
    ∙ (λ i. hooked (c.self.view_is i) c.args.c c.args.head (c.s.view_is i))

pub returns-clause-tidy : goal.returns-clause-tidy
returns-clause-tidy g c =
    let a = c.self.inside in
    every_tidy (record { block = c.link_in.new.block; nodes = a.nodes; heads = a.heads; used = a.used })
    (invariant_of-self g c)
