use Rattle.std.proofs.Common.{◌<◌, length, subst, sym, ap, ◌∙◌}
use Rattle.chain_arena.specs.Arena.{unhooked, Stands, IsInUse}
use Rattle.chain_arena.specs.Nodes.{taken_out, next_of, previous_of}
use Rattle.chain_arena.proofs.Arenas.{carried, in_block, after_in_block, before_in_block, unhook_keeps, unhook_shows}
use Rattle.chain_arena.proofs.Takes.{every_tidy}
use Rattle.chain_arena.proofs.arena.ChainArena.unhook.Goals as goal

pub take_out-requires : goal.take_out-requires
take_out-requires g c =
    let a = c.self.inside in let s = c.s.inside.index in
    let st = carried (λ v i. Stands v c.args.c i) c.self.view_is c.s.view_is c.requires.stands in
    record {
      within = in_block a c.self.invariant s (carried IsInUse c.self.view_is c.s.view_is c.requires.in_use);
      next = subst (λ k. next_of k a.block s < length a.block) (sym c.link.ensures)
          (after_in_block a c.self.invariant c.args.c s st);
      previous = subst (λ k. previous_of k a.block s < length a.block) (sym c.link.ensures)
          (before_in_block a c.self.invariant c.args.c s st);
    }

pub invariant_of-self : goal.invariant_of-self
invariant_of-self g c =
    let a = c.self.inside in let s = c.s.inside.index in
    let st = carried (λ v i. Stands v c.args.c i) c.self.view_is c.s.view_is c.requires.stands in
    unhook_keeps a c.self.invariant c.args.c s st c.take_out.new.block (c.take_out.ensures
    ∙ ap (λ k. taken_out k s a.block) c.link.ensures)

pub returns-clause-unhooked : goal.returns-clause-unhooked
returns-clause-unhooked g c =
    let a = c.self.inside in let s = c.s.inside.index in
    let st = carried (λ v i. Stands v c.args.c i) c.self.view_is c.s.view_is c.requires.stands in
    unhook_shows a c.self.invariant c.args.c s st c.take_out.new.block (c.take_out.ensures
    ∙ ap (λ k. taken_out k s a.block) c.link.ensures)
    ∙ (λ i. unhooked (c.self.view_is i) c.args.c (c.s.view_is i))

pub returns-clause-tidy : goal.returns-clause-tidy
returns-clause-tidy g c =
    let a = c.self.inside in
    every_tidy (record { block = c.take_out.new.block; nodes = a.nodes; heads = a.heads; used = a.used })
    (invariant_of-self g c)
