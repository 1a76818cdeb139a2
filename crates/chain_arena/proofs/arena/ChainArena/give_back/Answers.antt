use Rattle.std.proofs.Common.{◌+◌, ◌-◌, ◌<◌, None, length, subst, sym, ap, ◌∙◌, arith}
use Rattle.chain_arena.specs.declared.chain.Chain.{Chain}
use Rattle.chain_arena.specs.declared.node.Link.TheVariants as link
use Rattle.chain_arena.specs.Arena.{IsInUse, Stands, with_payload}
use Rattle.chain_arena.specs.Inside.{arena_of}
use Rattle.chain_arena.specs.Nodes.{next_of, linked_in}
use Rattle.chain_arena.proofs.Arenas.{carried, in_block}
use Rattle.chain_arena.proofs.Takes.{every_tidy, some_used, back_long, back_next, back_keeps, back_shows}
use Rattle.chain_arena.proofs.arena.ChainArena.give_back.Goals as goal

pub overflow_add-at : goal.overflow_add-at
overflow_add-at g c = let small = c.self.invariant.small in omega arith

pub get-requires : goal.get-requires
get-requires g c =
    let s = c.s.inside.index in
    in_block c.self.inside c.self.invariant s (carried IsInUse c.self.view_is c.s.view_is c.requires.in_use)

pub set_content-requires : goal.set_content-requires
set_content-requires g c =
    let s = c.s.inside.index in
    in_block c.self.inside c.self.invariant s (carried IsInUse c.self.view_is c.s.view_is c.requires.in_use)

pub link_in-requires : goal.link_in-requires
link_in-requires g c =
    let a = c.self.inside in let s = c.s.inside.index in
    let u = carried IsInUse c.self.view_is c.s.view_is c.requires.in_use in
    let out = λ (k : Chain) (st : Stands (arena_of a) k s). c.requires.apart k
    (carried (λ v i. Stands v k i) (sym c.self.view_is) (sym c.s.view_is) st) in
    let value = c.get.result.now.value in
    let long = ap length c.set_content.ensures ∙ back_long a c.self.invariant s u out value in
    let made = c.self.invariant.made.long in (
      subst (λ k. s < k) (sym long) (in_block a c.self.invariant s u),
      omega (arith, long),
      subst (λ b. next_of link.Free b (a.nodes + a.heads) < length b) (sym c.set_content.ensures)
          (back_next a c.self.invariant s u out value),
    )

pub overflow_sub-self : goal.overflow_sub-self
overflow_sub-self g c =
    let a = c.self.inside in let s = c.s.inside.index in
    let u = carried IsInUse c.self.view_is c.s.view_is c.requires.in_use in
    let out = λ (k : Chain) (st : Stands (arena_of a) k s). c.requires.apart k
    (carried (λ v i. Stands v k i) (sym c.self.view_is) (sym c.s.view_is) st) in
    let some = some_used a c.self.invariant s u out c.get.result.now.value in omega (arith, some)

pub invariant_of-self : goal.invariant_of-self
invariant_of-self g c =
    let a = c.self.inside in let s = c.s.inside.index in
    let u = carried IsInUse c.self.view_is c.s.view_is c.requires.in_use in
    let out = λ (k : Chain) (st : Stands (arena_of a) k s). c.requires.apart k
    (carried (λ v i. Stands v k i) (sym c.self.view_is) (sym c.s.view_is) st) in
    back_keeps a c.self.invariant s u out c.get.result.now.value c.link_in.new.block (c.link_in.ensures
    ∙ ap (linked_in link.Free s (a.nodes + a.heads)) c.set_content.ensures)

pub returns-clause-freed : goal.returns-clause-freed
returns-clause-freed g c =
    let a = c.self.inside in let s = c.s.inside.index in
    let u = carried IsInUse c.self.view_is c.s.view_is c.requires.in_use in
    let out = λ (k : Chain) (st : Stands (arena_of a) k s). c.requires.apart k
    (carried (λ v i. Stands v k i) (sym c.self.view_is) (sym c.s.view_is) st) in
    back_shows a c.self.invariant s u out c.get.result.now.value c.link_in.new.block (c.link_in.ensures
    ∙ ap (linked_in link.Free s (a.nodes + a.heads)) c.set_content.ensures)
    ∙ (λ i. with_payload (c.self.view_is i) (c.s.view_is i) None)

pub returns-clause-tidy : goal.returns-clause-tidy
returns-clause-tidy g c =
    let a = c.self.inside in
    every_tidy (record { block = c.link_in.new.block; nodes = a.nodes; heads = a.heads; used = a.used - 1 })
    (invariant_of-self g c)
