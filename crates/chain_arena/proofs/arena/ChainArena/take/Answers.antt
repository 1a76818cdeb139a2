use Rattle.std.proofs.Common.{ℕ, ◌+◌, ◌<◌, ◌≤◌, Some, true, length, subst, sym, ap, ◌∙◌, arith}
use Rattle.chain_arena.specs.declared.node.Link.TheVariants as link
use Rattle.chain_arena.specs.Arena.{IsFree, IsTidyArena, with_payload}
use Rattle.chain_arena.specs.Nodes as nodes
use Rattle.chain_arena.proofs.Nodes.{read_next, length-taken_out}
use Rattle.chain_arena.proofs.Takes.{every_tidy, all_taken, was_free, fewer_used, take_after, take_before, slot_in_block, take_keeps, take_shows, take_apart}
use Rattle.chain_arena.proofs.arena.ChainArena.take.Goals as goal

pub overflow_add-at : goal.overflow_add-at
overflow_add-at g c = let small = c.self.invariant.small in omega arith

pub get-requires : goal.get-requires
get-requires g c = let long = c.self.invariant.made.long in omega arith

pub take_out-requires : goal.take_out-requires
take_out-requires g c =
    let a = c.self.inside in let s = c.get-s.result in
    let is_first = c.get-s.ensures ∙ read_next link.Free (a.nodes + a.heads) a.block c.get.result.now c.get.ensures in
    record {
      within = slot_in_block a c.self.invariant s is_first c.if-s-self.true;
      next = take_after a c.self.invariant s is_first c.if-s-self.true;
      previous = take_before a c.self.invariant s is_first c.if-s-self.true;
    }

pub set_content-requires : goal.set_content-requires
set_content-requires g c =
    let a = c.self.inside in let s = c.get-s.result in
    let is_first = c.get-s.ensures ∙ read_next link.Free (a.nodes + a.heads) a.block c.get.result.now c.get.ensures in
    subst (λ k. s < k) (sym (ap length c.take_out.ensures ∙ length-taken_out link.Free s a.block))
    (slot_in_block a c.self.invariant s is_first c.if-s-self.true)

pub overflow_add-self : goal.overflow_add-self
overflow_add-self g c =
    let a = c.self.inside in let s = c.get-s.result in let small = c.self.invariant.small in
    let is_first = c.get-s.ensures ∙ read_next link.Free (a.nodes + a.heads) a.block c.get.result.now c.get.ensures in
    let fewer = fewer_used a c.self.invariant s is_first c.if-s-self.true in omega (arith, fewer, small)

pub invariant_of-self : goal.invariant_of-self
invariant_of-self g c =
    let a = c.self.inside in let s = c.get-s.result in
    let is_first = c.get-s.ensures ∙ read_next link.Free (a.nodes + a.heads) a.block c.get.result.now c.get.ensures in
    take_keeps a c.self.invariant s is_first c.if-s-self.true c.args.value c.set_content.new.block
    (c.set_content.ensures ∙ ap (nodes.with_content s true c.args.value) c.take_out.ensures)

pub returns-then-s-self-clause-free : goal.returns-then-s-self-clause-free
returns-then-s-self-clause-free g c =
    let a = c.self.inside in let s = c.get-s.result in
    let is_first = c.get-s.ensures ∙ read_next link.Free (a.nodes + a.heads) a.block c.get.result.now c.get.ensures in
    subst (λ v. IsFree v s) c.self.view_is (was_free a c.self.invariant s is_first c.if-s-self.true)

pub returns-then-s-self-clause-taken : goal.returns-then-s-self-clause-taken
returns-then-s-self-clause-taken g c =
    let a = c.self.inside in let s = c.get-s.result in
    let is_first = c.get-s.ensures ∙ read_next link.Free (a.nodes + a.heads) a.block c.get.result.now c.get.ensures in
    take_shows a c.self.invariant s is_first c.if-s-self.true c.args.value c.set_content.new.block
    (c.set_content.ensures ∙ ap (nodes.with_content s true c.args.value) c.take_out.ensures)
    ∙ ap (λ v. with_payload v s (Some c.args.value)) c.self.view_is

pub returns-then-s-self-clause-apart : goal.returns-then-s-self-clause-apart
returns-then-s-self-clause-apart g c =
    let a = c.self.inside in let s = c.get-s.result in
    let is_first = c.get-s.ensures ∙ read_next link.Free (a.nodes + a.heads) a.block c.get.result.now c.get.ensures in
    take_apart a c.self.invariant s is_first c.if-s-self.true c.args.value c.set_content.new.block
    (c.set_content.ensures ∙ ap (nodes.with_content s true c.args.value) c.take_out.ensures)

pub returns-else-s-self-clause-full : goal.returns-else-s-self-clause-full
returns-else-s-self-clause-full g c =
    let a = c.self.inside in
    let is_first = c.get-s.ensures ∙ read_next link.Free (a.nodes + a.heads) a.block c.get.result.now c.get.ensures in
    subst (λ v. (s : ℕ) → IsFree v s → ⊥) c.self.view_is
    (all_taken a c.self.invariant (subst (λ i. a.nodes ≤ i) is_first c.if-s-self.false))

pub returns-then-s-self-clause-tidy : goal.returns-then-s-self-clause-tidy
returns-then-s-self-clause-tidy g c =
    let a = c.self.inside in
    every_tidy (record { block = c.set_content.new.block; nodes = a.nodes; heads = a.heads; used = a.used + 1 })
    (invariant_of-self g c)

pub returns-else-s-self-clause-tidy : goal.returns-else-s-self-clause-tidy
returns-else-s-self-clause-tidy g c = subst IsTidyArena c.self.view_is (every_tidy c.self.inside c.self.invariant)
