use Rattle.std.proofs.Common.{◌≡◌, ◌+◌, sym, ap, subst, ◌∙◌, arith, add-one}
use Rattle.chain_arena.specs.declared.node.Link.TheVariants as link
use Rattle.chain_arena.specs.Inside.{AreMade}
use Rattle.chain_arena.specs.Nodes.{payload_of}
use Rattle.chain_arena.proofs.Nodes.{payload-linked_in}
use Rattle.chain_arena.proofs.Opens.{begun, alone_made, begun_more, free_next, opened, opened_shows}
use Rattle.chain_arena.proofs.Takes.{every_tidy}
use Rattle.chain_arena.proofs.arena.ChainArena.open.Goals as goal

pub loop-i-init : goal.loop-i-init
loop-i-init g c = record {
  made = alone_made c.in_ok-block.block c.args.nodes c.args.heads c.in_ok-block.ensures;
  empty = c.in_ok-block.ensures.empty;
}

pub link_in-requires : goal.link_in-requires
link_in-requires g c =
    let long = c.loop-i.invariant.made.long in let more = c.loop-i-test.true in
    (omega arith, omega arith, free_next c.loop-i.block c.args.nodes c.args.heads c.loop-i.i c.loop-i.invariant.made)

pub loop-i-preserved : goal.loop-i-preserved
loop-i-preserved g c = record {
  made = subst (λ i. AreMade c.link_in.new.block c.args.nodes c.args.heads (begun c.args.heads i))
      (sym (add-one c.loop-i.i))
      (begun_more c.loop-i.block c.link_in.new.block c.args.nodes c.args.heads c.loop-i.i c.loop-i.invariant.made
      c.loop-i-test.true c.link_in.ensures);
  empty = λ j. ap (λ l. payload_of l j) c.link_in.ensures
      ∙ payload-linked_in link.Free c.loop-i.i (c.args.nodes + c.args.heads) c.loop-i.block j
      ∙ c.loop-i.invariant.empty j;
}

pub invariant_of-result : goal.invariant_of-result
invariant_of-result g c =
    let n = c.args.nodes in let m = c.args.heads in
    let all : c.loop-i.i ≡ n = omega arith in
    opened c.loop-i.block n m (subst (λ i. AreMade c.loop-i.block n m (begun m i)) all c.loop-i.invariant.made)
    c.loop-i.invariant.empty (omega arith)

pub returns-clause-empty : goal.returns-clause-empty
returns-clause-empty g c =
    let n = c.args.nodes in let m = c.args.heads in
    let all : c.loop-i.i ≡ n = omega arith in
    opened_shows c.loop-i.block n m (subst (λ i. AreMade c.loop-i.block n m (begun m i)) all c.loop-i.invariant.made)
    c.loop-i.invariant.empty

pub returns-clause-tidy : goal.returns-clause-tidy
returns-clause-tidy g c =
    every_tidy (record {
      block = c.loop-i.block;
      nodes = c.args.nodes;
      heads = c.args.heads;
      used = 0;
    }) (invariant_of-result g c)
