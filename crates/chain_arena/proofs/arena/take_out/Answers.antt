use Rattle.std.proofs.Common.{◌<◌, length, subst, sym, ap, ◌∙◌}
use Rattle.chain_arena.specs.Nodes.{with_next, with_previous}
use Rattle.chain_arena.proofs.Nodes.{length-with_next, read_next, read_previous}
use Rattle.chain_arena.proofs.arena.take_out.Goals as goal

pub set_next-requires : goal.set_next-requires
set_next-requires g c =
    let is_previous = c.get-previous.ensures
    ∙ read_previous c.args.link c.args.s c.args.block.now c.get-node.result.now c.get-node.ensures in
    subst (λ i. i < length c.args.block.now) (sym is_previous) c.requires.previous

pub set_previous-requires : goal.set_previous-requires
set_previous-requires g c =
    let is_next = c.get-next.ensures ∙ read_next c.args.link c.args.s c.args.block.now c.get-node.result.now
    c.get-node.ensures in
    let long = ap length c.set_next.ensures ∙ length-with_next c.args.link c.get-previous.result c.get-next.result
    c.args.block.now in
    subst (λ n. c.get-next.result < n) (sym long)
    (subst (λ i. i < length c.args.block.now) (sym is_next) c.requires.next)

pub returns : goal.returns
returns g c =
    let k = c.args.link in
    let is_next = c.get-next.ensures ∙ read_next k c.args.s c.args.block.now c.get-node.result.now
    c.get-node.ensures in
    let is_previous = c.get-previous.ensures
    ∙ read_previous k c.args.s c.args.block.now c.get-node.result.now c.get-node.ensures in
    c.set_previous.ensures ∙ ap (with_previous k c.get-next.result c.get-previous.result) c.set_next.ensures
    ∙ (λ i. with_previous k (is_next i) (is_previous i) (with_next k (is_previous i) (is_next i) c.args.block.now))
