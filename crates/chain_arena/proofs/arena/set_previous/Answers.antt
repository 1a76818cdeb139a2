use Rattle.std.proofs.Common.{◌∙◌, ap, slice_set}
use Rattle.chain_arena.proofs.Nodes.{wrote_previous}
use Rattle.chain_arena.proofs.arena.set_previous.Goals as goal
use Rattle.chain_arena.specs.declared.node.Links.{Links}
use Rattle.chain_arena.specs.declared.node.Node.{Node}

pub returns : goal.returns
returns g c =
    let node = c.get_mut.result.now in
    ap (λ (l : Links). (let w : Node g.row.T.Denot = record node { previous = l } in
    slice_set c.args.block.now c.args.i w)) c.set.ensures
    ∙ wrote_previous c.args.link c.args.i c.args.to c.args.block.now node c.get_mut.ensures.value
