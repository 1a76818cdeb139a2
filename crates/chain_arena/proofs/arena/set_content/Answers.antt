use Rattle.chain_arena.proofs.Nodes.{wrote_payload}
use Rattle.chain_arena.proofs.arena.set_content.Goals as goal

pub returns : goal.returns
returns g c = wrote_payload c.args.i c.args.used c.args.value c.args.block.now c.get_mut-node.result.now
    c.get_mut-node.ensures.value
