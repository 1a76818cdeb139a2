use Rattle.tool_commands.proofs.KindFacts.{unnamed_at}
use Rattle.tool_commands.proofs.kinds.kinds_of_names.Goals as goal

pub returns-in-None : goal.returns-in-None
returns-in-None c =
    unnamed_at c.args.names.now c.loop-name.name-index _ c.loop-name.kinds _ c.loop-name-test.true c.in-None.ensures
    c.loop-name.invariant.so_far
