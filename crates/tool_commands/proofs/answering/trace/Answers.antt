use Rattle.tool_commands.proofs.WordFacts.{traces_meant}
use Rattle.tool_commands.proofs.answering.trace.Goals as goal

pub returns : goal.returns
returns g c =
    traces_meant _ _ c.args.request.now.program _ _ c.choice_asked-choice.result _ _ _ _ c.old_asked.ensures
    c.choice_asked-choice.ensures c.trace_from.ensures
