use Rattle.std.proofs.Common.{refl, None, Some}
use Rattle.tool_commands.proofs.WordFacts.{shows_meant}
use Rattle.tool_commands.proofs.answering.show.Goals as goal

pub returns-in-Some : goal.returns-in-Some
returns-in-Some g c = shows_meant _ (Some c.in-Some.selection) _ _ _ _ _ c.in-Some.ensures c.show_as.ensures

pub returns-in-None : goal.returns-in-None
returns-in-None g c =
    shows_meant _ None _ _ _ _ _ c.in-None.ensures (record { shown = c.say.ensures; untouched = refl })
