use Rattle.std.proofs.Common.{◌∙◌, true, false, refl, sym}
use Rattle.tool_commands.proofs.WordFacts.{draw_meant}
use Rattle.tool_commands.proofs.answering.draw.Goals as goal

pub returns-then-taken : goal.returns-then-taken
returns-then-taken g c =
    draw_meant true _ _ _ _ _ _ _ (sym c.if-taken.true ∙ c.is_taken-taken.ensures)
    (record { shown = c.say.ensures; untouched = refl })

pub returns-else-taken : goal.returns-else-taken
returns-else-taken g c =
    draw_meant false _ _ _ _ _ _ _ (sym c.if-taken.false ∙ c.is_taken-taken.ensures) c.draw_command.ensures
