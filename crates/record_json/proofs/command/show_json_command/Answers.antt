use Rattle.record_json.proofs.Answered.{as_asked}
use Rattle.record_json.proofs.command.show_json_command.Goals as goal

pub returns-then-selection-clause-shows : goal.returns-then-selection-clause-shows
returns-then-selection-clause-shows g c = as_asked _ _ _ _ _ _ c.if-selection.true c.show_counts.ensures.shows

pub returns-else-selection-clause-shows : goal.returns-else-selection-clause-shows
returns-else-selection-clause-shows g c = as_asked _ _ _ _ _ _ c.if-selection.false c.show_each.ensures.shows
