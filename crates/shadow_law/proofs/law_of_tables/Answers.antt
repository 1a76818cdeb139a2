use Rattle.shadow_law.proofs.Tables.{write_agrees, touch_agrees, held_agrees, grant_agrees, refuse_agrees, remap_agrees}
use Rattle.shadow_law.proofs.Changes.{change_keeps}
use Rattle.shadow_law.proofs.law_of_tables.Goals as goal

pub returns-clause-write : goal.returns-clause-write
returns-clause-write c = write_agrees

pub returns-clause-touch : goal.returns-clause-touch
returns-clause-touch c = touch_agrees

pub returns-clause-held : goal.returns-clause-held
returns-clause-held c = held_agrees change_keeps

pub returns-clause-grant : goal.returns-clause-grant
returns-clause-grant c = grant_agrees

pub returns-clause-refuse : goal.returns-clause-refuse
returns-clause-refuse c = refuse_agrees

pub returns-clause-remap : goal.returns-clause-remap
returns-clause-remap c = remap_agrees
