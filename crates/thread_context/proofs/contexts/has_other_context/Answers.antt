use Rattle.thread_context.proofs.Ending.{list_any-if_before, list_any-if_behind}
use Rattle.thread_context.proofs.contexts.has_other_context.Goals as goal

pub returns-then-before : goal.returns-then-before
returns-then-before c = list_any-if_before _ _ _ _ c.requires c.has_context-before.ensures c.if-before.true

pub returns-else-before : goal.returns-else-before
returns-else-before c = list_any-if_behind _ _ _ _ _ c.requires c.has_context-before.ensures c.if-before.false c.has_context-behind.ensures
