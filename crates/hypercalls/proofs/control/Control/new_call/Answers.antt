use Rattle.hypercalls.proofs.Freed.{free_new, freed_through}
use Rattle.hypercalls.proofs.control.Control.new_call.Goals as goal

pub returns-clause-freed : goal.returns-clause-freed
returns-clause-freed c = rw (← c.self.view_is) (freed_through c.self.inside.resources _ _ _ _ (free_new _ _ _) c.new_resource-made.ensures.value c.answer.ensures.same.resources)
