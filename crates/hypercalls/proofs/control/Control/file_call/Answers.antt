use Rattle.hypercalls.proofs.Freed.{free_file, freed_through}
use Rattle.hypercalls.proofs.control.Control.file_call.Goals as goal

pub returns-clause-freed : goal.returns-clause-freed
returns-clause-freed c = rw (← c.self.view_is) (freed_through c.self.inside.resources _ _ _ _ (free_file _ _ _) c.file_resource-made.ensures.value c.answer.ensures.same.resources)
