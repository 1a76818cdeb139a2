use Rattle.hypercalls.proofs.Freed.{free_unmap, freed_through}
use Rattle.hypercalls.proofs.control.Control.unmap_call.Goals as goal

pub returns-clause-freed : goal.returns-clause-freed
returns-clause-freed c = rw (← c.self.view_is) (freed_through c.self.inside.resources _ _ _ _ (free_unmap _ _ _) c.unmap-done.ensures.value c.remapped.ensures.same.resources)
