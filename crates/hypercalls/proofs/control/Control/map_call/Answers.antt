use Rattle.hypercalls.proofs.Freed.{free_map, freed_through}
use Rattle.hypercalls.proofs.control.Control.map_call.Goals as goal

pub returns-clause-freed : goal.returns-clause-freed
returns-clause-freed c = rw (← c.self.view_is) (freed_through c.self.inside.resources _ _ _ _ (free_map _ _ _) c.map-done.ensures.value c.remapped.ensures.same.resources)
