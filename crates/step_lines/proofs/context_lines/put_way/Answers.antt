use Rattle.step_lines.proofs.context_lines.put_way.Goals as goal

pub returns-then-r : goal.returns-then-r
returns-then-r g c = rw c.if-r.true c.put_store.ensures

pub returns-else-r : goal.returns-else-r
returns-else-r g c = rw c.if-r.false c.put_load.ensures
