use Rattle.std.proofs.Common.{Bool, ap}
use Rattle.step_lines.specs.Changes.{jump_text, unless}
use Rattle.step_lines.proofs.Joining.{effects_are}
use Rattle.step_lines.proofs.changes.put_jump.Goals as goal

pub returns : goal.returns
returns g c =
    effects_are c.put_jump_unless.ensures (ap (λ (b : Bool). unless b (jump_text c.args.now)) c.is_next-next.ensures)
