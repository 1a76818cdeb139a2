use Rattle.std.proofs.Common.{Bool, ap}
use Rattle.step_lines.specs.Contexts.{goes_on}
use Rattle.step_lines.proofs.Joining.{effects_are}
use Rattle.step_lines.proofs.context_lines.put_left_or_on.Goals as goal

pub returns-then-now : goal.returns-then-now
returns-then-now g c =
    rw c.if-now.true (effects_are c.put_goes_on.ensures
    (ap (λ (b : Bool). goes_on b c.args.a.now.sight.pc c.args.now.now.pc) c.is_plain-plain.ensures))

pub returns-else-now : goal.returns-else-now
returns-else-now g c = rw c.if-now.false c.put_one.ensures
