use Rattle.std.proofs.Common.{Bool, ap}
use Rattle.step_lines.specs.Contexts.{hypercall_if}
use Rattle.step_lines.proofs.Joining.{effects_are}
use Rattle.step_lines.proofs.context_lines.put_hypercalls.Goals as goal

pub returns : goal.returns
returns g c =
    effects_are c.put_hypercall_if.ensures
    (ap (λ (b : Bool). hypercall_if b c.args.a.now.sight.regs) c.is_ecall_word-made.ensures)
