use Rattle.std.proofs.Common.{Bool, ap}
use Rattle.step_lines.specs.Endings.{host_if}
use Rattle.step_lines.proofs.Joining.{effects_are}
use Rattle.step_lines.proofs.endings.put_host_call.Goals as goal

pub returns : goal.returns
returns g c =
    effects_are c.put_host_if.ensures
    (ap (λ (b : Bool). host_if b c.args.a.now.sight.regs) c.is_ecall_word-made.ensures)
