use Rattle.std.proofs.Common.{◌∙◌, ap, ℕ}
use Rattle.cloak_model.specs.Csr.{satp_of}
use Rattle.cloak_model.specs.declared.access.Access.{Access}
use Rattle.step_lines.specs.Leading.{led_by}
use Rattle.step_lines.proofs.memory.led.Goals as goal

pub returns : goal.returns
returns c =
    c.led_by.ensures ∙ (ap (λ (n : ℕ). led_by c.args.frames.now n c.access_of-a.result) c.satp_of-satp.ensures
    ∙ ap (λ (x : Access). led_by c.args.frames.now (satp_of c.args.h.now.csrs) x) c.access_of-a.ensures)
