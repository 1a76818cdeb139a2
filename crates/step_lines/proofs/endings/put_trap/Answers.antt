use Rattle.std.proofs.Common.{◌∙◌, Bool, ap}
use Rattle.kernel_report.proofs.PutFacts.{then, text_is}
use Rattle.step_lines.specs.Endings.{trap_value}
use Rattle.step_lines.specs.Sights.{value_in}
use Rattle.step_lines.proofs.endings.put_trap.Goals as goal

pub returns : goal.returns
returns g c =
    then c.text-so_far.ensures (then (text_is c.text-so_far-2.ensures (c.as_bytes.ensures.value ∙ c.cause_name.ensures))
    (then (text_is c.put_trap_value-so_far.ensures
    (ap (λ (b : Bool). trap_value b (value_in c.args.now.now)) c.tells_value-tells.ensures))
    (then c.text-so_far-3.ensures c.hexadecimal.ensures)))
