use Rattle.std.proofs.Common.{◌∙◌}
use Rattle.kernel_report.proofs.PutFacts.{then, text_is}
use Rattle.step_lines.proofs.Joining.{one_effect}
use Rattle.step_lines.proofs.context_lines.put_absent.Goals as goal

pub returns : goal.returns
returns g c =
    one_effect (then c.put_gap-so_far.ensures (then c.text-so_far.ensures
    (text_is c.text.ensures (c.as_bytes.ensures.value ∙ c.cause_name.ensures))))
