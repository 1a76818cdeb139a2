use Rattle.std.proofs.Common.{◌∙◌}
use Rattle.kernel_report.proofs.PutFacts.{then, text_is}
use Rattle.step_lines.proofs.endings.put_host.Goals as goal

pub returns : goal.returns
returns g c =
    then c.text-so_far.ensures (then (text_is c.text-so_far-2.ensures (c.as_bytes.ensures.value ∙ c.host_name.ensures)) (then c.text-so_far-3.ensures
    (then c.hexadecimal-so_far.ensures (then c.text-so_far-4.ensures c.hexadecimal.ensures))))
