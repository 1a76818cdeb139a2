use Rattle.std.proofs.Common.{◌≡◌, ◌-◌, length, ap}
use Rattle.kernel_report.proofs.PutFacts.{then, text_is}
use Rattle.step_lines.specs.Effects.{pad}
use Rattle.step_lines.proofs.context_lines.put_context_digits.Goals as goal

pub returns : goal.returns
returns g c =
    let e : c.saturating_sub.result ≡ 5 - length c.args.digits.now = c.saturating_sub.ensures in
    then c.text-so_far.ensures (then c.text-so_far-2.ensures (text_is c.put_pad.ensures (ap pad e)))
