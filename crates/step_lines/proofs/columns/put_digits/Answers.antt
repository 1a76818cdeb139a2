use Rattle.std.proofs.Common.{◌≡◌, ◌-◌, length, ap}
use Rattle.kernel_report.proofs.PutFacts.{then, text_is}
use Rattle.step_lines.specs.Effects.{pad}
use Rattle.step_lines.proofs.columns.put_digits.Goals as goal

pub returns : goal.returns
returns g c =
    let e : c.saturating_sub.result ≡ c.args.width - length c.args.digits.now =
    c.saturating_sub.ensures in
    then (text_is c.put_pad-so_far.ensures (ap pad e)) c.text.ensures
