use Rattle.std.proofs.Common.{◌∙◌}
use Rattle.kernel_report.proofs.PutFacts.{text_is}
use Rattle.kernel_report.proofs.lines.decimal.Goals as goal

pub returns : goal.returns
returns g c = text_is c.text.ensures (c.as_bytes.ensures.value ∙ c.format.ensures.text)
