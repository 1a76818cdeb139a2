use Rattle.std.proofs.Common.{◌∙◌, ap}
use Rattle.hex.specs.Hex.{encode_lower}
use Rattle.kernel_report.proofs.PutFacts.{text_is}
use Rattle.kernel_report.proofs.lines.digest.Goals as goal

pub returns : goal.returns
returns g c = text_is c.text.ensures (c.in-Ok.ensures.written ∙ ap encode_lower c.as_slice.ensures)
