use Rattle.std.proofs.Common.{◌∙◌}
use Rattle.guest_kernel.proofs.Puts.{text_is}
use Rattle.guest_kernel.proofs.summary.put_number.Goals as goal

pub returns : goal.returns
returns g c = text_is c.put_text.ensures (c.as_bytes.ensures.value ∙ c.format.ensures.text)
