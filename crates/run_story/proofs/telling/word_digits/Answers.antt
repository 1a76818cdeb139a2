use Rattle.std.proofs.Common.{◌∙◌, ap}
use Rattle.hex.specs.Hex.{encode_lower}
use Rattle.run_story.proofs.telling.word_digits.Goals as goal

pub returns : goal.returns
returns c = c.in-Ok.ensures.written ∙ ap encode_lower (c.as_slice.ensures ∙ c.to_be_bytes.ensures)
