use Rattle.std.proofs.Common.{◌∙◌}
use Rattle.kernel_report.proofs.PutFacts.{then, text_is}
use Rattle.step_lines.proofs.columns.put_word.Goals as goal

pub returns-clause-text : goal.returns-clause-text
returns-clause-text g c =
    then c.text-so_far.ensures (then c.hexadecimal-so_far.ensures (then c.text-so_far-2.ensures
    (text_is c.text.ensures (c.as_slice.ensures.value ∙ c.word_text-instruction.ensures))))
