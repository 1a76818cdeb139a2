use Rattle.std.proofs.Common.{◌∙◌}
use Rattle.kernel_report.proofs.PutFacts.{then, text_is}
use Rattle.step_lines.proofs.context_lines.put_hypercall.Goals as goal

pub returns : goal.returns
returns g c =
    then c.text-so_far.ensures (then (text_is c.text-so_far-2.ensures (c.as_bytes.ensures.value ∙ c.hypercall_name.ensures))
    (then c.put_register_word-so_far.ensures (then c.put_register_word-so_far-2.ensures
    (then c.put_register_word-so_far-3.ensures (then c.put_register_word-so_far-4.ensures
    (then c.text-so_far-3.ensures c.put_register_word.ensures))))))
