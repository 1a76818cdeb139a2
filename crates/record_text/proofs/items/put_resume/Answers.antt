use Rattle.kernel_report.proofs.PutFacts.{then}
use Rattle.record_text.proofs.items.put_resume.Goals as goal

pub returns : goal.returns
returns g c = then c.put_context-so_far.ensures (then c.text-so_far.ensures (then c.put_program-so_far.ensures (then c.text-so_far-2.ensures c.put_word.ensures)))
