use Rattle.kernel_report.proofs.PutFacts.{then, text_is}
use Rattle.record_text.proofs.items.put_call.Goals as goal

pub returns : goal.returns
returns g c = then c.text-so_far.ensures (then (text_is c.put_name-so_far.ensures c.call_name.ensures) (then c.text-so_far-2.ensures (then c.put_word-so_far.ensures (then c.text-so_far-3.ensures c.put_words.ensures))))
