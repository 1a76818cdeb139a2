use Rattle.kernel_report.proofs.PutFacts.{then, text_is}
use Rattle.record_text.proofs.items.put_leave.Goals as goal

pub returns : goal.returns
returns g c = then c.put_context-so_far.ensures (then c.text-so_far.ensures (then (text_is c.put_name-so_far.ensures c.cause_name.ensures) c.put_leave_end.ensures))
