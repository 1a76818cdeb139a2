use Rattle.kernel_report.proofs.PutFacts.{then}
use Rattle.record_json.proofs.members.put_first_text.Goals as goal

pub returns : goal.returns
returns g c = then c.put_quoted-so_far.ensures (then c.text-so_far.ensures c.put_quoted.ensures)
