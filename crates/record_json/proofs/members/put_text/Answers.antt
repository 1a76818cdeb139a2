use Rattle.kernel_report.proofs.PutFacts.{then}
use Rattle.record_json.proofs.members.put_text.Goals as goal

pub returns : goal.returns
returns g c = then c.text-so_far.ensures c.put_first_text.ensures
