use Rattle.kernel_report.proofs.PutFacts.{then, PutsMore-none}
use Rattle.record_json.proofs.fields.put_bare.Goals as goal

pub returns : goal.returns
returns g c = then c.put_item_name.ensures (PutsMore-none _)
