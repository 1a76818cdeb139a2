use Rattle.kernel_report.proofs.PutFacts.{then, PutsMore-none}
use Rattle.record_json.proofs.fields.put_inward.Goals as goal

pub returns : goal.returns
returns g c =
    then c.put_item_name-so_far.ensures (then c.put_number.ensures (PutsMore-none _))
