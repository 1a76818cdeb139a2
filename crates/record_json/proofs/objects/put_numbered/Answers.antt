use Rattle.kernel_report.proofs.PutFacts.{then, PutsMore-none}
use Rattle.record_json.proofs.objects.put_numbered.Goals as goal

pub returns : goal.returns
returns g c =
    then (then c.text-so_far.ensures c.put_first_text-so_far.ensures) (then c.put_number.ensures (PutsMore-none _))
