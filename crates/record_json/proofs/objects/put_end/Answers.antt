use Rattle.kernel_report.proofs.PutFacts.{then, PutsMore-none}
use Rattle.record_json.proofs.objects.put_end.Goals as goal

pub returns : goal.returns
returns g c = then (then c.text-so_far.ensures c.put_first_text.ensures) (PutsMore-none _)
