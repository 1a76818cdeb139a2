use Rattle.kernel_report.proofs.PutFacts.{then}
use Rattle.record_json.proofs.members.put_six_numbers.Goals as goal

pub returns : goal.returns
returns g c =
    then c.text-so_far.ensures (then c.put_quoted-so_far.ensures (then c.text-so_far-2.ensures c.put_six.ensures))
