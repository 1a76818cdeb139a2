use Rattle.kernel_report.proofs.PutFacts.{then, text_is}
use Rattle.record_json.proofs.Texts.{six_text}
use Rattle.record_json.proofs.members.put_six.Goals as goal

pub returns : goal.returns
returns g c =
    text_is (then c.text-so_far.ensures (then c.decimal-so_far.ensures (then c.put_more_numbers-so_far.ensures c.text.ensures)))
    (six_text c.args.numbers.now c.told-numbers)
