use Rattle.kernel_report.proofs.PutFacts.{then, text_is}
use Rattle.record_json.proofs.Texts.{more_numbers-take_more}
use Rattle.record_json.proofs.members.put_more_numbers.Goals as goal

pub loop-n-preserved : goal.loop-n-preserved
loop-n-preserved g c =
    text_is (then c.loop-n.invariant (then c.text-so_far.ensures c.decimal-so_far.ensures))
    (more_numbers-take_more _ _ _ c.loop-n-test.true)
