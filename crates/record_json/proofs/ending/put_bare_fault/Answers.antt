use Rattle.std.proofs.Common.{codes, [], sym}
use Rattle.kernel_report.proofs.PutFacts.{then, text_is}
use Rattle.record_json.specs.Members.{with_text}
use Rattle.record_json.proofs.Texts.{line_text}
use Rattle.record_json.proofs.ending.put_bare_fault.Goals as goal

pub returns : goal.returns
returns g c =
    text_is (then (then c.text-so_far.ensures c.put_first_text-so_far.ensures) c.text.ensures)
    (sym (line_text (with_text (codes "fault") c.args.name.now) []))
