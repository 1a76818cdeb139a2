use Rattle.std.proofs.Common.{codes, [], ◌∷◌, sym}
use Rattle.kernel_report.proofs.PutFacts.{then, text_is, PutsMore-none}
use Rattle.record_json.specs.Members.{with_number, with_text}
use Rattle.record_json.proofs.Texts.{line_text}
use Rattle.record_json.proofs.ending.put_numbered_fault.Goals as goal

pub returns : goal.returns
returns g c =
    text_is (then (then c.text-so_far.ensures c.put_first_text-so_far.ensures)
    (then (then c.put_number-so_far.ensures (PutsMore-none _)) c.text.ensures))
    (sym (line_text (with_text (codes "fault") c.args.name.now) (with_number c.args.field.now c.args.n ∷ [])))
