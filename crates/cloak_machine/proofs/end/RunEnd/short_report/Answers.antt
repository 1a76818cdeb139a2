use Rattle.std.proofs.Common.{refl, ap}
use Rattle.std.specs.List.{concat}
use Rattle.kernel_report.proofs.PutFacts.{then, text_is, Puts-all}
use Rattle.cloak_machine.proofs.end.RunEnd.short_report.Goals as goal

pub returns : goal.returns
returns g c = Puts-all _ _ _ refl
    (then c.put_stop_line-so_far.ensures
    (then c.put_number-so_far.ensures (then c.put_number-so_far-2.ensures (then c.put_refusals-so_far.ensures
    (text_is c.put_lines.ensures (ap concat c.all.ensures))))))
