use Rattle.kernel_report.proofs.PutFacts.{then}
use Rattle.kernel_report.proofs.kernel.put_hart_line.Goals as goal

pub returns : goal.returns
returns g c = rw (← c.hart.view_is)
    (then c.text-so_far.ensures
    (then c.decimal-so_far.ensures (then c.text-so_far-2.ensures (then c.put_mode-so_far.ensures
    (then c.text-so_far-3.ensures
    (then c.hexadecimal-so_far.ensures (then c.text-so_far-4.ensures (then c.put_inside-so_far.ensures
    (then c.text-so_far-5.ensures (then c.decimal-so_far-2.ensures c.text.ensures))))))))))
