use Rattle.std.proofs.Common.{ap}
use Rattle.cloak_model.specs.Report.{harts_lines}
use Rattle.kernel_report.proofs.PutFacts.{then, text_is}
use Rattle.kernel_report.proofs.kernel.put_kernel.Goals as goal

pub returns : goal.returns
returns g c = then c.put_console-so_far.ensures
    (then c.put_digest-so_far.ensures
    (then c.put_digest-so_far-2.ensures (text_is c.put_harts.ensures (ap (harts_lines 0) c.as_slice.ensures.value))))
