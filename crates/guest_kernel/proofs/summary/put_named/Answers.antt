use Rattle.std.specs.Prelude.{decimal}
use Rattle.guest_kernel.specs.Summary.{named}
use Rattle.guest_kernel.proofs.Puts.{then, front, handed}
use Rattle.guest_kernel.proofs.summary.put_named.Goals as goal

pub returns-in_err-put_text : goal.returns-in_err-put_text
unfolding named
returns-in_err-put_text g c =
    handed c.from_residual.result _ c.from_residual.ensures.1
    (front (decimal c.args.number) c.in_err-put_text.ensures)

pub returns : goal.returns
unfolding named
returns g c = then c.in_ok-put_text.ensures c.put_number.ensures
