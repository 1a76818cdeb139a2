use Rattle.step_lines.proofs.Joining.{and_then}
use Rattle.step_lines.proofs.changes.put_csrs.Goals as goal

pub returns : goal.returns
returns g c =
    and_then c.put_csr-at.ensures (and_then c.put_csr-at-2.ensures (and_then c.put_csr-at-3.ensures
    (and_then c.put_csr-at-4.ensures (and_then c.put_csr-at-5.ensures (and_then c.put_csr-at-6.ensures
    (and_then c.put_csr-at-7.ensures (and_then c.put_csr-at-8.ensures c.put_csr.ensures)))))))
