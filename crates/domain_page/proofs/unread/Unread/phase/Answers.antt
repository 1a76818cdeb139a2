use Rattle.domain_page.proofs.Read.{phase_read}
use Rattle.domain_page.proofs.unread.Unread.phase.Goals as goal

pub returns : goal.returns
returns c =
    rw c.phase_of.ensures (phase_read _ _ _ _ _ _ _ c.byte-number.ensures c.word-done.ensures c.word-total.ensures)
