use Rattle.domain_page.proofs.Read.{slot_some}
use Rattle.domain_page.proofs.unread.Unread.slot.Goals as goal

pub returns : goal.returns
returns c =
    rw c.hart_of.ensures
    (slot_some _ _ _ _ _ _ _ _ _ _ _ _ _ c.byte.ensures c.byte-hart.ensures c.phase-phase.ensures c.word-space.ensures
    c.word-pc.ensures c.regs-regs.ensures c.if-byte-eq0.false)
