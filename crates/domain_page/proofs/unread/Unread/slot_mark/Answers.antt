use Rattle.std.proofs.Common.{sym, ◌∙◌}
use Rattle.domain_page.proofs.Read.{marked_none}
use Rattle.domain_page.proofs.unread.Unread.slot_mark.Goals as goal

pub returns-in-None : goal.returns-in-None
returns-in-None c = λ x rest right same e.
    marked_none _ _ _ c.mark-mark.ensures x rest right (sym c.in-None.is ∙ same) e
