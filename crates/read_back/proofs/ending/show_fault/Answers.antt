use Rattle.io_traits.proofs.ToldFacts.{puts}
use Rattle.read_back.proofs.ending.show_fault.Goals as goal

pub returns-in-Unfit : goal.returns-in-Unfit
returns-in-Unfit g c = rw c.in-Unfit.is c.show_numbered.ensures

pub returns-in-Unread : goal.returns-in-Unread
returns-in-Unread g c =
    rw c.in-Unread.is (puts _ _ _ _ _ c.put_all.result c.put_all.ensures.ok c.put_all.ensures.err c.put_all.ensures.faults)
