use Rattle.record_text.proofs.Answered.{puts_behind}
use Rattle.run_trace.proofs.command.put_last_of_program.Goals as goal

pub returns-in-Whole : goal.returns-in-Whole
returns-in-Whole g c number turns s stands fits =
    rw c.in-Whole.is (c.put_program_end.ensures number turns s stands (fits c.in-Whole.is))

pub returns-in-Unfit : goal.returns-in-Unfit
returns-in-Unfit g c number turns s stands fits =
    rw c.in-Unfit.is (puts_behind _ _ _ _ tt c.show_fault.result _ (rw c.in-Unfit.is at c.show_fault.ensures))

pub returns-in-Fault : goal.returns-in-Fault
returns-in-Fault g c number turns s stands fits =
    rw c.in-Fault.is (puts_behind _ _ _ _ tt c.show_fault-in-Fault.result _ (rw c.in-Fault.is at c.show_fault-in-Fault.ensures))

pub returns-in-Unread : goal.returns-in-Unread
returns-in-Unread g c number turns s stands fits =
    rw c.in-Unread.is (puts_behind _ _ _ _ tt c.show_fault-in-Unread.result _ (rw c.in-Unread.is at c.show_fault-in-Unread.ensures))
