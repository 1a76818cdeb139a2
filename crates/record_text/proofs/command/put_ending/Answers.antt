use Rattle.kernel_report.proofs.PutFacts.{PutsMore-failed}
use Rattle.record_text.proofs.Answered.{puts_behind}
use Rattle.record_text.proofs.command.put_ending.Goals as goal

pub returns-in-Ok : goal.returns-in-Ok
returns-in-Ok g c = rw c.in-Ok.is (puts_behind _ _ _ _ _ c.show_fault.result _ c.show_fault.ensures)

pub returns-in-Err : goal.returns-in-Err
returns-in-Err g c = rw c.in-Err.is (PutsMore-failed _ _ _ _)
