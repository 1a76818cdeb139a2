use Rattle.kernel_report.proofs.PutFacts.{put_behind, PutsMore-failed}
use Rattle.kernel_report.proofs.lines.text.Goals as goal

pub returns-in-Ok : goal.returns-in-Ok
returns-in-Ok g c = put_behind c.in-Ok.is c.put_all.ensures.ok c.put_all.ensures.err c.put_all.ensures.faults

pub returns-in-Err : goal.returns-in-Err
returns-in-Err g c = rw c.in-Err.is (PutsMore-failed _ _ _ _)
