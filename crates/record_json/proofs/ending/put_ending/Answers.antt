use Rattle.record_json.proofs.ending.put_ending.Goals as goal

pub returns-in-Unfit : goal.returns-in-Unfit
returns-in-Unfit g c = rw c.in-Unfit.is c.put_numbered_fault.ensures

pub returns-in-Unread : goal.returns-in-Unread
returns-in-Unread g c = rw c.in-Unread.is c.put_bare_fault.ensures
