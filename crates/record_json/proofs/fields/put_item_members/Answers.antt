use Rattle.record_json.specs.Objects.{item_members}
use Rattle.record_json.proofs.fields.put_item_members.Goals as goal

pub returns-in-Cipher : goal.returns-in-Cipher
unfolding item_members
returns-in-Cipher g c = rw c.in-Cipher.is c.put_cipher.ensures

pub returns-in-Put : goal.returns-in-Put
unfolding item_members
returns-in-Put g c = rw c.in-Put.is c.put_put.ensures

pub returns-in-Leave : goal.returns-in-Leave
unfolding item_members
returns-in-Leave g c = rw c.in-Leave.is c.put_leave.ensures

pub returns-in-Step : goal.returns-in-Step
unfolding item_members
returns-in-Step g c = rw c.in-Step.is c.put_bare.ensures

pub returns-in-Close : goal.returns-in-Close
unfolding item_members
returns-in-Close g c = rw c.in-Close.is c.put_bare-in-Close.ensures

pub returns-in-End : goal.returns-in-End
unfolding item_members
returns-in-End g c = rw c.in-End.is c.put_bare-in-End.ensures

pub returns-in-Ok : goal.returns-in-Ok
unfolding item_members
returns-in-Ok g c = rw c.in-Ok.is c.put_inward.ensures

pub returns-in-Absent : goal.returns-in-Absent
unfolding item_members
returns-in-Absent g c = rw c.in-Absent.is c.put_inward_with.ensures

pub returns-in-Word : goal.returns-in-Word
unfolding item_members
returns-in-Word g c = rw c.in-Word.is c.put_inward_with-in-Word.ensures

pub returns-in-Timer : goal.returns-in-Timer
unfolding item_members
returns-in-Timer g c = rw c.in-Timer.is c.put_inward-in-Timer.ensures

pub returns-in-Resume : goal.returns-in-Resume
unfolding item_members
returns-in-Resume g c = rw c.in-Resume.is c.put_resume.ensures

pub returns-in-Stopped : goal.returns-in-Stopped
unfolding item_members
returns-in-Stopped g c = rw c.in-Stopped.is c.put_inward-in-Stopped.ensures

pub returns-in-Ended : goal.returns-in-Ended
unfolding item_members
returns-in-Ended g c = rw c.in-Ended.is c.put_inward-in-Ended.ensures
