use Rattle.record_text.specs.Items.{item_text}
use Rattle.record_text.proofs.items.put_item.Goals as goal

pub returns-in-Cipher : goal.returns-in-Cipher
unfolding item_text
returns-in-Cipher g c = rw c.in-Cipher.is c.put_cipher.ensures

pub returns-in-Put : goal.returns-in-Put
unfolding item_text
returns-in-Put g c = rw c.in-Put.is c.put_put.ensures

pub returns-in-Ok : goal.returns-in-Ok
unfolding item_text
returns-in-Ok g c = rw c.in-Ok.is c.put_inward.ensures

pub returns-in-Timer : goal.returns-in-Timer
unfolding item_text
returns-in-Timer g c = rw c.in-Timer.is c.put_inward-in-Timer.ensures

pub returns-in-Resume : goal.returns-in-Resume
unfolding item_text
returns-in-Resume g c = rw c.in-Resume.is c.put_resume.ensures
