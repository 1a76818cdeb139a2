use Rattle.record_text.proofs.lines.put_place.Goals as goal

pub returns-in-Closing : goal.returns-in-Closing
returns-in-Closing g c = rw c.in-Closing.is c.put_number-in-Closing.ensures
