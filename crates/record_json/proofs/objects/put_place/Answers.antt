use Rattle.record_json.proofs.objects.put_place.Goals as goal

pub returns-in-Opening : goal.returns-in-Opening
returns-in-Opening g c = rw c.in-Opening.is c.put_numbered.ensures

pub returns-in-Step : goal.returns-in-Step
returns-in-Step g c = rw c.in-Step.is c.put_numbered-in-Step.ensures

pub returns-in-Closing : goal.returns-in-Closing
returns-in-Closing g c = rw c.in-Closing.is c.put_numbered-in-Closing.ensures
