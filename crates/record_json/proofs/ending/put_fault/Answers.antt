use Rattle.record_json.proofs.ending.put_fault.Goals as goal

pub returns-in-Short : goal.returns-in-Short
returns-in-Short g c = rw c.in-Short.is c.put_numbered_fault.ensures

pub returns-in-BadMagic : goal.returns-in-BadMagic
returns-in-BadMagic g c = rw c.in-BadMagic.is c.put_bare_fault.ensures

pub returns-in-BadTag : goal.returns-in-BadTag
returns-in-BadTag g c = rw c.in-BadTag.is c.put_numbered_fault-in-BadTag.ensures

pub returns-in-StepOrder : goal.returns-in-StepOrder
returns-in-StepOrder g c = rw c.in-StepOrder.is c.put_numbered_fault-in-StepOrder.ensures

pub returns-in-Extra : goal.returns-in-Extra
returns-in-Extra g c = rw c.in-Extra.is c.put_numbered_fault-in-Extra.ensures
