use Rattle.io_traits.proofs.ToldFacts.{puts}
use Rattle.read_back.proofs.ending.show_record_fault.Goals as goal

pub returns-in-Short : goal.returns-in-Short
returns-in-Short g c = rw c.in-Short.is c.show_numbered.ensures

pub returns-in-BadMagic : goal.returns-in-BadMagic
returns-in-BadMagic g c =
    rw c.in-BadMagic.is (puts _ _ _ _ _ c.put_all.result c.put_all.ensures.ok c.put_all.ensures.err c.put_all.ensures.faults)

pub returns-in-BadTag : goal.returns-in-BadTag
returns-in-BadTag g c = rw c.in-BadTag.is c.show_numbered-in-BadTag.ensures

pub returns-in-StepOrder : goal.returns-in-StepOrder
returns-in-StepOrder g c = rw c.in-StepOrder.is c.show_numbered-in-StepOrder.ensures

pub returns-in-Extra : goal.returns-in-Extra
returns-in-Extra g c = rw c.in-Extra.is c.show_numbered-in-Extra.ensures
