use Rattle.command_parts.proofs.refusal.show_bundle_fault.Goals as goal

pub returns-in-Short : goal.returns-in-Short
returns-in-Short g c = rw c.in-Short.is c.show_numbered.ensures

pub returns-in-BadMagic : goal.returns-in-BadMagic
returns-in-BadMagic g c = rw c.in-BadMagic.is c.show.ensures

pub returns-in-BadVersion : goal.returns-in-BadVersion
returns-in-BadVersion g c = rw c.in-BadVersion.is c.show_numbered-in-BadVersion.ensures

pub returns-in-BadCount : goal.returns-in-BadCount
returns-in-BadCount g c = rw c.in-BadCount.is c.show_numbered-in-BadCount.ensures

pub returns-in-TooLarge : goal.returns-in-TooLarge
returns-in-TooLarge g c = rw c.in-TooLarge.is c.show_numbered-in-TooLarge.ensures

pub returns-in-BadRange : goal.returns-in-BadRange
returns-in-BadRange g c = rw c.in-BadRange.is c.show_numbered-in-BadRange.ensures

pub returns-in-Extra : goal.returns-in-Extra
returns-in-Extra g c = rw c.in-Extra.is c.show_numbered-in-Extra.ensures
