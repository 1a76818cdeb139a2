use Rattle.command_parts.proofs.refusal.show_state_fault.Goals as goal

pub returns-in-Short : goal.returns-in-Short
returns-in-Short g c = rw c.in-Short.is c.show_numbered.ensures

pub returns-in-BadMagic : goal.returns-in-BadMagic
returns-in-BadMagic g c = rw c.in-BadMagic.is c.show.ensures

pub returns-in-Digest : goal.returns-in-Digest
returns-in-Digest g c = rw c.in-Digest.is c.show-in-Digest.ensures

pub returns-in-OtherBundle : goal.returns-in-OtherBundle
returns-in-OtherBundle g c = rw c.in-OtherBundle.is c.show-in-OtherBundle.ensures

pub returns-in-Form : goal.returns-in-Form
returns-in-Form g c = rw c.in-Form.is c.show_numbered-in-Form.ensures

pub returns-in-NoMemory : goal.returns-in-NoMemory
returns-in-NoMemory g c = rw c.in-NoMemory.is c.show-in-NoMemory.ensures
