use Rattle.command_parts.proofs.refusal.show_store_fault.Goals as goal

pub returns-in-Short : goal.returns-in-Short
returns-in-Short g c = rw c.in-Short.is c.show_numbered.ensures

pub returns-in-BadMagic : goal.returns-in-BadMagic
returns-in-BadMagic g c = rw c.in-BadMagic.is c.show.ensures

pub returns-in-Seal : goal.returns-in-Seal
returns-in-Seal g c = rw c.in-Seal.is c.show-in-Seal.ensures

pub returns-in-Counter : goal.returns-in-Counter
returns-in-Counter g c = rw c.in-Counter.is c.show_numbered-in-Counter.ensures

pub returns-in-Form : goal.returns-in-Form
returns-in-Form g c = rw c.in-Form.is c.show_numbered-in-Form.ensures
