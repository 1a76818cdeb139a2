use Rattle.command_parts.specs.Refusal.{refusal_line}
use Rattle.command_parts.proofs.refusal.show_line.Goals as goal

pub returns-in-NoRoom : goal.returns-in-NoRoom
unfolding refusal_line
returns-in-NoRoom g c = rw c.in-NoRoom.is c.show_numbered.ensures

pub returns-in-ChangedDomain : goal.returns-in-ChangedDomain
unfolding refusal_line
returns-in-ChangedDomain g c = rw c.in-ChangedDomain.is c.show_numbered-in-ChangedDomain.ensures

pub returns-in-ChangedFrame : goal.returns-in-ChangedFrame
unfolding refusal_line
returns-in-ChangedFrame g c = rw c.in-ChangedFrame.is c.show_numbered-in-ChangedFrame.ensures
