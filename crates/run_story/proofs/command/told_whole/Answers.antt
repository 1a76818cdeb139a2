use Rattle.run_story.proofs.Ends.{told_fault, told_unread}
use Rattle.run_story.proofs.command.told_whole.Goals as goal

pub returns-in-Whole : goal.returns-in-Whole
returns-in-Whole c = λ b told items before now tells ends.
    let e = rw c.in-Whole.is at ends in (record { items = items; file = e.0; tells = tells }, e.1)

pub returns-in-Unfit : goal.returns-in-Unfit
returns-in-Unfit c = λ b told items before now tells ends. absurd (rw c.in-Unfit.is at ends)

pub returns-in-Fault : goal.returns-in-Fault
returns-in-Fault c = λ b told items before now tells ends.
    told_fault b told items c.args.story before now c.in-Fault.fault tells.knows (rw c.in-Fault.is at ends)

pub returns-in-Unread : goal.returns-in-Unread
returns-in-Unread c = λ b told items before now tells ends.
    told_unread b told items before now (rw c.in-Unread.is at ends)
