use Rattle.kernel_report.proofs.PutFacts.{then}
use Rattle.cloak_machine.proofs.end.put_stop.Goals as goal

pub returns-in-Halt : goal.returns-in-Halt
returns-in-Halt g c = rw c.in-Halt.is (then c.text-so_far.ensures c.decimal.ensures)

pub returns-in-Budget : goal.returns-in-Budget
returns-in-Budget g c = rw c.in-Budget.is c.text.ensures

pub returns-in-NoRandom : goal.returns-in-NoRandom
returns-in-NoRandom g c = rw c.in-NoRandom.is c.text-in-NoRandom.ensures
