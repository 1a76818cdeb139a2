use Rattle.kernel_report.proofs.PutFacts.{then}
use Rattle.cloak_machine.proofs.end.put_violation.Goals as goal

pub returns-in-Page : goal.returns-in-Page
returns-in-Page g c = rw c.in-Page.is
    (then c.text-so_far.ensures
    (then c.decimal-so_far.ensures (then c.text-so_far-in-Page.ensures (then c.decimal-so_far-in-Page.ensures
    (then c.text-so_far-in-Page-2.ensures
    (then c.decimal-so_far-in-Page-2.ensures (then c.text-so_far-in-Page-3.ensures c.decimal.ensures)))))))

pub returns-in-Context : goal.returns-in-Context
returns-in-Context g c = rw c.in-Context.is (then c.text-so_far-in-Context.ensures c.decimal-in-Context.ensures)

pub returns-in-Mapping : goal.returns-in-Mapping
returns-in-Mapping g c = rw c.in-Mapping.is
    (then c.text-so_far-in-Mapping.ensures
    (then c.decimal-so_far-in-Mapping.ensures (then c.text-so_far-in-Mapping-2.ensures c.hexadecimal.ensures)))
