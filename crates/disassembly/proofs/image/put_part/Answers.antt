use Rattle.std.proofs.Common.{ap}
use Rattle.std.specs.Prelude.{decimal}
use Rattle.kernel_report.proofs.PutFacts.{then, text_is}
use Rattle.disassembly.proofs.image.put_part.Goals as goal

pub returns-in-Segment : goal.returns-in-Segment
returns-in-Segment g c =
    rw c.in-Segment.is (then c.text-so_far.ensures (text_is c.decimal.ensures (ap decimal c.from.ensures)))

pub returns-in-Program : goal.returns-in-Program
returns-in-Program g c =
    rw c.in-Program.is (
    then c.text-so_far-in-Program.ensures (text_is c.decimal-in-Program.ensures (ap decimal c.from-in-Program.ensures)))
