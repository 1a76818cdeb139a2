use Rattle.std.proofs.Common.{take}
use Rattle.kernel_report.specs.Putting.{PutsMore, putting}
use Rattle.record_json.specs.Members.{more_numbers}
use Rattle.record_json.proofs.members.put_more_numbers.Given as goal

-- the numbers so far were put
abbrev pub invariant-loop-n : goal.invariant-loop-n
invariant-loop-n g l =
    PutsMore (putting g.O.Sink l.initial.out l.initial.so_far)
    (putting g.O.Sink l.out l.so_far)
    (more_numbers (take l.n-index l.numbers))
