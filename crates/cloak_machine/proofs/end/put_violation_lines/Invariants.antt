use Rattle.std.proofs.Common.{take}
use Rattle.std.specs.List.{flat_map}
use Rattle.cloak_model.specs.Report.{violation_line}
use Rattle.kernel_report.specs.Putting.{PutsMore, putting}
use Rattle.cloak_machine.proofs.end.put_violation_lines.Given as goal

-- the lines so far were put
abbrev pub invariant-loop-what : goal.invariant-loop-what
invariant-loop-what g l =
    PutsMore (putting g.O.Sink l.initial.out l.initial.so_far)
    (putting g.O.Sink l.out l.so_far)
    (flat_map violation_line (take l.what-index l.ended))
