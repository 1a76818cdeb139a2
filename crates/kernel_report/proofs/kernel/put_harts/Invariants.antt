use Rattle.std.proofs.Common.{take}
use Rattle.cloak_model.specs.Report.{harts_lines}
use Rattle.kernel_report.specs.Putting.{PutsMore, putting}
use Rattle.kernel_report.proofs.kernel.put_harts.Given as goal

-- the harts so far were put
abbrev pub invariant-loop-number : goal.invariant-loop-number
invariant-loop-number g l =
    PutsMore (putting g.O.Sink l.initial.out l.initial.so_far)
    (putting g.O.Sink l.out l.so_far)
    (harts_lines 0 (take l.number l.harts))
