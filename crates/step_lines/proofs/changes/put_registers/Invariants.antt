use Rattle.kernel_report.specs.Putting.{putting}
use Rattle.step_lines.specs.Changes.{register_changes}
use Rattle.step_lines.specs.Effects.{PutsEffects}
use Rattle.step_lines.proofs.changes.put_registers.Given as goal

-- the registers so far
abbrev pub invariant-loop-i : goal.invariant-loop-i
invariant-loop-i g l =
    PutsEffects (putting g.O.Sink l.initial.out l.initial.at.so_far) (putting g.O.Sink l.out l.at.so_far) l.initial.at.gap
    l.at.gap (register_changes l.was l.now l.i)
