use Rattle.std.proofs.Common.{map, take}
use Rattle.std.specs.List.{concat}
use Rattle.kernel_report.specs.Putting.{PutsMore, putting}
use Rattle.cloak_machine.specs.Lines.{line_text}
use Rattle.cloak_machine.proofs.end.put_lines.Given as goal

-- the lines so far were put
abbrev pub invariant-loop-line : goal.invariant-loop-line
invariant-loop-line g l =
    PutsMore (putting g.O.Sink l.initial.out l.initial.so_far)
    (putting g.O.Sink l.out l.so_far)
    (concat (map line_text (take l.line-index l.lines)))
