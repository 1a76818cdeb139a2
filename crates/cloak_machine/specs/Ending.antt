-- What the end of a run reports.
use Rattle.std.specs.Prelude.{ℕ, Bool, List, ◌++◌, codes}
use Rattle.std.specs.List.{concat, flat_map}
use Rattle.cloak_base.specs.declared.causes.Stop.{Stop}
use Rattle.cloak_model.specs.DomainState.{domain_line}
use Rattle.cloak_model.specs.Parts.{Joint}
use Rattle.cloak_model.specs.Report.{stop_line, number_line, refusal_lines}
use Rattle.cloak_model.specs.Run.{any_refused}
use Rattle.kernel_report.specs.KernelText.{kernel_text}
use Rattle.cloak_machine.specs.Lines.{lines_kept, line_of_program}
use Rattle.cloak_machine.specs.declared.end.RunEnd.{RunEnd}

-- What an end says.

-- a domain ended, or a resuming was refused of which none was left to end
abbrev pub end_is_refused : RunEnd → Bool
end_is_refused e = any_refused e.ended e.refused

-- the report that it writes
abbrev pub end_report : RunEnd → List ℕ
end_report e =
    stop_line e.stop ++ (number_line (codes "steps ") e.steps ++ (number_line (codes "draws ") e.draws
    ++ (refusal_lines e.ended e.refused ++ (kernel_text e.lines ++ concat (lines_kept e.domains)))))

-- the line of a program in it, and nothing if there is no such program
abbrev pub line_in : RunEnd → ℕ → List ℕ
line_in e d = line_of_program e.domains d

-- The short report: the report without the kernel's lines.

-- that of a run that this stopped after this many steps, and whose joint state is then closed
abbrev pub short_report : Stop → ℕ → Joint → List ℕ
short_report s steps j =
    stop_line s ++ (number_line (codes "steps ") steps ++ (number_line (codes "draws ") j.memory.ledger.draws
    ++ (refusal_lines j.ended j.refused ++ flat_map domain_line j.domains)))

-- the one that an end writes
abbrev pub end_short_report : RunEnd → List ℕ
end_short_report e =
    stop_line e.stop ++ (number_line (codes "steps ") e.steps ++ (number_line (codes "draws ") e.draws
    ++ (refusal_lines e.ended e.refused ++ concat (lines_kept e.domains))))
