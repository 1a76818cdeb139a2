-- The lines of programs in the report.
use Rattle.std.specs.Prelude.{ℕ, List, [], map, take, slice_get, unwrap_or}
use Rattle.cloak_machine.specs.declared.domains.DomainLine.{DomainLine}
use Rattle.cloak_machine.specs.declared.domains.DomainLines.{DomainLines}

-- what a line says
abbrev pub line_text : DomainLine → List ℕ
line_text line = take line.end line.bytes

-- what all lines say
abbrev pub lines_kept : DomainLines → List (List ℕ)
lines_kept lines = map line_text (take lines.count lines.lines)

-- what the line of a program says, and nothing if there is no such program
abbrev pub line_of_program : DomainLines → ℕ → List ℕ
line_of_program lines d = unwrap_or (slice_get (lines_kept lines) d) []
