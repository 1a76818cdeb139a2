use Rattle.std.proofs.Common.{◌≡◌, ◌-◌, [], get_or}
use denote.Text.{Utf8}
use denote.Shadow.{shadow}
use Rattle.rv_asm.specs.Assembly.{lines_of}
use Rattle.asm_text.proofs.telling.line_numbered.Given as goal

-- the line is that of the rest which is still ahead
abbrev pub invariant-loop : goal.invariant-loop
invariant-loop l = record {
  is_text : shadow (Utf8 l.rest);
  ahead : get_or (lines_of l.rest) (l.number - l.counter) [] ≡ get_or (lines_of l.text) (l.number - 1) [];
}
