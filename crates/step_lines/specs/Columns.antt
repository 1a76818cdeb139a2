-- The columns at the front of a line.
use Rattle.std.specs.Prelude.{ℕ, ◌-◌, max, List, [], ◌++◌, codes, decimal, length, Option, Some, None}
use Rattle.cloak_base.specs.declared.names.Mode.{Mode}
use Rattle.cloak_model.specs.Report.{hexadecimal, mode_text}
use Rattle.word_text.specs.Text.{word_text}
use Rattle.step_lines.specs.Effects.{pad}

-- digits that end in the column of this width
abbrev pub digits_column : ℕ → List ℕ → List ℕ
digits_column width digits = pad (width - length digits) ++ digits

abbrev pub number_column : ℕ → ℕ → List ℕ
number_column width n = digits_column width (decimal n)

-- the hart, if one is meant
abbrev pub hart_column : Option ℕ → List ℕ
hart_column (Some hart) = codes " h" ++ (decimal hart ++ codes " ")
hart_column None = codes "    "

-- the step in nine columns, and the hart
abbrev pub front : ℕ → Option ℕ → List ℕ
front step hart = number_column 9 step ++ hart_column hart

abbrev pub mode_column : Mode → List ℕ
mode_column mode = mode_text mode ++ codes "     "

-- the word at an address, and the instruction that it is, if a word is meant
abbrev pub word_columns : Option ℕ → ℕ → List ℕ
word_columns None at = []
word_columns (Some word) at = codes "  " ++ (hexadecimal word ++ (codes "  " ++ word_text word at))

-- the blanks up to the column of what the step does
abbrev pub word_gap : Option ℕ → ℕ → ℕ
word_gap None at = 39
word_gap (Some word) at = max (27 - length (word_text word at)) 1
