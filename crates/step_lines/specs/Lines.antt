-- A line of the trace.
use Rattle.std.specs.Prelude.{ℕ, List, ◌++◌, codes, Option, Some}
use Rattle.cloak_model.specs.Items.{Item}
use Rattle.cloak_model.specs.declared.outcome.Kernel.{Kernel}
use Rattle.cloak_model.specs.Report.{hexadecimal}
use Rattle.record_text.specs.Items.{item_text}
use Rattle.step_lines.specs.declared.ahead.HartAhead.{HartAhead}
use Rattle.step_lines.specs.declared.sight.HartSight.{HartSight}
use Rattle.step_lines.specs.Columns.{front, mode_column, word_columns, word_gap}
use Rattle.step_lines.specs.Effects.{joined}
use Rattle.step_lines.specs.Endings.{executed_word, step_effects}

-- program counter, word and instruction, and what follows after the gap
abbrev pub instruction_line : Option ℕ → ℕ → List (List ℕ) → List ℕ
instruction_line word pc effects =
    hexadecimal pc ++ (word_columns word pc ++ (joined (word_gap word pc) effects ++ codes "\n"))

-- A step of a hart outside: step, hart, mode, program counter, word, instruction, and what it did.
abbrev pub hart_step_line : ℕ → ℕ → HartAhead → HartSight → List (List ℕ) → Kernel → List ℕ
hart_step_line step hart a now ram ending =
    front step (Some hart) ++ (mode_column a.sight.mode
    ++ instruction_line (executed_word a now ending) a.sight.pc (step_effects a now ram ending))

-- An item of a step.
abbrev pub item_line : ℕ → Option ℕ → Item → List ℕ
item_line step hart i = front step hart ++ (item_text i ++ codes "\n")
