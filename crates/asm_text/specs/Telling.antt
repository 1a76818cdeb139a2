-- Why a text is not assembled, for a person to read.
use Rattle.std.specs.Prelude.{ℕ, ◌-◌, List, [], ◌++◌, codes, decimal, get_or, Option, Some, None}
use Rattle.rv_asm.specs.Assembly.{lines_of}
use Rattle.rv_asm.specs.declared.fault.AsmFault.TheVariants as asm
use Rattle.asm_text.specs.declared.fault.TextFault.{TextFault}
use Rattle.asm_text.specs.declared.fault.TextFault.TheVariants.{NoBytes, TooLarge, NotText, Faulty}

-- the line of this number, counted from 1; empty if there is none
abbrev pub line_numbered : List ℕ → ℕ → List ℕ
line_numbered text number = get_or (lines_of text) (number - 1) []

-- the number of the faulty line, if one is
abbrev pub faulty_line : TextFault → Option ℕ
faulty_line (Faulty (asm.UnknownWord n)) = Some n
faulty_line (Faulty (asm.BadOperand n)) = Some n
faulty_line (Faulty (asm.BadLabel n)) = Some n
faulty_line (Faulty (asm.OutOfReach n)) = Some n
faulty_line fault = None

-- what is wrong
abbrev pub fault_words : TextFault → List ℕ
fault_words NoBytes = codes "the file is empty, or is not there"
fault_words TooLarge = codes "the file has more than 16777216 bytes"
fault_words NotText = codes "the file is not text in UTF-8"
fault_words (Faulty (asm.UnknownWord n)) = codes "the first word is no instruction, and no label with its colon"
fault_words (Faulty (asm.BadOperand n)) =
    codes "an operand is missing, extra, not of the kind that stands here, or out of its range"
fault_words (Faulty (asm.BadLabel n)) = codes "the label is defined on an earlier line too, or nowhere"
fault_words (Faulty (asm.OutOfReach n)) = codes "the label is too far away: a branch reaches 4 KiB, a jump 1 MiB"
fault_words (Faulty asm.TooLong) = codes "the text has more than 65536 words"
fault_words (Faulty asm.NoMemory) = codes "there is not enough memory"

-- the file, with the number of the line
abbrev pub faulty_place : List ℕ → Option ℕ → List ℕ
faulty_place name None = name
faulty_place name (Some number) = name ++ codes ":" ++ decimal number

-- the line itself, indented
abbrev pub shown_line : List ℕ → Option ℕ → List ℕ
shown_line text None = []
shown_line text (Some number) = codes "    " ++ line_numbered text number ++ codes "\n"

-- of the text in the file of this name: where it is faulty, what is wrong there, and the line
abbrev pub fault_text : (name text : List ℕ) → TextFault → List ℕ
fault_text name text fault =
    faulty_place name (faulty_line fault) ++ codes ": " ++ fault_words fault ++ codes "\n"
    ++ shown_line text (faulty_line fault)
