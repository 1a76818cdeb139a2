-- Words as a text that assembles to them: a line for each word, and before a word that another leads to a line with its
-- label. This project's rule.
use Rattle.std.specs.Prelude.{ℕ, suc, ◌+◌, ◌*◌, ◌-◌, ◌/◌, ◌%◌, ◌==◌, ◌&&◌, ◌||◌, nat_lt, nat_le, ℤ, pos, negsuc, Bool, true, false, List, [], ◌∷◌, ◌++◌, length, codes, Option, Some, None, option_and_then, if◌then◌else◌}
use Rattle.std.specs.List.{flat_map}
use Rattle.rv_isa.specs.Table.{instruction}
use Rattle.rv_isa.specs.declared.instr.Instr.{Instr}
use Rattle.rv_isa.specs.declared.instr.Instr.TheVariants.{Jal, Beq, Bne, Blt, Bge, Bltu, Bgeu}
use Rattle.word_text.specs.Operands.{label}
use Rattle.word_text.specs.Text.{number_text, word_text}
use Rattle.disassembly.specs.declared.lead.Course.{Course}
use Rattle.disassembly.specs.declared.lead.Course.TheVariants.{Nowhere, To, Away}

-- ---- where words lead

-- how far a branch or a jump to a label leads
abbrev pub reach : Instr → Option ℤ
reach (Jal rd imm) = Some imm
reach (Beq rs1 rs2 imm) = Some imm
reach (Bne rs1 rs2 imm) = Some imm
reach (Blt rs1 rs2 imm) = Some imm
reach (Bge rs1 rs2 imm) = Some imm
reach (Bltu rs1 rs2 imm) = Some imm
reach (Bgeu rs1 rs2 imm) = Some imm
reach other = None

-- the word that is so many bytes from the word at a place, if it is one of the first `count`
unfoldable pub led : (count place : ℕ) → ℤ → Course
led count place (pos n) =
    if (n % 4 == 0) && nat_lt (place + n / 4) count then To (place + n / 4) else Away
led count place (negsuc n) =
    if (suc n % 4 == 0) && nat_le (suc n / 4) place then To (place - suc n / 4) else Away

abbrev pub led_by : (count place : ℕ) → Option ℤ → Course
led_by count place None = Nowhere
led_by count place (Some imm) = led count place imm

-- where the word at a place leads
abbrev pub lead : (count place w : ℕ) → Course
lead count place w = led_by count place (option_and_then reach (instruction w))

abbrev pub is_to : ℕ → Course → Bool
is_to there Nowhere = false
is_to there (To place) = place == there
is_to there Away = false

-- one of the words from a place on leads to that place
abbrev pub is_led_to : (count place : ℕ) → List ℕ → (there : ℕ) → Bool
is_led_to count place [] there = false
is_led_to count place (w ∷ ws) there = is_to there (lead count place w) || is_led_to count (place + 1) ws there

-- ---- lines

-- a word that leads away has no label to name: it is written by its number
abbrev pub text_by_lead : (w at : ℕ) → Course → List ℕ
text_by_lead w at Nowhere = word_text w at
text_by_lead w at (To place) = word_text w at
text_by_lead w at Away = number_text w

-- the line of the word at a place
abbrev pub word_line : (base count place w : ℕ) → List ℕ
word_line base count place w = codes "    " ++ text_by_lead w (base + 4 * place) (lead count place w)

abbrev pub label_lines : (base place : ℕ) → Bool → List (List ℕ)
label_lines base place true = (label (base + 4 * place) ++ codes ":") ∷ []
label_lines base place false = []

-- the lines of the words from a place on, of which some have a label
abbrev pub lines_from : (base count : ℕ) → (ℕ → Bool) → (place : ℕ) → List ℕ → List (List ℕ)
lines_from base count has_label place [] = []
lines_from base count has_label place (w ∷ ws) =
    label_lines base place (has_label place)
    ++ word_line base count place w ∷ lines_from base count has_label (place + 1) ws

abbrev pub with_feed : List ℕ → List ℕ
with_feed line = line ++ codes "\n"

-- words of which the first stands at an address
unfoldable pub listing : (base : ℕ) → List ℕ → List ℕ
listing base words =
    flat_map with_feed (lines_from base (length words) (is_led_to (length words) 0 words) 0 words)
