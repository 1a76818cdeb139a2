-- The words of a text: this project's rule. A text has one statement a line, and a label names the place of the
-- next word, which is the number of words before it.
use Rattle.std.specs.Prelude.{ℕ, ◌+◌, ◌*◌, ◌-◌, ◌%◌, ◌^◌, ◌<◌, ◌==◌, ℤ, pos, neg_ℤ, List, [], ◌∷◌, ◌++◌, length, Option, Some, Result, Ok, Err, ◌≡◌, MatchResult, nat_lt, nat_le, if◌then◌else◌}
use Rattle.std.specs.Option.{ok_or}
use Rattle.std.specs.List.{onto_first}
use Rattle.std.specs.Str.{bytes_eq}
use Rattle.std.specs.Map.{lookup}
use Rattle.std.specs.BTreeMap.{BTreeMap, get_by}
use Rattle.std.specs.Cmp.Lexicographic.{slice_cmp}
use Rattle.std.specs.Ordering.{nat_cmp}
use denote.Ref.{Bor}
use Rattle.rv_isa.specs.Table.{instruction}
use Rattle.rv_isa.specs.declared.instr.Instr.TheVariants as instr
use Rattle.rv_atomic.specs.Table.{atomic_instruction}
use Rattle.rv_asm.specs.declared.image_word.ImageWord.{ImageWord}
use Rattle.rv_asm.specs.declared.image_word.ImageWord.TheVariants.{Instruction, Atomic, Data}
use Rattle.rv_asm.specs.declared.fault.FaultKind.{FaultKind}
use Rattle.rv_asm.specs.declared.fault.FaultKind.TheVariants as kinds
use Rattle.rv_asm.specs.declared.fault.AsmFault.{AsmFault}
use Rattle.rv_asm.specs.declared.fault.AsmFault.TheVariants.{UnknownWord, BadOperand, BadLabel, OutOfReach, TooLong, NoMemory}
use Rattle.rv_asm.specs.declared.labels.Mark.{Mark}
use Rattle.rv_asm.specs.Operations.{branch_instruction}
use Rattle.rv_asm.specs.Statements.{Meaning, Nothing, Label, Fixed, Branch, Jump, Address, statement, upper_part, lower_part}

infixl 10 ◌>>=◌
abbrev pub ◌>>=◌ : {A B E : Type 0} → Result A E → (A → Result B E) → Result B E
(Ok x) >>= f = f x
(Err e) >>= f = Err e

-- the lines of a text, each up to its line feed
abbrev pub lines_of : List ℕ → List (List ℕ)
lines_of [] = []
lines_of (b ∷ bs) = if b == 10 then [] ∷ lines_of bs else onto_first b (lines_of bs)

-- ---- labels

-- how many words a line asks for; a faulty one asks for none
abbrev pub size : Result Meaning FaultKind → ℕ
size (Ok (Fixed items)) = length items
size (Ok (Branch op rs1 rs2 name)) = 1
size (Ok (Jump rd name)) = 1
size (Ok (Address rd name)) = 2
size (Ok Nothing) = 0
size (Ok (Label name)) = 0
size (Err k) = 0

-- the label that a line defines, with its line and place
abbrev pub mark : ℕ → ℕ → Result Meaning FaultKind → List (List ℕ × Mark)
mark line place (Ok (Label name)) = (name, record { line = line; place = place }) ∷ []
mark line place _ = []

-- the labels of lines, after this many lines and words
abbrev pub labels_of : ℕ → ℕ → List (List ℕ) → List (List ℕ × Mark)
labels_of before place [] = []
labels_of before place (line ∷ lines) =
    mark (before + 1) place (statement line) ++ labels_of (before + 1) (place + size (statement line)) lines

-- where a name is first defined
abbrev pub find_in : List (List ℕ × Mark) → List ℕ → Option Mark
find_in labels name = lookup (bytes_eq name) labels

-- ---- the words of a statement

-- the bytes from one word to another, forward by fewer words than the reach, or back by at most as many
unfoldable pub offset_between : ℕ → ℕ → ℕ → Result ℤ FaultKind
offset_between reach here there =
    if nat_le here there
    then (if nat_lt (there - here) reach then Ok (pos (4 * (there - here))) else Err kinds.OutOfReach)
    else (if nat_le (here - there) reach then Ok (neg_ℤ (pos (4 * (here - there)))) else Err kinds.OutOfReach)

-- the bytes from one word to another, modulo 2 ^ 32
unfoldable pub relative : ℕ → ℕ → ℕ
relative here there = (there + (2 ^ 30 - here % 2 ^ 30)) % 2 ^ 30 * 4

-- what stands for the words of a statement, by its line and place. A branch reaches -4096 to 4094 bytes, a jump
-- -1048576 to 1048574
abbrev pub items_of_line : (List ℕ → Option Mark) → ℕ → ℕ → Meaning → Result (List ImageWord) FaultKind
items_of_line find line here Nothing = Ok []
items_of_line find line here (Label name) = do
  m ← ok_or (find name) kinds.BadLabel
  if m.line == line then Ok [] else Err kinds.BadLabel
items_of_line find line here (Fixed items) = Ok items
items_of_line find line here (Branch op rs1 rs2 name) = do
  m ← ok_or (find name) kinds.BadLabel
  imm ← offset_between 1024 here m.place
  Ok (Instruction (branch_instruction op rs1 rs2 imm) ∷ [])
items_of_line find line here (Jump rd name) = do
  m ← ok_or (find name) kinds.BadLabel
  imm ← offset_between 262144 here m.place
  Ok (Instruction (instr.Jal rd imm) ∷ [])
items_of_line find line here (Address rd name) = do
  m ← ok_or (find name) kinds.BadLabel
  let v = relative here m.place
  Ok (Instruction (instr.Auipc rd (upper_part v)) ∷ Instruction (instr.Addi rd rd (lower_part v)) ∷ [])

-- ---- a text

abbrev pub fault_at : ℕ → FaultKind → AsmFault
fault_at line kinds.UnknownWord = UnknownWord line
fault_at line kinds.BadOperand = BadOperand line
fault_at line kinds.BadLabel = BadLabel line
fault_at line kinds.OutOfReach = OutOfReach line

abbrev pub at_line : {A : Type 0} → ℕ → Result A FaultKind → Result A AsmFault
at_line line (Ok x) = Ok x
at_line line (Err kind) = Err (fault_at line kind)

-- the items of a line by its number and place, or its fault
unfoldable pub line_items : (List ℕ → Option Mark) → ℕ → ℕ → List ℕ → Result (List ImageWord) AsmFault
line_items find line here text = at_line line (statement text >>= items_of_line find line here)

-- the items of lines, after this many lines and words, or the fault of the first faulty line
abbrev pub items_from : (List ℕ → Option Mark) → ℕ → ℕ → List (List ℕ) → Result (List ImageWord) AsmFault
items_from find before here [] = Ok []
items_from find before here (line ∷ lines) = do
  items ← line_items find (before + 1) here line
  others ← items_from find (before + 1) (here + length items) lines
  Ok (items ++ others)

-- what stands for the words of a text, or its first fault
unfoldable pub assembled : List ℕ → Result (List ImageWord) AsmFault
assembled text = do
  items ← items_from (find_in (labels_of 0 0 (lines_of text))) 0 0 (lines_of text)
  if nat_lt 65536 (length items) then Err TooLong else Ok items

-- the word of an instruction is one to which its table gives the instruction
abbrev pub SpellsItem : ImageWord → ℕ → Type 0
SpellsItem (Instruction i) w = (w < 2 ^ 32) × (instruction w ≡ Some i)
SpellsItem (Atomic a) w = (w < 2 ^ 32) × (atomic_instruction w ≡ Some a)
SpellsItem (Data n) w = w ≡ n

abbrev pub AreSpelled : List ImageWord → List ℕ → Type 0
AreSpelled [] [] = Unit {0}
AreSpelled [] (w ∷ ws) = ⊥
AreSpelled (i ∷ is) [] = ⊥
AreSpelled (i ∷ is) (w ∷ ws) = SpellsItem i w × AreSpelled is ws

-- a fault is the text's, except for want of memory
abbrev pub FailsAs : {Y : Type 0} → AsmFault → Result Y AsmFault → Type 0
FailsAs NoMemory given = Unit {0}
FailsAs (UnknownWord n) given = given ≡ Err (UnknownWord n)
FailsAs (BadOperand n) given = given ≡ Err (BadOperand n)
FailsAs (BadLabel n) given = given ≡ Err (BadLabel n)
FailsAs (OutOfReach n) given = given ≡ Err (OutOfReach n)
FailsAs TooLong given = given ≡ Err TooLong

-- what a function returned, seen by view, is what the definition gives, unless memory ran out
abbrev pub AnswersAs : {X Y : Type 0} → (X → Y) → Result X AsmFault → Result Y AsmFault → Type 0
AnswersAs view result given = MatchResult result (λ x. given ≡ Ok (view x)) (λ e. FailsAs e given)

-- ---- a map of the code

-- where a map has a name
abbrev pub table : BTreeMap (Bor (List ℕ)) Mark → List ℕ → Option Mark
table marks name = get_by (λ k. slice_cmp nat_cmp name k.now) marks
