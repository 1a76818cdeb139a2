-- Operands and statements: this project's rule. Operands are separated by commas, with blanks around each.
use Rattle.std.specs.Prelude.{ℕ, ◌+◌, ◌*◌, ◌-◌, ◌/◌, ◌%◌, ◌^◌, ◌<◌, ◌==◌, ◌&&◌, ◌||◌, not, suc, ℤ, pos, negsuc, neg_ℤ, List, [], ◌∷◌, length, Option, Some, None, Result, Ok, Err, ◌≡◌, MatchResult, nat_lt, nat_le, if◌then◌else◌}
use Rattle.std.specs.Option.{ok_or}
use Rattle.std.specs.List.{before_first, list_all}
use Rattle.rv_isa.specs.Fields.{sign_extended}
use Rattle.rv_isa.specs.Range.{InRange}
use Rattle.rv_isa.specs.declared.instr.Instr.{Instr}
use Rattle.rv_isa.specs.declared.instr.Instr.TheVariants as instr
use Rattle.rv_atomic.specs.Table as atomic_table
use Rattle.rv_atomic.specs.declared.atomic.Atomic as atomics
use Rattle.rv_atomic.specs.declared.atomic.AtomicOp.{AtomicOp}
use Rattle.rv_atomic.specs.declared.atomic.AtomicOp.TheVariants.{Lr}
use Rattle.rv_asm.specs.declared.words.Numeral.{Numeral}
use Rattle.rv_asm.specs.declared.operation.Operation.{Operation}
use Rattle.rv_asm.specs.declared.operation.Operation.TheVariants as ops
use Rattle.rv_asm.specs.declared.operation.RegisterOp.{RegisterOp}
use Rattle.rv_asm.specs.declared.operation.ImmediateOp.{ImmediateOp}
use Rattle.rv_asm.specs.declared.operation.ShiftOp.{ShiftOp}
use Rattle.rv_asm.specs.declared.operation.UpperOp.{UpperOp}
use Rattle.rv_asm.specs.declared.operation.LoadOp.{LoadOp}
use Rattle.rv_asm.specs.declared.operation.StoreOp.{StoreOp}
use Rattle.rv_asm.specs.declared.operation.BranchOp.{BranchOp}
use Rattle.rv_asm.specs.declared.operation.CsrOp.{CsrOp}
use Rattle.rv_asm.specs.declared.operation.CsrImmediateOp.{CsrImmediateOp}
use Rattle.rv_asm.specs.declared.image_word.ImageWord.{ImageWord}
use Rattle.rv_asm.specs.declared.image_word.ImageWord.TheVariants.{Instruction, Atomic, Data}
use Rattle.rv_asm.specs.declared.fault.FaultKind.{FaultKind}
use Rattle.rv_asm.specs.declared.fault.FaultKind.TheVariants.{UnknownWord, BadOperand}
use Rattle.rv_asm.specs.declared.statement.Statement as code
use Rattle.rv_asm.specs.declared.statement.Statement.TheVariants as shape
use Rattle.rv_asm.specs.Words.{◌>>=◌, is_blank, cut, leading_word, sole_word, register_named, numeral, is_name}
use Rattle.rv_asm.specs.Operations.{operation, register_instruction, immediate_instruction, shift_instruction, upper_instruction, load_instruction, store_instruction, csr_instruction, csr_immediate_instruction}

-- ---- operands

unfoldable pub three : List ℕ → Option (List ℕ × List ℕ × List ℕ)
three text = do
  a ← cut 44 text
  b ← cut 44 a.1
  Some (a.0, b.0, b.1)

unfoldable pub register_operand : List ℕ → Option ℕ
register_operand text = sole_word text >>= register_named

unfoldable pub number_operand : List ℕ → Option Numeral
number_operand text = sole_word text >>= numeral

-- 0 to limit - 1
unfoldable pub unsigned : ℕ → Numeral → Option ℕ
unsigned limit n = if (not n.negative || (n.magnitude == 0)) && nat_lt n.magnitude limit then Some n.magnitude else None

-- -2048 to 2047
unfoldable pub immediate : Numeral → Option ℤ
immediate n =
    if n.negative then (if nat_le n.magnitude 2048 then Some (neg_ℤ (pos n.magnitude)) else None)
    else (if nat_lt n.magnitude 2048 then Some (pos n.magnitude) else None)

-- - 2 ^ 31 to 2 ^ 32 - 1, modulo 2 ^ 32
unfoldable pub modular : Numeral → Option ℕ
modular n =
    if n.negative then (if nat_le n.magnitude (2 ^ 31) then Some ((2 ^ 32 - n.magnitude) % 2 ^ 32) else None)
    else Some n.magnitude

unfoldable pub unsigned_operand : ℕ → List ℕ → Option ℕ
unsigned_operand limit text = number_operand text >>= unsigned limit

unfoldable pub immediate_operand : List ℕ → Option ℤ
immediate_operand text = number_operand text >>= immediate

unfoldable pub modular_operand : List ℕ → Option ℕ
modular_operand text = number_operand text >>= modular

-- an offset and a register, as 4(x2)
unfoldable pub memory_operand : List ℕ → Option (ℤ × ℕ)
memory_operand text = do
  word ← sole_word text
  offset ← cut 40 word
  base ← cut 41 offset.1
  n ← numeral offset.0
  imm ← immediate n
  rs1 ← register_named base.0
  if length base.1 == 0 then Some (imm, rs1) else None

-- a register alone as an address, as (x5)
unfoldable pub base_operand : List ℕ → Option ℕ
base_operand text = do
  word ← sole_word text
  front ← cut 40 word
  base ← cut 41 front.1
  rs1 ← register_named base.0
  if (length front.0 == 0) && (length base.1 == 0) then Some rs1 else None

unfoldable pub name_operand : List ℕ → Option (List ℕ)
name_operand text = do
  name ← sole_word text
  if is_name name then Some name else None

-- ---- instructions that need no label

unfoldable pub register_form : RegisterOp → List ℕ → Option Instr
register_form op text = do
  o ← three text
  rd ← register_operand o.0
  rs1 ← register_operand o.1
  rs2 ← register_operand o.2
  Some (register_instruction op rd rs1 rs2)

unfoldable pub immediate_form : ImmediateOp → List ℕ → Option Instr
immediate_form op text = do
  o ← three text
  rd ← register_operand o.0
  rs1 ← register_operand o.1
  imm ← immediate_operand o.2
  Some (immediate_instruction op rd rs1 imm)

unfoldable pub shift_form : ShiftOp → List ℕ → Option Instr
shift_form op text = do
  o ← three text
  rd ← register_operand o.0
  rs1 ← register_operand o.1
  shamt ← unsigned_operand 32 o.2
  Some (shift_instruction op rd rs1 shamt)

-- the number is the upper 20 bits
unfoldable pub upper_form : UpperOp → List ℕ → Option Instr
upper_form op text = do
  o ← cut 44 text
  rd ← register_operand o.0
  upper ← unsigned_operand 0x100000 o.1
  Some (upper_instruction op rd (upper * 4096))

unfoldable pub load_form : LoadOp → List ℕ → Option Instr
load_form op text = do
  o ← cut 44 text
  rd ← register_operand o.0
  m ← memory_operand o.1
  Some (load_instruction op rd m.1 m.0)

-- the first register is the one stored
unfoldable pub store_form : StoreOp → List ℕ → Option Instr
store_form op text = do
  o ← cut 44 text
  rs2 ← register_operand o.0
  m ← memory_operand o.1
  Some (store_instruction op m.1 rs2 m.0)

unfoldable pub csr_form : CsrOp → List ℕ → Option Instr
csr_form op text = do
  o ← three text
  rd ← register_operand o.0
  csr ← unsigned_operand 4096 o.1
  rs1 ← register_operand o.2
  Some (csr_instruction op rd rs1 csr)

unfoldable pub csr_immediate_form : CsrImmediateOp → List ℕ → Option Instr
csr_immediate_form op text = do
  o ← three text
  rd ← register_operand o.0
  csr ← unsigned_operand 4096 o.1
  uimm ← unsigned_operand 32 o.2
  Some (csr_immediate_instruction op rd uimm csr)

unfoldable pub fence_form : List ℕ → Option Instr
fence_form text = do
  o ← cut 44 text
  rs1 ← register_operand o.0
  rs2 ← register_operand o.1
  Some (instr.SfenceVma rs1 rs2)

-- ---- atomic instructions

-- LR has no second operand
unfoldable pub reserve_form : ℕ → List ℕ → Option atomics.Atomic
reserve_form order text = do
  o ← cut 44 text
  rd ← register_operand o.0
  rs1 ← base_operand o.1
  Some (record { op = Lr; rd = rd; rs1 = rs1; rs2 = 0; order = order })

-- the second register is the operand
unfoldable pub combine_form : AtomicOp → ℕ → List ℕ → Option atomics.Atomic
combine_form op order text = do
  o ← three text
  rd ← register_operand o.0
  rs2 ← register_operand o.1
  rs1 ← base_operand o.2
  Some (record { op = op; rd = rd; rs1 = rs1; rs2 = rs2; order = order })

unfoldable pub atomic_form : AtomicOp → ℕ → List ℕ → Option atomics.Atomic
atomic_form Lr order text = reserve_form order text
atomic_form op order text = combine_form op order text

-- ---- 32 bits in two instructions

-- rounded so that the signed low 12 bits complete it
abbrev pub upper_part : ℕ → ℕ
upper_part v = (v + 2048) % 2 ^ 32 / 4096 * 4096

abbrev pub lower_part : ℕ → ℤ
lower_part v = sign_extended 12 (v % 4096)

-- a signed number modulo 2 ^ 32
abbrev pub wrapped : ℤ → ℕ
wrapped (pos n) = n
wrapped (negsuc n) = 2 ^ 32 - suc n

-- ---- statements

-- what a line asks for
pub data Meaning : Type 0 where
  Nothing : Meaning
  Label : List ℕ → Meaning
  Fixed : List ImageWord → Meaning
  Branch : BranchOp → ℕ → ℕ → List ℕ → Meaning
  Jump : ℕ → List ℕ → Meaning
  Address : ℕ → List ℕ → Meaning

abbrev pub one : Instr → Option Meaning
one i = Some (Fixed (Instruction i ∷ []))

abbrev pub one_atomic : atomics.Atomic → Option Meaning
one_atomic a = Some (Fixed (Atomic a ∷ []))

unfoldable pub bare_statement : Instr → List ℕ → Option Meaning
bare_statement i text = if list_all is_blank text then one i else None

unfoldable pub branch_statement : BranchOp → List ℕ → Option Meaning
branch_statement op text = do
  o ← three text
  rs1 ← register_operand o.0
  rs2 ← register_operand o.1
  name ← name_operand o.2
  Some (Branch op rs1 rs2 name)

unfoldable pub jal_statement : List ℕ → Option Meaning
jal_statement text = do
  o ← cut 44 text
  rd ← register_operand o.0
  name ← name_operand o.1
  Some (Jump rd name)

unfoldable pub j_statement : List ℕ → Option Meaning
j_statement text = do
  name ← name_operand text
  Some (Jump 0 name)

unfoldable pub li_statement : List ℕ → Option Meaning
li_statement text = do
  o ← cut 44 text
  rd ← register_operand o.0
  v ← modular_operand o.1
  Some (Fixed (Instruction (instr.Lui rd (upper_part v)) ∷ Instruction (instr.Addi rd rd (lower_part v)) ∷ []))

unfoldable pub la_statement : List ℕ → Option Meaning
la_statement text = do
  o ← cut 44 text
  rd ← register_operand o.0
  name ← name_operand o.1
  Some (Address rd name)

unfoldable pub word_statement : List ℕ → Option Meaning
word_statement text = do
  v ← modular_operand text
  Some (Fixed (Data v ∷ []))

-- the statement of an operation with the text of its operands, if they are those that it takes
abbrev pub statement_of : Operation → List ℕ → Option Meaning
statement_of (ops.Register op) text = register_form op text >>= one
statement_of (ops.Immediate op) text = immediate_form op text >>= one
statement_of (ops.Shift op) text = shift_form op text >>= one
statement_of (ops.Upper op) text = upper_form op text >>= one
statement_of (ops.Load op) text = load_form op text >>= one
statement_of (ops.Store op) text = store_form op text >>= one
statement_of (ops.Branch op) text = branch_statement op text
statement_of (ops.Csr op) text = csr_form op text >>= one
statement_of (ops.CsrImmediate op) text = csr_immediate_form op text >>= one
statement_of (ops.Atomic op order) text = atomic_form op order text >>= one_atomic
statement_of (ops.Bare i) text = bare_statement i text
statement_of ops.Fence text = fence_form text >>= one
statement_of ops.Jal text = jal_statement text
statement_of ops.J text = j_statement text
statement_of ops.Li text = li_statement text
statement_of ops.La text = la_statement text
statement_of ops.Word text = word_statement text

-- ---- lines

-- the name of a label with its colon
unfoldable pub label_word : List ℕ → Option (List ℕ)
label_word word = do
  name ← cut 58 word
  if is_name name.0 && (length name.1 == 0) then Some name.0 else None

-- a line by its first word, if that is a label or an operation, and the text after it
abbrev pub line_with : Option (List ℕ) → Option Operation → List ℕ → Result Meaning FaultKind
line_with (Some name) op text = if list_all is_blank text then Ok (Label name) else Err BadOperand
line_with None (Some op) text = ok_or (statement_of op text) BadOperand
line_with None None text = Err UnknownWord

-- the statement of a line, whose comment begins at `#`
unfoldable pub statement : List ℕ → Result Meaning FaultKind
statement line =
    let word = leading_word (before_first (λ b. b == 35) line) in
    if length word.0 == 0 then Ok Nothing else line_with (label_word word.0) (operation word.0) word.1

-- ---- a statement of the code

-- without the places in memory where its names lie
abbrev pub read : code.Statement → Meaning
read shape.Nothing = Nothing
read (shape.Label name) = Label name.now
read (shape.Single i) = Fixed (i ∷ [])
read (shape.Pair i j) = Fixed (Instruction i ∷ Instruction j ∷ [])
read (shape.Branch op rs1 rs2 to) = Branch op rs1 rs2 to.now
read (shape.Jump rd to) = Jump rd to.now
read (shape.Address rd to) = Address rd to.now

-- a word can hold the fields; LR has no second operand
pub record IsAtomicInRange (a : atomics.Atomic) : Type 0 where
  pub fields : atomic_table.InRange a
  pub without : a.op ≡ Lr → a.rs2 ≡ 0

-- a word can hold the fields
abbrev pub IsItemInRange : ImageWord → Type 0
IsItemInRange (Instruction i) = InRange i
IsItemInRange (Atomic a) = IsAtomicInRange a
IsItemInRange (Data n) = n < 2 ^ 32

abbrev pub IsLineReady : code.Statement → Type 0
IsLineReady shape.Nothing = Unit {0}
IsLineReady (shape.Label name) = Unit {0}
IsLineReady (shape.Single i) = IsItemInRange i
IsLineReady (shape.Pair i j) = InRange i × InRange j
IsLineReady (shape.Branch op rs1 rs2 to) = (rs1 < 32) × (rs2 < 32)
IsLineReady (shape.Jump rd to) = rd < 32
IsLineReady (shape.Address rd to) = rd < 32

-- what a function returned, seen by view, is what the definition gives
abbrev pub Reads : {X Y : Type 0} → (X → Y) → Result X FaultKind → Result Y FaultKind → Type 0
Reads view result given = MatchResult result (λ x. given ≡ Ok (view x)) (λ e. given ≡ Err e)
