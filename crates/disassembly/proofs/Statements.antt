-- What the assembler reads in the lines of instructions.
use Rattle.std.proofs.Common.{◌≡◌, ℕ, suc, ◌+◌, ◌-◌, ◌*◌, ◌/◌, ◌%◌, ◌^◌, ◌<◌, ◌≤◌, Bool, true, false, not, ◌==◌, eqb, nat_lt, List, [], ◌∷◌, ◌++◌, length, codes, Option, Some, None, Result, Ok, Err, refl, sym, ap, ◌∙◌, arith, leb, le-leb, leb-true, ltb-true, ◌&&◌}
use Rattle.std.specs.Prelude.{decimal, ℤ, pos, negsuc}
use Rattle.std.specs.Fmt.{signed_decimal}
use Rattle.std.specs.List.{list_all, before_first}
use Rattle.std.specs.Option.{ok_or}
use Rattle.std.proofs.lemmas.Bool.{and_parts}
use Rattle.cloak_model.specs.Effect.{offset}
use Rattle.cloak_model.specs.Report.{hexadecimal}
use Rattle.rv_isa.specs.Range.{InRange, FitsSigned}
use Rattle.rv_isa.specs.declared.instr.Instr.{Instr}
use Rattle.rv_isa.specs.declared.instr.Instr.TheVariants as instr
use Rattle.rv_asm.specs.Words.{◌>>=◌, cut, leading_word}
use Rattle.rv_asm.specs.Operations.{operation, register_op, immediate_op, shift_op, upper_op, load_op, store_op, branch_op, csr_op, csr_immediate_op, atomic_name, atomic_order, atomic, bare, single, register_instruction, immediate_instruction, shift_instruction, upper_instruction, load_instruction, store_instruction, csr_instruction, csr_immediate_instruction}
use Rattle.rv_asm.specs.Statements as asm
use Rattle.rv_asm.specs.Statements.{Meaning, Fixed, Branch, Jump, statement, statement_of, label_word}
use Rattle.rv_asm.specs.declared.fault.FaultKind.{FaultKind}
use Rattle.rv_asm.specs.declared.fault.FaultKind.TheVariants.{BadOperand}
use Rattle.rv_asm.specs.declared.image_word.ImageWord.{ImageWord}
use Rattle.rv_asm.specs.declared.image_word.ImageWord.TheVariants.{Instruction, Data}
use Rattle.rv_asm.specs.declared.operation.Operation.{Operation}
use Rattle.rv_asm.specs.declared.operation.Operation.TheVariants as ops
use Rattle.rv_asm.specs.declared.operation.RegisterOp.{RegisterOp}
use Rattle.rv_asm.specs.declared.operation.RegisterOp.TheVariants as registers
use Rattle.rv_asm.specs.declared.operation.ImmediateOp.{ImmediateOp}
use Rattle.rv_asm.specs.declared.operation.ImmediateOp.TheVariants as immediates
use Rattle.rv_asm.specs.declared.operation.ShiftOp.{ShiftOp}
use Rattle.rv_asm.specs.declared.operation.ShiftOp.TheVariants as shifts
use Rattle.rv_asm.specs.declared.operation.UpperOp.{UpperOp}
use Rattle.rv_asm.specs.declared.operation.UpperOp.TheVariants as uppers
use Rattle.rv_asm.specs.declared.operation.LoadOp.{LoadOp}
use Rattle.rv_asm.specs.declared.operation.LoadOp.TheVariants as loads
use Rattle.rv_asm.specs.declared.operation.StoreOp.{StoreOp}
use Rattle.rv_asm.specs.declared.operation.StoreOp.TheVariants as stores
use Rattle.rv_asm.specs.declared.operation.BranchOp.{BranchOp}
use Rattle.rv_asm.specs.declared.operation.BranchOp.TheVariants as branches
use Rattle.rv_asm.specs.declared.operation.CsrOp.{CsrOp}
use Rattle.rv_asm.specs.declared.operation.CsrOp.TheVariants as csrs
use Rattle.rv_asm.specs.declared.operation.CsrImmediateOp.{CsrImmediateOp}
use Rattle.rv_asm.specs.declared.operation.CsrImmediateOp.TheVariants as csr_immediates
use Rattle.word_text.specs.Operands.{register, upper, csr_number, memory, base, target, label}
use Rattle.word_text.specs.Text.{two, three, number_text}
use Rattle.disassembly.proofs.Bytes.{not_zero, lacks, is_solid, cut_at, before_none, leading, leading_skips, all_of}
use Rattle.disassembly.proofs.Operands as operands
use Rattle.disassembly.proofs.Operands.{are_operand, are_word, joined, words_are_operand, register_is_operand}

-- ---- a line by its name and its operands

-- bytes of a line: blanks, operands and commas
abbrev pub is_line_byte : ℕ → Bool
is_line_byte b = leb 32 b && leb b 122

abbrev pub are_line : List ℕ → Bool
are_line text = list_all is_line_byte text

in_line : (b : ℕ) → operands.is_operand_byte b ≡ true → is_line_byte b ≡ true
in_line b h =
    let parts = and_parts _ _ (and_parts _ _ h).0 in
    let low = leb-true 40 b parts.0 in
    rw (le-leb 32 b (omega (arith, low)), parts.1) refl

pub operand_in_line : (text : List ℕ) → are_operand text ≡ true → are_line text ≡ true
operand_in_line text h = all_of operands.is_operand_byte is_line_byte in_line text h

-- a name by which the assembler knows an operation
pub record IsMnemonic (name : List ℕ) (op : Operation) : Type 0 where
  pub some : nat_lt 0 (length name) ≡ true
  pub solid : is_solid name ≡ true
  pub plain : lacks 35 name ≡ true
  pub line : are_line name ≡ true
  pub no_label : label_word name ≡ None
  pub means : operation name ≡ Some op

is_some : (n : ℕ) → nat_lt 0 n ≡ true → (n == 0) ≡ false
is_some n h = not_zero n (ltb-true 0 n h)

pub line_reads : (name rest : List ℕ) (op : Operation) → IsMnemonic name op → lacks 35 rest ≡ true →
    statement (codes "    " ++ (name ++ (codes " " ++ rest))) ≡ ok_or (statement_of op rest) BadOperand
unfolding statement
line_reads name rest op m plain =
    let line = name ++ 32 ∷ rest in
    let plain_line : lacks 35 (codes "    " ++ line) ≡ true = joined (λ b. not (eqb b 35)) name (32 ∷ rest) m.plain (rw plain refl) in
    let some : 0 < length name = ltb-true _ _ m.some in
    rw (
      before_none 35 (codes "    " ++ line) plain_line,
      leading_skips (32 ∷ 32 ∷ 32 ∷ line),
      leading_skips (32 ∷ 32 ∷ line),
      leading_skips (32 ∷ line),
      leading_skips line,
      leading name rest some m.solid,
      is_some (length name) m.some,
      m.no_label,
      m.means,
    ) refl

-- ---- operands with commas between

comma : (text : List ℕ) → are_operand text ≡ true → lacks 44 text ≡ true
comma text h = all_of operands.is_operand_byte (λ b. not (eqb b 44)) operands.operand_lacks_comma text h

hash : (text : List ℕ) → are_operand text ≡ true → lacks 35 text ≡ true
hash text h = all_of operands.is_operand_byte (λ b. not (eqb b 35)) operands.operand_lacks_hash text h

pub two_cut : (a b : List ℕ) → are_operand a ≡ true → cut 44 (a ++ (codes ", " ++ b)) ≡ Some (a, 32 ∷ b)
two_cut a b h = cut_at 44 a (32 ∷ b) (comma a h)

pub three_cut : (a b c : List ℕ) → are_operand a ≡ true → are_operand b ≡ true →
    asm.three (a ++ (codes ", " ++ (b ++ (codes ", " ++ c)))) ≡ Some (a, 32 ∷ b, 32 ∷ c)
unfolding asm.three
three_cut a b c h g =
    let second : lacks 44 (32 ∷ b) ≡ true = rw (comma b g) refl in
    rw (two_cut a (b ++ (codes ", " ++ c)) h, cut_at 44 (32 ∷ b) (32 ∷ c) second) refl

two_plain : (a b : List ℕ) → are_operand a ≡ true → are_operand b ≡ true → lacks 35 (a ++ (codes ", " ++ b)) ≡ true
two_plain a b h g = joined (λ x. not (eqb x 35)) a (codes ", " ++ b) (hash a h) (rw (hash b g) refl)

three_plain : (a b c : List ℕ) → are_operand a ≡ true → are_operand b ≡ true → are_operand c ≡ true →
    lacks 35 (a ++ (codes ", " ++ (b ++ (codes ", " ++ c)))) ≡ true
three_plain a b c h g f =
    joined (λ x. not (eqb x 35)) a (codes ", " ++ (b ++ (codes ", " ++ c))) (hash a h) (rw (two_plain b c g f) refl)

two_line : (a b : List ℕ) → are_operand a ≡ true → are_operand b ≡ true → are_line (a ++ (codes ", " ++ b)) ≡ true
two_line a b h g = joined is_line_byte a (codes ", " ++ b) (operand_in_line a h) (rw (operand_in_line b g) refl)

three_line : (a b c : List ℕ) → are_operand a ≡ true → are_operand b ≡ true → are_operand c ≡ true →
    are_line (a ++ (codes ", " ++ (b ++ (codes ", " ++ c)))) ≡ true
three_line a b c h g f =
    joined is_line_byte a (codes ", " ++ (b ++ (codes ", " ++ c))) (operand_in_line a h) (rw (two_line b c g f) refl)

-- ---- what is read of a line

-- the statement of a text that stands alone on an indented line
pub record Reads (text : List ℕ) (meant : Meaning) : Type 0 where
  pub statement_is : statement (codes "    " ++ text) ≡ Ok meant
  pub line : are_line text ≡ true

pub two_reads : (name a b : List ℕ) (op : Operation) (meant : Meaning) → IsMnemonic name op → are_operand a ≡ true → are_operand b ≡ true →
    ok_or (statement_of op (a ++ (codes ", " ++ b))) BadOperand ≡ Ok meant → Reads (two name a b) meant
two_reads name a b op meant m h g is = record {
  statement_is = line_reads name _ op m (two_plain a b h g) ∙ is;
  line = joined is_line_byte name (codes " " ++ (a ++ (codes ", " ++ b))) m.line (rw (two_line a b h g) refl);
}

pub three_reads : (name a b c : List ℕ) (op : Operation) (meant : Meaning) → IsMnemonic name op → are_operand a ≡ true → are_operand b ≡ true →
    are_operand c ≡ true → ok_or (statement_of op (a ++ (codes ", " ++ (b ++ (codes ", " ++ c))))) BadOperand ≡ Ok meant →
    Reads (three name a b c) meant
three_reads name a b c op meant m h g f is = record {
  statement_is = line_reads name _ op m (three_plain a b c h g f) ∙ is;
  line = joined is_line_byte name (codes " " ++ (a ++ (codes ", " ++ (b ++ (codes ", " ++ c))))) m.line (rw (three_line a b c h g f) refl);
}

-- ---- each kind of instruction

pub register_reads : (name : List ℕ) (op : RegisterOp) (rd rs1 rs2 : ℕ) → IsMnemonic name (ops.Register op) → rd < 32 → rs1 < 32 → rs2 < 32 →
    Reads (three name (register rd) (register rs1) (register rs2)) (Fixed (Instruction (register_instruction op rd rs1 rs2) ∷ []))
unfolding asm.register_form
register_reads name op rd rs1 rs2 m a b c =
    three_reads name (register rd) (register rs1) (register rs2) _ _ m (register_is_operand rd a) (register_is_operand rs1 b) (register_is_operand rs2 c)
    (rw (
      three_cut (register rd) (register rs1) (register rs2) (register_is_operand rd a) (register_is_operand rs1 b),
      operands.register_operand rd a,
      operands.register_after rs1 b,
      operands.register_after rs2 c,
    ) refl)

pub immediate_reads : (name : List ℕ) (op : ImmediateOp) (rd rs1 : ℕ) (imm : ℤ) → IsMnemonic name (ops.Immediate op) → rd < 32 → rs1 < 32 →
    FitsSigned 12 imm →
    Reads (three name (register rd) (register rs1) (signed_decimal imm)) (Fixed (Instruction (immediate_instruction op rd rs1 imm) ∷ []))
unfolding asm.immediate_form
immediate_reads name op rd rs1 imm m a b c =
    let third = operands.signed_is_operand imm c in
    three_reads name (register rd) (register rs1) (signed_decimal imm) _ _ m (register_is_operand rd a) (register_is_operand rs1 b) third
    (rw (
      three_cut (register rd) (register rs1) (signed_decimal imm) (register_is_operand rd a) (register_is_operand rs1 b),
      operands.register_operand rd a,
      operands.register_after rs1 b,
      operands.immediate_after imm c,
    ) refl)

pub shift_reads : (name : List ℕ) (op : ShiftOp) (rd rs1 shamt : ℕ) → IsMnemonic name (ops.Shift op) → rd < 32 → rs1 < 32 → shamt < 32 →
    Reads (three name (register rd) (register rs1) (decimal shamt)) (Fixed (Instruction (shift_instruction op rd rs1 shamt) ∷ []))
unfolding asm.shift_form
shift_reads name op rd rs1 shamt m a b c =
    let third = operands.small_is_operand shamt c in
    three_reads name (register rd) (register rs1) (decimal shamt) _ _ m (register_is_operand rd a) (register_is_operand rs1 b) third
    (rw (
      three_cut (register rd) (register rs1) (decimal shamt) (register_is_operand rd a) (register_is_operand rs1 b),
      operands.register_operand rd a,
      operands.register_after rs1 b,
      operands.small_after shamt c,
    ) refl)

pub upper_reads : (name : List ℕ) (op : UpperOp) (rd imm : ℕ) → IsMnemonic name (ops.Upper op) → rd < 32 → imm < 2 ^ 32 → imm % 4096 ≡ 0 →
    Reads (two name (register rd) (upper imm)) (Fixed (Instruction (upper_instruction op rd imm) ∷ []))
unfolding asm.upper_form
upper_reads name op rd imm m a b low =
    let whole : imm / 4096 * 4096 ≡ imm = omega (arith, low) in
    two_reads name (register rd) (upper imm) _ _ m (register_is_operand rd a) (operands.upper_is_operand imm)
    (rw (two_cut (register rd) (upper imm) (register_is_operand rd a), operands.register_operand rd a, operands.upper_after imm b, whole) refl)

pub load_reads : (name : List ℕ) (op : LoadOp) (rd rs1 : ℕ) (imm : ℤ) → IsMnemonic name (ops.Load op) → rd < 32 → rs1 < 32 → FitsSigned 12 imm →
    Reads (two name (register rd) (memory imm rs1)) (Fixed (Instruction (load_instruction op rd rs1 imm) ∷ []))
unfolding asm.load_form
load_reads name op rd rs1 imm m a b c =
    two_reads name (register rd) (memory imm rs1) _ _ m (register_is_operand rd a) (operands.memory_is_operand imm rs1 c b)
    (rw (two_cut (register rd) (memory imm rs1) (register_is_operand rd a), operands.register_operand rd a, operands.memory_after imm rs1 c b) refl)

pub store_reads : (name : List ℕ) (op : StoreOp) (rs1 rs2 : ℕ) (imm : ℤ) → IsMnemonic name (ops.Store op) → rs1 < 32 → rs2 < 32 → FitsSigned 12 imm →
    Reads (two name (register rs2) (memory imm rs1)) (Fixed (Instruction (store_instruction op rs1 rs2 imm) ∷ []))
unfolding asm.store_form
store_reads name op rs1 rs2 imm m b a c =
    two_reads name (register rs2) (memory imm rs1) _ _ m (register_is_operand rs2 a) (operands.memory_is_operand imm rs1 c b)
    (rw (two_cut (register rs2) (memory imm rs1) (register_is_operand rs2 a), operands.register_operand rs2 a, operands.memory_after imm rs1 c b) refl)

pub csr_reads : (name : List ℕ) (op : CsrOp) (rd rs1 csr : ℕ) → IsMnemonic name (ops.Csr op) → rd < 32 → rs1 < 32 → csr < 4096 →
    Reads (three name (register rd) (csr_number csr) (register rs1)) (Fixed (Instruction (csr_instruction op rd rs1 csr) ∷ []))
unfolding asm.csr_form
csr_reads name op rd rs1 csr m a b c =
    let second = operands.csr_is_operand csr in
    three_reads name (register rd) (csr_number csr) (register rs1) _ _ m (register_is_operand rd a) second (register_is_operand rs1 b)
    (rw (
      three_cut (register rd) (csr_number csr) (register rs1) (register_is_operand rd a) second,
      operands.register_operand rd a,
      operands.csr_after csr c,
      operands.register_after rs1 b,
    ) refl)

pub csr_immediate_reads : (name : List ℕ) (op : CsrImmediateOp) (rd uimm csr : ℕ) → IsMnemonic name (ops.CsrImmediate op) → rd < 32 → uimm < 32 → csr < 4096 →
    Reads (three name (register rd) (csr_number csr) (decimal uimm)) (Fixed (Instruction (csr_immediate_instruction op rd uimm csr) ∷ []))
unfolding asm.csr_immediate_form
csr_immediate_reads name op rd uimm csr m a b c =
    let second = operands.csr_is_operand csr in
    let third = operands.small_is_operand uimm b in
    three_reads name (register rd) (csr_number csr) (decimal uimm) _ _ m (register_is_operand rd a) second third
    (rw (
      three_cut (register rd) (csr_number csr) (decimal uimm) (register_is_operand rd a) second,
      operands.register_operand rd a,
      operands.csr_after csr c,
      operands.small_after uimm b,
    ) refl)

pub branch_reads : (name : List ℕ) (op : BranchOp) (rs1 rs2 at : ℕ) (imm : ℤ) → IsMnemonic name (ops.Branch op) → rs1 < 32 → rs2 < 32 →
    Reads (three name (register rs1) (register rs2) (target at imm)) (Branch op rs1 rs2 (target at imm))
unfolding asm.branch_statement
branch_reads name op rs1 rs2 at imm m a b =
    let third = operands.label_is_operand (offset at imm) in
    three_reads name (register rs1) (register rs2) (target at imm) _ _ m (register_is_operand rs1 a) (register_is_operand rs2 b) third
    (rw (
      three_cut (register rs1) (register rs2) (target at imm) (register_is_operand rs1 a) (register_is_operand rs2 b),
      operands.register_operand rs1 a,
      operands.register_after rs2 b,
      operands.name_after (offset at imm),
    ) refl)

pub jump_reads : (rd at : ℕ) (imm : ℤ) → IsMnemonic (codes "jal") ops.Jal → rd < 32 →
    Reads (two (codes "jal") (register rd) (target at imm)) (Jump rd (target at imm))
unfolding asm.jal_statement
jump_reads rd at imm m a =
    two_reads (codes "jal") (register rd) (target at imm) _ _ m (register_is_operand rd a) (operands.label_is_operand (offset at imm))
    (rw (two_cut (register rd) (target at imm) (register_is_operand rd a), operands.register_operand rd a, operands.name_after (offset at imm)) refl)

pub fence_reads : (rs1 rs2 : ℕ) → IsMnemonic (codes "sfence.vma") ops.Fence → rs1 < 32 → rs2 < 32 →
    Reads (two (codes "sfence.vma") (register rs1) (register rs2)) (Fixed (Instruction (instr.SfenceVma rs1 rs2) ∷ []))
unfolding asm.fence_form
fence_reads rs1 rs2 m a b =
    two_reads (codes "sfence.vma") (register rs1) (register rs2) _ _ m (register_is_operand rs1 a) (register_is_operand rs2 b)
    (rw (two_cut (register rs1) (register rs2) (register_is_operand rs1 a), operands.register_operand rs1 a, operands.register_after rs2 b) refl)

-- a word by its number
pub number_reads : (w : ℕ) → w < 2 ^ 32 → Reads (number_text w) (Fixed (Data w ∷ []))
unfolding operation register_op immediate_op shift_op upper_op load_op store_op branch_op csr_op csr_immediate_op bare atomic single label_word cut atomic_name atomic_order asm.word_statement
number_reads w below =
    let m : IsMnemonic (codes ".word") ops.Word = (record { some = refl; solid = refl; plain = refl; line = refl; no_label = refl; means = refl }) in
    let digits : are_operand (codes "0x" ++ hexadecimal w) ≡ true = words_are_operand (codes "0x" ++ hexadecimal w) (rw (operands.hexadecimal_is_word w) refl) in
    record {
      statement_is = line_reads (codes ".word") (codes "0x" ++ hexadecimal w) _ m (hash (codes "0x" ++ hexadecimal w) digits) ∙ rw (operands.word_alone w below) refl;
      line = rw (operand_in_line (codes "0x" ++ hexadecimal w) digits) refl;
    }
