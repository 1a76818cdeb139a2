-- The fields of a word's instruction are in range.
use Rattle.std.proofs.Common.{◌≡◌, ℕ, zero, suc, ◌+◌, ◌-◌, ◌*◌, ◌/◌, ◌%◌, ◌^◌, ◌<◌, Bool, true, false, true≢false, cond, sym, ap, ◌∙◌, Option, Some, None, IfSome, refl, arith, rules, nat_lt, ltb-true, ltb-false, ◌&&◌, ◌==◌, eqb-true}
use Rattle.std.specs.Prelude.{ℤ, pos, negsuc}
use Rattle.std.proofs.lemmas.Bool.{and_parts}
use Rattle.rv_isa.specs.Fields.{bits, opcode, rd_of, funct3, rs1_of, rs2_of, funct7, shamt_of, uimm_of, csr_of, rest_of, sign_extended, imm_i, imm_s, imm_b, imm_u, imm_j}
use Rattle.rv_isa.specs.Range.{InRange, FitsSigned, IsEven}
use Rattle.rv_isa.specs.Table.{jalr_line, branch_line, load_line, store_line, op_imm_line, op_line, misc_mem_line, system_line, privileged_line, instruction}
use Rattle.rv_isa.specs.declared.instr.Instr.{Instr}
use Rattle.rv_isa.proofs.Spelling.{if_line}
use Rattle.rv_atomic.specs.Table as atomic_table
use Rattle.rv_atomic.specs.Table.{operation, atomic_instruction, atomic_of, with_operation}
use Rattle.rv_atomic.specs.declared.atomic.Atomic as atomics
use Rattle.rv_atomic.specs.declared.atomic.AtomicOp.{AtomicOp}
use Rattle.rv_atomic.specs.declared.atomic.AtomicOp.TheVariants as amo
use Rattle.rv_asm.specs.Statements.{IsAtomicInRange}

signed_fits : (count n : ℕ) → 0 < count → n < 2 ^ count → 2 ^ count ≡ 2 * 2 ^ (count - 1) → FitsSigned count (sign_extended count n)
signed_fits count n some below twice = go (nat_lt n (2 ^ (count - 1))) refl
  where
    go : (b : Bool) → nat_lt n (2 ^ (count - 1)) ≡ b → FitsSigned count (sign_extended count n)
    go true is = rw is (ltb-true _ _ is)
    go false is = let high = ltb-false _ _ is in rw is (omega (arith, high, below, twice))

signed_even : (count n : ℕ) → n < 2 ^ count → n % 2 ≡ 0 → 2 ^ count % 2 ≡ 0 → IsEven (sign_extended count n)
signed_even count n below even whole = go (nat_lt n (2 ^ (count - 1))) refl
  where
    go : (b : Bool) → nat_lt n (2 ^ (count - 1)) ≡ b → IsEven (sign_extended count n)
    go true is = rw is even
    go false is = rw is (omega (arith, below, even, whole))

i_fits : (w : ℕ) → FitsSigned 12 (imm_i w)
i_fits w = signed_fits 12 (bits w 31 20) (omega arith) (omega arith) refl

s_fits : (w : ℕ) → FitsSigned 12 (imm_s w)
s_fits w = signed_fits 12 (bits w 31 25 * 2 ^ 5 + bits w 11 7) (omega arith) (omega arith) refl

b_fits : (w : ℕ) → FitsSigned 13 (imm_b w)
b_fits w =
    signed_fits 13 (bits w 31 31 * 2 ^ 12 + bits w 7 7 * 2 ^ 11 + bits w 30 25 * 2 ^ 5 + bits w 11 8 * 2 ^ 1) (omega arith) (omega arith) refl

b_even : (w : ℕ) → IsEven (imm_b w)
b_even w =
    signed_even 13 (bits w 31 31 * 2 ^ 12 + bits w 7 7 * 2 ^ 11 + bits w 30 25 * 2 ^ 5 + bits w 11 8 * 2 ^ 1) (omega arith) (omega arith) refl

j_fits : (w : ℕ) → FitsSigned 21 (imm_j w)
j_fits w =
    signed_fits 21 (bits w 31 31 * 2 ^ 20 + bits w 19 12 * 2 ^ 12 + bits w 20 20 * 2 ^ 11 + bits w 30 21 * 2 ^ 1) (omega arith) (omega arith) refl

j_even : (w : ℕ) → IsEven (imm_j w)
j_even w =
    signed_even 21 (bits w 31 31 * 2 ^ 20 + bits w 19 12 * 2 ^ 12 + bits w 20 20 * 2 ^ 11 + bits w 30 21 * 2 ^ 1) (omega arith) (omega arith) refl

rd_below : (w : ℕ) → rd_of w < 32
rd_below w = omega arith

rs1_below : (w : ℕ) → rs1_of w < 32
rs1_below w = omega arith

rs2_below : (w : ℕ) → rs2_of w < 32
rs2_below w = omega arith

u_below : (w : ℕ) → imm_u w < 2 ^ 32
u_below w = omega arith

u_whole : (w : ℕ) → imm_u w % 4096 ≡ 0
u_whole w = omega arith

csr_below : (w : ℕ) → csr_of w < 4096
csr_below w = omega arith

rest_below : (w : ℕ) → rest_of w < 2 ^ 32
rest_below w = omega arith

rest_low : (w : ℕ) → rest_of w % 2 ^ 7 ≡ 0
rest_low w = omega arith

rest_mid : (w : ℕ) → rest_of w / 2 ^ 12 % 2 ^ 3 ≡ 0
rest_mid w = omega arith

jalr_range : (w : ℕ) → IfSome (jalr_line w) InRange
unfolding jalr_line
jalr_range w = search (rules, if_line, rd_below, rs1_below, rs2_below, i_fits)

branch_range : (w : ℕ) → IfSome (branch_line w) InRange
unfolding branch_line
branch_range w = search (rules, if_line, rd_below, rs1_below, rs2_below, b_fits, b_even)

load_range : (w : ℕ) → IfSome (load_line w) InRange
unfolding load_line
load_range w = search (rules, if_line, rd_below, rs1_below, rs2_below, i_fits)

store_range : (w : ℕ) → IfSome (store_line w) InRange
unfolding store_line
store_range w = search (rules, if_line, rd_below, rs1_below, rs2_below, s_fits)

op_imm_range : (w : ℕ) → IfSome (op_imm_line w) InRange
unfolding op_imm_line
op_imm_range w = search (rules, if_line, rd_below, rs1_below, rs2_below, i_fits)

op_range : (w : ℕ) → IfSome (op_line w) InRange
unfolding op_line
op_range w = search (rules, if_line, rd_below, rs1_below, rs2_below)

misc_mem_range : (w : ℕ) → IfSome (misc_mem_line w) InRange
unfolding misc_mem_line
misc_mem_range w = search (rules, if_line, rest_below, rest_low, rest_mid)

privileged_range : (w : ℕ) → IfSome (privileged_line w) InRange
unfolding privileged_line
privileged_range w = search (rules, if_line, rd_below, rs1_below, rs2_below)

system_range : (w : ℕ) → IfSome (system_line w) InRange
unfolding system_line
system_range w = search (rules, if_line, rd_below, rs1_below, rs2_below, csr_below, privileged_range)

pub instruction_range : (w : ℕ) → IfSome (instruction w) InRange
unfolding instruction
instruction_range w =
    search (rules, if_line, rd_below, rs1_below, rs2_below, u_below, u_whole, j_fits, j_even, jalr_range, branch_range, load_range, store_range, op_imm_range, op_range, misc_mem_range, system_range) depth 16

-- ---- atomic instructions

if_some : {A : Type 0} (test : Bool) (here others : Option A) (P : A → Type 0) → (test ≡ true → IfSome here P) → (test ≡ false → IfSome others P) →
    IfSome (cond test here others) P
if_some true here others P is not = is refl
if_some false here others P is not = not refl

abbrev is_lr : AtomicOp → Bool
is_lr amo.Lr = true
is_lr op = false

not_lr : (op : AtomicOp) (n : ℕ) → is_lr op ≡ false → op ≡ amo.Lr → n ≡ 0
not_lr op n other is = let lr : is_lr op ≡ true = ap is_lr is in absurd (true≢false (sym lr ∙ other))

without_operand : (w : ℕ) → (atomic_table.funct5 w == 0b00010 && (rs2_of w == 0)) ≡ true → amo.Lr ≡ amo.Lr → rs2_of w ≡ 0
without_operand w test same = eqb-true _ _ (and_parts _ _ test).1

operation_without : (w : ℕ) → IfSome (operation w) (λ op. op ≡ amo.Lr → rs2_of w ≡ 0)
unfolding operation
operation_without w = search (rules, if_some, without_operand, not_lr) depth 16

with_range : (w : ℕ) (o : Option AtomicOp) → IfSome o (λ op. op ≡ amo.Lr → rs2_of w ≡ 0) → IfSome (with_operation w o) IsAtomicInRange
with_range w None h = tt
with_range w (Some op) h = record {
  fields = record { rd = rd_below w; rs1 = rs1_below w; rs2 = rs2_below w; order = omega arith };
  without = h;
}

pub atomic_range : (w : ℕ) → IfSome (atomic_instruction w) IsAtomicInRange
unfolding atomic_instruction
atomic_range w =
    if_some _ (with_operation w (operation w)) None IsAtomicInRange (λ is. with_range w (operation w) (operation_without w)) (λ is. tt)
