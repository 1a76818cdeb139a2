use Rattle.std.proofs.Common.{◌≡◌, ℕ, suc, ◌+◌, ◌-◌, ◌*◌, ◌^◌, ◌<◌, ℤ, pos, negsuc, Bool, true, false, cond, refl, arith, nat_lt, rules, Option, Some, IfSome, subst}
use Rattle.rv_isa.specs.Fields.{bits, opcode, rd_of, funct3, rs1_of, rs2_of, funct7, csr_of, rest_of, sign_extended, imm_i, imm_s, imm_b, imm_u, imm_j}
use Rattle.rv_isa.specs.Table.{jalr_line, branch_line, load_line, store_line, op_imm_line, op_line, misc_mem_line, system_line, privileged_line, instruction}
use Rattle.rv_isa.specs.declared.instr.Instr.{Instr}
use Rattle.rv_isa.specs.declared.instr.Instr.TheVariants.{Lui, Auipc, Jal, Jalr, Beq, Bne, Blt, Bge, Bltu, Bgeu, Lb, Lh, Lw, Lbu, Lhu, Sb, Sh, Sw, Addi, Slti, Sltiu, Xori, Ori, Andi, Slli, Srli, Srai, Add, Sub, Sll, Slt, Sltu, Xor, Srl, Sra, Or, And, Mul, Mulh, Mulhsu, Mulhu, Div, Divu, Rem, Remu, Fence, FenceI, Csrrw, Csrrs, Csrrc, Csrrwi, Csrrsi, Csrrci, Ecall, Ebreak, Sret, Wfi, SfenceVma}

-- the low bits of a signed number
abbrev pub low_bits : ℕ → ℤ → ℕ
low_bits count (pos n) = n
low_bits count (negsuc n) = 2 ^ count - suc n

pub low_bits-sign_extended : (count n : ℕ) → n < 2 ^ count → low_bits count (sign_extended count n) ≡ n
low_bits-sign_extended count n below =
    elim (nat_lt n (2 ^ (count - 1))) as (λ b. low_bits count (cond b (pos n) (negsuc (2 ^ count - suc n))) ≡ n)
    [ true ↦ refl | false ↦ omega arith ]

-- The word of each form, by its fields.

pub r_word : ℕ → ℕ → ℕ → ℕ → ℕ → ℕ → ℕ
r_word o f3 f7 rd rs1 rs2 = o + rd * 2 ^ 7 + f3 * 2 ^ 12 + rs1 * 2 ^ 15 + rs2 * 2 ^ 20 + f7 * 2 ^ 25

pub csr_word : ℕ → ℕ → ℕ → ℕ → ℕ
csr_word f3 rd rs1 csr = 0b1110011 + rd * 2 ^ 7 + f3 * 2 ^ 12 + rs1 * 2 ^ 15 + csr * 2 ^ 20

pub i_word : ℕ → ℕ → ℕ → ℕ → ℤ → ℕ
i_word o f3 rd rs1 imm = o + rd * 2 ^ 7 + f3 * 2 ^ 12 + rs1 * 2 ^ 15 + low_bits 12 imm * 2 ^ 20

pub s_word : ℕ → ℕ → ℕ → ℕ → ℤ → ℕ
s_word o f3 rs1 rs2 imm =
    let n = low_bits 12 imm in
    o + bits n 4 0 * 2 ^ 7 + f3 * 2 ^ 12 + rs1 * 2 ^ 15 + rs2 * 2 ^ 20 + bits n 11 5 * 2 ^ 25

pub b_word : ℕ → ℕ → ℕ → ℕ → ℤ → ℕ
b_word o f3 rs1 rs2 imm =
    let n = low_bits 13 imm in
    o + bits n 11 11 * 2 ^ 7 + bits n 4 1 * 2 ^ 8 + f3 * 2 ^ 12 + rs1 * 2 ^ 15 + rs2 * 2 ^ 20 + bits n 10 5 * 2 ^ 25 + bits n 12 12 * 2 ^ 31

pub u_word : ℕ → ℕ → ℕ → ℕ
u_word o rd imm = o + rd * 2 ^ 7 + imm

pub j_word : ℕ → ℕ → ℤ → ℕ
j_word o rd imm =
    let n = low_bits 21 imm in
    o + rd * 2 ^ 7 + bits n 19 12 * 2 ^ 12 + bits n 11 11 * 2 ^ 20 + bits n 10 1 * 2 ^ 21 + bits n 20 20 * 2 ^ 31

pub fence_word : ℕ → ℕ → ℕ
fence_word f3 rest = 0b0001111 + f3 * 2 ^ 12 + rest

-- A word of a form, from its own fields.

pub r_fields : (w o f3 f7 : ℕ) → w < 2 ^ 32 → opcode w ≡ o → funct3 w ≡ f3 → funct7 w ≡ f7 → r_word o f3 f7 (rd_of w) (rs1_of w) (rs2_of w) ≡ w
unfolding r_word
r_fields w o f3 f7 below op third seventh = omega arith

pub csr_fields : (w f3 : ℕ) → w < 2 ^ 32 → opcode w ≡ 0b1110011 → funct3 w ≡ f3 → csr_word f3 (rd_of w) (rs1_of w) (csr_of w) ≡ w
unfolding csr_word
csr_fields w f3 below op third = omega arith

pub i_fields : (w o f3 : ℕ) → w < 2 ^ 32 → opcode w ≡ o → funct3 w ≡ f3 → i_word o f3 (rd_of w) (rs1_of w) (imm_i w) ≡ w
unfolding i_word
i_fields w o f3 below op third =
    let fits : bits w 31 20 < 2 ^ 12 = omega arith in
    rw (low_bits-sign_extended 12 (bits w 31 20) fits) (omega arith)

pub s_fields : (w o f3 : ℕ) → w < 2 ^ 32 → opcode w ≡ o → funct3 w ≡ f3 → s_word o f3 (rs1_of w) (rs2_of w) (imm_s w) ≡ w
unfolding s_word
s_fields w o f3 below op third =
    let n = bits w 31 25 * 2 ^ 5 + bits w 11 7 in
    let fits : n < 2 ^ 12 = omega arith in
    rw (low_bits-sign_extended 12 n fits) (omega arith)

pub b_fields : (w o f3 : ℕ) → w < 2 ^ 32 → opcode w ≡ o → funct3 w ≡ f3 → b_word o f3 (rs1_of w) (rs2_of w) (imm_b w) ≡ w
unfolding b_word
b_fields w o f3 below op third =
    let n = bits w 31 31 * 2 ^ 12 + bits w 7 7 * 2 ^ 11 + bits w 30 25 * 2 ^ 5 + bits w 11 8 * 2 ^ 1 in
    let fits : n < 2 ^ 13 = omega arith in
    rw (low_bits-sign_extended 13 n fits) (omega arith)

pub u_fields : (w o : ℕ) → w < 2 ^ 32 → opcode w ≡ o → u_word o (rd_of w) (imm_u w) ≡ w
unfolding u_word
u_fields w o below op = omega arith

pub j_fields : (w o : ℕ) → w < 2 ^ 32 → opcode w ≡ o → j_word o (rd_of w) (imm_j w) ≡ w
unfolding j_word
j_fields w o below op =
    let n = bits w 31 31 * 2 ^ 20 + bits w 19 12 * 2 ^ 12 + bits w 20 20 * 2 ^ 11 + bits w 30 21 * 2 ^ 1 in
    let fits : n < 2 ^ 21 = omega arith in
    rw (low_bits-sign_extended 21 n fits) (omega arith)

pub fence_fields : (w f3 : ℕ) → w < 2 ^ 32 → opcode w ≡ 0b0001111 → funct3 w ≡ f3 → fence_word f3 (rest_of w) ≡ w
unfolding fence_word
fence_fields w f3 below op third = omega arith

-- the word of an instruction
abbrev pub word_of : Instr → ℕ
word_of (Lui rd imm) = u_word 0b0110111 rd imm
word_of (Auipc rd imm) = u_word 0b0010111 rd imm
word_of (Jal rd imm) = j_word 0b1101111 rd imm
word_of (Jalr rd rs1 imm) = i_word 0b1100111 0b000 rd rs1 imm
word_of (Beq rs1 rs2 imm) = b_word 0b1100011 0b000 rs1 rs2 imm
word_of (Bne rs1 rs2 imm) = b_word 0b1100011 0b001 rs1 rs2 imm
word_of (Blt rs1 rs2 imm) = b_word 0b1100011 0b100 rs1 rs2 imm
word_of (Bge rs1 rs2 imm) = b_word 0b1100011 0b101 rs1 rs2 imm
word_of (Bltu rs1 rs2 imm) = b_word 0b1100011 0b110 rs1 rs2 imm
word_of (Bgeu rs1 rs2 imm) = b_word 0b1100011 0b111 rs1 rs2 imm
word_of (Lb rd rs1 imm) = i_word 0b0000011 0b000 rd rs1 imm
word_of (Lh rd rs1 imm) = i_word 0b0000011 0b001 rd rs1 imm
word_of (Lw rd rs1 imm) = i_word 0b0000011 0b010 rd rs1 imm
word_of (Lbu rd rs1 imm) = i_word 0b0000011 0b100 rd rs1 imm
word_of (Lhu rd rs1 imm) = i_word 0b0000011 0b101 rd rs1 imm
word_of (Sb rs1 rs2 imm) = s_word 0b0100011 0b000 rs1 rs2 imm
word_of (Sh rs1 rs2 imm) = s_word 0b0100011 0b001 rs1 rs2 imm
word_of (Sw rs1 rs2 imm) = s_word 0b0100011 0b010 rs1 rs2 imm
word_of (Addi rd rs1 imm) = i_word 0b0010011 0b000 rd rs1 imm
word_of (Slti rd rs1 imm) = i_word 0b0010011 0b010 rd rs1 imm
word_of (Sltiu rd rs1 imm) = i_word 0b0010011 0b011 rd rs1 imm
word_of (Xori rd rs1 imm) = i_word 0b0010011 0b100 rd rs1 imm
word_of (Ori rd rs1 imm) = i_word 0b0010011 0b110 rd rs1 imm
word_of (Andi rd rs1 imm) = i_word 0b0010011 0b111 rd rs1 imm
word_of (Slli rd rs1 shamt) = r_word 0b0010011 0b001 0b0000000 rd rs1 shamt
word_of (Srli rd rs1 shamt) = r_word 0b0010011 0b101 0b0000000 rd rs1 shamt
word_of (Srai rd rs1 shamt) = r_word 0b0010011 0b101 0b0100000 rd rs1 shamt
word_of (Add rd rs1 rs2) = r_word 0b0110011 0b000 0b0000000 rd rs1 rs2
word_of (Sub rd rs1 rs2) = r_word 0b0110011 0b000 0b0100000 rd rs1 rs2
word_of (Sll rd rs1 rs2) = r_word 0b0110011 0b001 0b0000000 rd rs1 rs2
word_of (Slt rd rs1 rs2) = r_word 0b0110011 0b010 0b0000000 rd rs1 rs2
word_of (Sltu rd rs1 rs2) = r_word 0b0110011 0b011 0b0000000 rd rs1 rs2
word_of (Xor rd rs1 rs2) = r_word 0b0110011 0b100 0b0000000 rd rs1 rs2
word_of (Srl rd rs1 rs2) = r_word 0b0110011 0b101 0b0000000 rd rs1 rs2
word_of (Sra rd rs1 rs2) = r_word 0b0110011 0b101 0b0100000 rd rs1 rs2
word_of (Or rd rs1 rs2) = r_word 0b0110011 0b110 0b0000000 rd rs1 rs2
word_of (And rd rs1 rs2) = r_word 0b0110011 0b111 0b0000000 rd rs1 rs2
word_of (Mul rd rs1 rs2) = r_word 0b0110011 0b000 0b0000001 rd rs1 rs2
word_of (Mulh rd rs1 rs2) = r_word 0b0110011 0b001 0b0000001 rd rs1 rs2
word_of (Mulhsu rd rs1 rs2) = r_word 0b0110011 0b010 0b0000001 rd rs1 rs2
word_of (Mulhu rd rs1 rs2) = r_word 0b0110011 0b011 0b0000001 rd rs1 rs2
word_of (Div rd rs1 rs2) = r_word 0b0110011 0b100 0b0000001 rd rs1 rs2
word_of (Divu rd rs1 rs2) = r_word 0b0110011 0b101 0b0000001 rd rs1 rs2
word_of (Rem rd rs1 rs2) = r_word 0b0110011 0b110 0b0000001 rd rs1 rs2
word_of (Remu rd rs1 rs2) = r_word 0b0110011 0b111 0b0000001 rd rs1 rs2
word_of (Fence rest) = fence_word 0b000 rest
word_of (FenceI rest) = fence_word 0b001 rest
word_of (Csrrw rd rs1 csr) = csr_word 0b001 rd rs1 csr
word_of (Csrrs rd rs1 csr) = csr_word 0b010 rd rs1 csr
word_of (Csrrc rd rs1 csr) = csr_word 0b011 rd rs1 csr
word_of (Csrrwi rd rs1 csr) = csr_word 0b101 rd rs1 csr
word_of (Csrrsi rd rs1 csr) = csr_word 0b110 rd rs1 csr
word_of (Csrrci rd rs1 csr) = csr_word 0b111 rd rs1 csr
word_of Ecall = 0x00000073
word_of Ebreak = 0x00100073
word_of Sret = 0x10200073
word_of Wfi = 0x10500073
word_of (SfenceVma rs1 rs2) = r_word 0b1110011 0b000 0b0001001 0 rs1 rs2

-- A choice of the table, in what holds of its instruction.
pub if_line : (test : Bool) (here others : Option Instr) (P : Instr → Type 0) → (test ≡ true → IfSome here P) → (test ≡ false → IfSome others P) → IfSome (cond test here others) P
if_line test here others P is not =
    elim test as (λ b. (b ≡ true → IfSome here P) → (b ≡ false → IfSome others P) → IfSome (cond b here others) P)
    [ true ↦ λ h a. h refl | false ↦ λ h a. a refl ] is not

-- Each line of the table has one word: that of the instruction that it gives.

pub jalr_word : (w : ℕ) → w < 2 ^ 32 → opcode w ≡ 0b1100111 → IfSome (jalr_line w) (λ i. word_of i ≡ w)
unfolding jalr_line
jalr_word w below op = search (rules, if_line, i_fields)

pub branch_word : (w : ℕ) → w < 2 ^ 32 → opcode w ≡ 0b1100011 → IfSome (branch_line w) (λ i. word_of i ≡ w)
unfolding branch_line
branch_word w below op = search (rules, if_line, b_fields)

pub load_word : (w : ℕ) → w < 2 ^ 32 → opcode w ≡ 0b0000011 → IfSome (load_line w) (λ i. word_of i ≡ w)
unfolding load_line
load_word w below op = search (rules, if_line, i_fields)

pub store_word : (w : ℕ) → w < 2 ^ 32 → opcode w ≡ 0b0100011 → IfSome (store_line w) (λ i. word_of i ≡ w)
unfolding store_line
store_word w below op = search (rules, if_line, s_fields)

pub op_imm_word : (w : ℕ) → w < 2 ^ 32 → opcode w ≡ 0b0010011 → IfSome (op_imm_line w) (λ i. word_of i ≡ w)
unfolding op_imm_line
op_imm_word w below op = search (rules, if_line, i_fields, r_fields)

pub op_word : (w : ℕ) → w < 2 ^ 32 → opcode w ≡ 0b0110011 → IfSome (op_line w) (λ i. word_of i ≡ w)
unfolding op_line
op_word w below op = search (rules, if_line, r_fields)

pub misc_mem_word : (w : ℕ) → w < 2 ^ 32 → opcode w ≡ 0b0001111 → IfSome (misc_mem_line w) (λ i. word_of i ≡ w)
unfolding misc_mem_line
misc_mem_word w below op = search (rules, if_line, fence_fields)

pub privileged_word : (w : ℕ) → w < 2 ^ 32 → opcode w ≡ 0b1110011 → funct3 w ≡ 0b000 → IfSome (privileged_line w) (λ i. word_of i ≡ w)
unfolding privileged_line
privileged_word w below op third = search (rules, if_line, r_fields)

pub system_word : (w : ℕ) → w < 2 ^ 32 → opcode w ≡ 0b1110011 → IfSome (system_line w) (λ i. word_of i ≡ w)
unfolding system_line
system_word w below op = search (rules, if_line, csr_fields, privileged_word)

pub instruction_word : (w : ℕ) → w < 2 ^ 32 → IfSome (instruction w) (λ i. word_of i ≡ w)
unfolding instruction
instruction_word w below = search (rules, if_line, u_fields, j_fields, jalr_word, branch_word, load_word, store_word, op_imm_word, op_word, misc_mem_word, system_word) depth 16

-- two words of one instruction are the same
pub one_word : (w v : ℕ) (i : Instr) → w < 2 ^ 32 → v < 2 ^ 32 → instruction v ≡ Some i → instruction w ≡ Some i → w ≡ v
one_word w v i w_below v_below v_is w_is =
    let P : Option Instr → ℕ → Type 0 = λ o x. IfSome o (λ j. word_of j ≡ x) in
    let of_w : word_of i ≡ w = subst (λ (o : Option Instr). P o w) w_is (instruction_word w w_below) in
    let of_v : word_of i ≡ v = subst (λ (o : Option Instr). P o v) v_is (instruction_word v v_below) in
    cc
