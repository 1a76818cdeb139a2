use Rattle.std.specs.Prelude.{ℕ, ◌==◌, ◌&&◌, Option, Some, None, if◌then◌else◌}
use Rattle.rv_isa.specs.Fields.{opcode, rd_of, funct3, rs1_of, rs2_of, funct7, shamt_of, uimm_of, csr_of, rest_of, imm_i, imm_s, imm_b, imm_u, imm_j}
use Rattle.rv_isa.specs.declared.instr.Instr.{Instr}
use Rattle.rv_isa.specs.declared.instr.Instr.TheVariants.{Lui, Auipc, Jal, Jalr, Beq, Bne, Blt, Bge, Bltu, Bgeu, Lb, Lh, Lw, Lbu, Lhu, Sb, Sh, Sw, Addi, Slti, Sltiu, Xori, Ori, Andi, Slli, Srli, Srai, Add, Sub, Sll, Slt, Sltu, Xor, Srl, Sra, Or, And, Mul, Mulh, Mulhsu, Mulhu, Div, Divu, Rem, Remu, Fence, FenceI, Csrrw, Csrrs, Csrrc, Csrrwi, Csrrsi, Csrrci, Ecall, Ebreak, Sret, Wfi, SfenceVma}

-- The instruction table: RISC-V unprivileged manual 20191213 (the sections named below, and the extensions M, Zicsr and
-- Zifencei) and privileged manual 1.12. One line an instruction, grouped by opcode under the manual's names of the
-- opcodes. A word that no line fits is illegal.

-- JALR, opcode 1100111: "Unconditional Jumps"
unfoldable pub jalr_line : ℕ → Option Instr
jalr_line w =
    if funct3 w == 0b000 then Some (Jalr (rd_of w) (rs1_of w) (imm_i w)) else
    None

-- BRANCH, opcode 1100011: "Conditional Branches"
unfoldable pub branch_line : ℕ → Option Instr
branch_line w =
    if funct3 w == 0b000 then Some (Beq (rs1_of w) (rs2_of w) (imm_b w)) else
    if funct3 w == 0b001 then Some (Bne (rs1_of w) (rs2_of w) (imm_b w)) else
    if funct3 w == 0b100 then Some (Blt (rs1_of w) (rs2_of w) (imm_b w)) else
    if funct3 w == 0b101 then Some (Bge (rs1_of w) (rs2_of w) (imm_b w)) else
    if funct3 w == 0b110 then Some (Bltu (rs1_of w) (rs2_of w) (imm_b w)) else
    if funct3 w == 0b111 then Some (Bgeu (rs1_of w) (rs2_of w) (imm_b w)) else
    None

-- LOAD, opcode 0000011: "Load and Store Instructions"
unfoldable pub load_line : ℕ → Option Instr
load_line w =
    if funct3 w == 0b000 then Some (Lb (rd_of w) (rs1_of w) (imm_i w)) else
    if funct3 w == 0b001 then Some (Lh (rd_of w) (rs1_of w) (imm_i w)) else
    if funct3 w == 0b010 then Some (Lw (rd_of w) (rs1_of w) (imm_i w)) else
    if funct3 w == 0b100 then Some (Lbu (rd_of w) (rs1_of w) (imm_i w)) else
    if funct3 w == 0b101 then Some (Lhu (rd_of w) (rs1_of w) (imm_i w)) else
    None

-- STORE, opcode 0100011: "Load and Store Instructions"
unfoldable pub store_line : ℕ → Option Instr
store_line w =
    if funct3 w == 0b000 then Some (Sb (rs1_of w) (rs2_of w) (imm_s w)) else
    if funct3 w == 0b001 then Some (Sh (rs1_of w) (rs2_of w) (imm_s w)) else
    if funct3 w == 0b010 then Some (Sw (rs1_of w) (rs2_of w) (imm_s w)) else
    None

-- OP-IMM, opcode 0010011: "Integer Register-Immediate Instructions"
unfoldable pub op_imm_line : ℕ → Option Instr
op_imm_line w =
    if funct3 w == 0b000 then Some (Addi (rd_of w) (rs1_of w) (imm_i w)) else
    if funct3 w == 0b010 then Some (Slti (rd_of w) (rs1_of w) (imm_i w)) else
    if funct3 w == 0b011 then Some (Sltiu (rd_of w) (rs1_of w) (imm_i w)) else
    if funct3 w == 0b100 then Some (Xori (rd_of w) (rs1_of w) (imm_i w)) else
    if funct3 w == 0b110 then Some (Ori (rd_of w) (rs1_of w) (imm_i w)) else
    if funct3 w == 0b111 then Some (Andi (rd_of w) (rs1_of w) (imm_i w)) else
    if (funct3 w == 0b001) && (funct7 w == 0b0000000) then Some (Slli (rd_of w) (rs1_of w) (shamt_of w)) else
    if (funct3 w == 0b101) && (funct7 w == 0b0000000) then Some (Srli (rd_of w) (rs1_of w) (shamt_of w)) else
    if (funct3 w == 0b101) && (funct7 w == 0b0100000) then Some (Srai (rd_of w) (rs1_of w) (shamt_of w)) else
    None

-- OP, opcode 0110011: "Integer Register-Register Operations", and the extension M with funct7 0000001
unfoldable pub op_line : ℕ → Option Instr
op_line w =
    if (funct3 w == 0b000) && (funct7 w == 0b0000000) then Some (Add (rd_of w) (rs1_of w) (rs2_of w)) else
    if (funct3 w == 0b000) && (funct7 w == 0b0100000) then Some (Sub (rd_of w) (rs1_of w) (rs2_of w)) else
    if (funct3 w == 0b001) && (funct7 w == 0b0000000) then Some (Sll (rd_of w) (rs1_of w) (rs2_of w)) else
    if (funct3 w == 0b010) && (funct7 w == 0b0000000) then Some (Slt (rd_of w) (rs1_of w) (rs2_of w)) else
    if (funct3 w == 0b011) && (funct7 w == 0b0000000) then Some (Sltu (rd_of w) (rs1_of w) (rs2_of w)) else
    if (funct3 w == 0b100) && (funct7 w == 0b0000000) then Some (Xor (rd_of w) (rs1_of w) (rs2_of w)) else
    if (funct3 w == 0b101) && (funct7 w == 0b0000000) then Some (Srl (rd_of w) (rs1_of w) (rs2_of w)) else
    if (funct3 w == 0b101) && (funct7 w == 0b0100000) then Some (Sra (rd_of w) (rs1_of w) (rs2_of w)) else
    if (funct3 w == 0b110) && (funct7 w == 0b0000000) then Some (Or (rd_of w) (rs1_of w) (rs2_of w)) else
    if (funct3 w == 0b111) && (funct7 w == 0b0000000) then Some (And (rd_of w) (rs1_of w) (rs2_of w)) else
    if (funct3 w == 0b000) && (funct7 w == 0b0000001) then Some (Mul (rd_of w) (rs1_of w) (rs2_of w)) else
    if (funct3 w == 0b001) && (funct7 w == 0b0000001) then Some (Mulh (rd_of w) (rs1_of w) (rs2_of w)) else
    if (funct3 w == 0b010) && (funct7 w == 0b0000001) then Some (Mulhsu (rd_of w) (rs1_of w) (rs2_of w)) else
    if (funct3 w == 0b011) && (funct7 w == 0b0000001) then Some (Mulhu (rd_of w) (rs1_of w) (rs2_of w)) else
    if (funct3 w == 0b100) && (funct7 w == 0b0000001) then Some (Div (rd_of w) (rs1_of w) (rs2_of w)) else
    if (funct3 w == 0b101) && (funct7 w == 0b0000001) then Some (Divu (rd_of w) (rs1_of w) (rs2_of w)) else
    if (funct3 w == 0b110) && (funct7 w == 0b0000001) then Some (Rem (rd_of w) (rs1_of w) (rs2_of w)) else
    if (funct3 w == 0b111) && (funct7 w == 0b0000001) then Some (Remu (rd_of w) (rs1_of w) (rs2_of w)) else
    None

-- MISC-MEM, opcode 0001111: "Memory Ordering Instructions", and the extension Zifencei. All other bits are
-- one field, which base implementations ignore
unfoldable pub misc_mem_line : ℕ → Option Instr
misc_mem_line w =
    if funct3 w == 0b000 then Some (Fence (rest_of w)) else
    if funct3 w == 0b001 then Some (FenceI (rest_of w)) else
    None

-- SYSTEM with funct3 000: "Environment Call and Breakpoints", and in the privileged manual "Trap-Return
-- Instructions" (SRET), "Wait for Interrupt" (WFI) and "Supervisor Memory-Management Fence Instruction"
-- (SFENCE.VMA). All but the last are single words.
unfoldable pub privileged_line : ℕ → Option Instr
privileged_line w =
    if w == 0x00000073 then Some Ecall else
    if w == 0x00100073 then Some Ebreak else
    if w == 0x10200073 then Some Sret else
    if w == 0x10500073 then Some Wfi else
    if (funct7 w == 0b0001001) && (rd_of w == 0) then Some (SfenceVma (rs1_of w) (rs2_of w)) else
    None

-- SYSTEM, opcode 1110011: the extension Zicsr
unfoldable pub system_line : ℕ → Option Instr
system_line w =
    if funct3 w == 0b000 then privileged_line w else
    if funct3 w == 0b001 then Some (Csrrw (rd_of w) (rs1_of w) (csr_of w)) else
    if funct3 w == 0b010 then Some (Csrrs (rd_of w) (rs1_of w) (csr_of w)) else
    if funct3 w == 0b011 then Some (Csrrc (rd_of w) (rs1_of w) (csr_of w)) else
    if funct3 w == 0b101 then Some (Csrrwi (rd_of w) (uimm_of w) (csr_of w)) else
    if funct3 w == 0b110 then Some (Csrrsi (rd_of w) (uimm_of w) (csr_of w)) else
    if funct3 w == 0b111 then Some (Csrrci (rd_of w) (uimm_of w) (csr_of w)) else
    None

-- the line of the table for a word, or none: "RV32/64G Instruction Set Listings", restricted to RV32IM, Zicsr,
-- Zifencei and the instructions of supervisor mode
unfoldable pub instruction : ℕ → Option Instr
instruction w =
    if opcode w == 0b0110111 then Some (Lui (rd_of w) (imm_u w)) else
    if opcode w == 0b0010111 then Some (Auipc (rd_of w) (imm_u w)) else
    if opcode w == 0b1101111 then Some (Jal (rd_of w) (imm_j w)) else
    if opcode w == 0b1100111 then jalr_line w else
    if opcode w == 0b1100011 then branch_line w else
    if opcode w == 0b0000011 then load_line w else
    if opcode w == 0b0100011 then store_line w else
    if opcode w == 0b0010011 then op_imm_line w else
    if opcode w == 0b0110011 then op_line w else
    if opcode w == 0b0001111 then misc_mem_line w else
    if opcode w == 0b1110011 then system_line w else
    None
