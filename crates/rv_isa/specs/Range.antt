use Rattle.std.specs.Prelude.{◌≡◌, ℕ, ◌<◌, ◌-◌, ◌/◌, ◌%◌, ◌^◌, ℤ, pos, negsuc}
use Rattle.rv_isa.specs.declared.instr.Instr.{Instr}
use Rattle.rv_isa.specs.declared.instr.Instr.TheVariants.{Lui, Auipc, Jal, Jalr, Beq, Bne, Blt, Bge, Bltu, Bgeu, Lb, Lh, Lw, Lbu, Lhu, Sb, Sh, Sw, Addi, Slti, Sltiu, Xori, Ori, Andi, Slli, Srli, Srai, Add, Sub, Sll, Slt, Sltu, Xor, Srl, Sra, Or, And, Mul, Mulh, Mulhsu, Mulhu, Div, Divu, Rem, Remu, Fence, FenceI, Csrrw, Csrrs, Csrrc, Csrrwi, Csrrsi, Csrrci, Ecall, Ebreak, Sret, Wfi, SfenceVma}

-- a two's complement number of `count` bits: at least - 2 ^ (count - 1), and below 2 ^ (count - 1)
-- (negsuc n is - (n + 1))
abbrev pub FitsSigned : ℕ → ℤ → Type 0
FitsSigned count (pos n) = n < 2 ^ (count - 1)
FitsSigned count (negsuc n) = n < 2 ^ (count - 1)

abbrev pub IsEven : ℤ → Type 0
IsEven (pos n) = n % 2 ≡ 0
IsEven (negsuc n) = n % 2 ≡ 1

-- the fields of an instruction are such that a word can hold them
abbrev pub InRange : Instr → Type 0
InRange (Lui rd imm) = (rd < 32) × (imm < 2 ^ 32) × (imm % 4096 ≡ 0)
InRange (Auipc rd imm) = (rd < 32) × (imm < 2 ^ 32) × (imm % 4096 ≡ 0)
InRange (Jal rd imm) = (rd < 32) × FitsSigned 21 imm × IsEven imm
InRange (Jalr rd rs1 imm) = (rd < 32) × (rs1 < 32) × FitsSigned 12 imm
InRange (Beq rs1 rs2 imm) = (rs1 < 32) × (rs2 < 32) × FitsSigned 13 imm × IsEven imm
InRange (Bne rs1 rs2 imm) = (rs1 < 32) × (rs2 < 32) × FitsSigned 13 imm × IsEven imm
InRange (Blt rs1 rs2 imm) = (rs1 < 32) × (rs2 < 32) × FitsSigned 13 imm × IsEven imm
InRange (Bge rs1 rs2 imm) = (rs1 < 32) × (rs2 < 32) × FitsSigned 13 imm × IsEven imm
InRange (Bltu rs1 rs2 imm) = (rs1 < 32) × (rs2 < 32) × FitsSigned 13 imm × IsEven imm
InRange (Bgeu rs1 rs2 imm) = (rs1 < 32) × (rs2 < 32) × FitsSigned 13 imm × IsEven imm
InRange (Lb rd rs1 imm) = (rd < 32) × (rs1 < 32) × FitsSigned 12 imm
InRange (Lh rd rs1 imm) = (rd < 32) × (rs1 < 32) × FitsSigned 12 imm
InRange (Lw rd rs1 imm) = (rd < 32) × (rs1 < 32) × FitsSigned 12 imm
InRange (Lbu rd rs1 imm) = (rd < 32) × (rs1 < 32) × FitsSigned 12 imm
InRange (Lhu rd rs1 imm) = (rd < 32) × (rs1 < 32) × FitsSigned 12 imm
InRange (Sb rs1 rs2 imm) = (rs1 < 32) × (rs2 < 32) × FitsSigned 12 imm
InRange (Sh rs1 rs2 imm) = (rs1 < 32) × (rs2 < 32) × FitsSigned 12 imm
InRange (Sw rs1 rs2 imm) = (rs1 < 32) × (rs2 < 32) × FitsSigned 12 imm
InRange (Addi rd rs1 imm) = (rd < 32) × (rs1 < 32) × FitsSigned 12 imm
InRange (Slti rd rs1 imm) = (rd < 32) × (rs1 < 32) × FitsSigned 12 imm
InRange (Sltiu rd rs1 imm) = (rd < 32) × (rs1 < 32) × FitsSigned 12 imm
InRange (Xori rd rs1 imm) = (rd < 32) × (rs1 < 32) × FitsSigned 12 imm
InRange (Ori rd rs1 imm) = (rd < 32) × (rs1 < 32) × FitsSigned 12 imm
InRange (Andi rd rs1 imm) = (rd < 32) × (rs1 < 32) × FitsSigned 12 imm
InRange (Slli rd rs1 shamt) = (rd < 32) × (rs1 < 32) × (shamt < 32)
InRange (Srli rd rs1 shamt) = (rd < 32) × (rs1 < 32) × (shamt < 32)
InRange (Srai rd rs1 shamt) = (rd < 32) × (rs1 < 32) × (shamt < 32)
InRange (Add rd rs1 rs2) = (rd < 32) × (rs1 < 32) × (rs2 < 32)
InRange (Sub rd rs1 rs2) = (rd < 32) × (rs1 < 32) × (rs2 < 32)
InRange (Sll rd rs1 rs2) = (rd < 32) × (rs1 < 32) × (rs2 < 32)
InRange (Slt rd rs1 rs2) = (rd < 32) × (rs1 < 32) × (rs2 < 32)
InRange (Sltu rd rs1 rs2) = (rd < 32) × (rs1 < 32) × (rs2 < 32)
InRange (Xor rd rs1 rs2) = (rd < 32) × (rs1 < 32) × (rs2 < 32)
InRange (Srl rd rs1 rs2) = (rd < 32) × (rs1 < 32) × (rs2 < 32)
InRange (Sra rd rs1 rs2) = (rd < 32) × (rs1 < 32) × (rs2 < 32)
InRange (Or rd rs1 rs2) = (rd < 32) × (rs1 < 32) × (rs2 < 32)
InRange (And rd rs1 rs2) = (rd < 32) × (rs1 < 32) × (rs2 < 32)
InRange (Mul rd rs1 rs2) = (rd < 32) × (rs1 < 32) × (rs2 < 32)
InRange (Mulh rd rs1 rs2) = (rd < 32) × (rs1 < 32) × (rs2 < 32)
InRange (Mulhsu rd rs1 rs2) = (rd < 32) × (rs1 < 32) × (rs2 < 32)
InRange (Mulhu rd rs1 rs2) = (rd < 32) × (rs1 < 32) × (rs2 < 32)
InRange (Div rd rs1 rs2) = (rd < 32) × (rs1 < 32) × (rs2 < 32)
InRange (Divu rd rs1 rs2) = (rd < 32) × (rs1 < 32) × (rs2 < 32)
InRange (Rem rd rs1 rs2) = (rd < 32) × (rs1 < 32) × (rs2 < 32)
InRange (Remu rd rs1 rs2) = (rd < 32) × (rs1 < 32) × (rs2 < 32)
InRange (Fence rest) = (rest < 2 ^ 32) × (rest % 2 ^ 7 ≡ 0) × (rest / 2 ^ 12 % 2 ^ 3 ≡ 0)
InRange (FenceI rest) = (rest < 2 ^ 32) × (rest % 2 ^ 7 ≡ 0) × (rest / 2 ^ 12 % 2 ^ 3 ≡ 0)
InRange (Csrrw rd rs1 csr) = (rd < 32) × (rs1 < 32) × (csr < 4096)
InRange (Csrrs rd rs1 csr) = (rd < 32) × (rs1 < 32) × (csr < 4096)
InRange (Csrrc rd rs1 csr) = (rd < 32) × (rs1 < 32) × (csr < 4096)
InRange (Csrrwi rd uimm csr) = (rd < 32) × (uimm < 32) × (csr < 4096)
InRange (Csrrsi rd uimm csr) = (rd < 32) × (uimm < 32) × (csr < 4096)
InRange (Csrrci rd uimm csr) = (rd < 32) × (uimm < 32) × (csr < 4096)
InRange Ecall = Unit {0}
InRange Ebreak = Unit {0}
InRange Sret = Unit {0}
InRange Wfi = Unit {0}
InRange (SfenceVma rs1 rs2) = (rs1 < 32) × (rs2 < 32)
