use Rattle.std.specs.Prelude.{ℕ, suc, ◌+◌, ◌-◌, ◌*◌, ◌/◌, ◌%◌, ◌^◌, nat_lt, ℤ, pos, negsuc, if◌then◌else◌}

-- The fields of a word and its immediates: RISC-V unprivileged manual 20191213, 2.2, "Base Instruction Formats" and
-- "Immediate Encoding Variants".

-- inst[high:low]
abbrev pub bits : ℕ → ℕ → ℕ → ℕ
bits w high low = w / 2 ^ low % 2 ^ (high + 1 - low)

abbrev pub opcode : ℕ → ℕ
opcode w = bits w 6 0

abbrev pub rd_of : ℕ → ℕ
rd_of w = bits w 11 7

abbrev pub funct3 : ℕ → ℕ
funct3 w = bits w 14 12

abbrev pub rs1_of : ℕ → ℕ
rs1_of w = bits w 19 15

abbrev pub rs2_of : ℕ → ℕ
rs2_of w = bits w 24 20

abbrev pub funct7 : ℕ → ℕ
funct7 w = bits w 31 25

-- the shift amount of SLLI, SRLI and SRAI
abbrev pub shamt_of : ℕ → ℕ
shamt_of w = bits w 24 20

-- the unsigned immediate of a CSR instruction
abbrev pub uimm_of : ℕ → ℕ
uimm_of w = bits w 19 15

-- the number of a control and status register
abbrev pub csr_of : ℕ → ℕ
csr_of w = bits w 31 20

-- all bits but opcode and funct3, in their places
abbrev pub rest_of : ℕ → ℕ
rest_of w = bits w 31 15 * 2 ^ 15 + bits w 11 7 * 2 ^ 7

-- a number of `count` bits as a signed number: from 2 ^ (count - 1) on it stands for itself less 2 ^ count
abbrev pub sign_extended : ℕ → ℕ → ℤ
sign_extended count n = if nat_lt n (2 ^ (count - 1)) then pos n else negsuc (2 ^ count - suc n)

abbrev pub imm_i : ℕ → ℤ
imm_i w = sign_extended 12 (bits w 31 20)

abbrev pub imm_s : ℕ → ℤ
imm_s w = sign_extended 12 (bits w 31 25 * 2 ^ 5 + bits w 11 7)

abbrev pub imm_b : ℕ → ℤ
imm_b w = sign_extended 13 (bits w 31 31 * 2 ^ 12 + bits w 7 7 * 2 ^ 11 + bits w 30 25 * 2 ^ 5 + bits w 11 8 * 2 ^ 1)

abbrev pub imm_u : ℕ → ℕ
imm_u w = bits w 31 12 * 2 ^ 12

abbrev pub imm_j : ℕ → ℤ
imm_j w = sign_extended 21 (bits w 31 31 * 2 ^ 20 + bits w 19 12 * 2 ^ 12 + bits w 20 20 * 2 ^ 11 + bits w 30 21 * 2 ^ 1)
