-- Operands as text: this project's rule. Registers and immediates are decimal; upper immediates, the numbers of control
-- and status registers and addresses are hexadecimal, with all digits of their field.
use Rattle.std.specs.Prelude.{ℕ, ◌-◌, ◌/◌, ℤ, List, ◌++◌, codes, decimal, drop}
use Rattle.std.specs.Fmt.{signed_decimal}
use Rattle.cloak_model.specs.Effect.{offset}
use Rattle.cloak_model.specs.Report.{hexadecimal}

-- x0 to x31
abbrev pub register : ℕ → List ℕ
register number = codes "x" ++ decimal number

-- the last digits of a word
abbrev pub last_digits : ℕ → ℕ → List ℕ
last_digits count w = drop (8 - count) (hexadecimal w)

-- the upper 20 bits
abbrev pub upper : ℕ → List ℕ
upper imm = codes "0x" ++ last_digits 5 (imm / 4096)

-- the number of a control and status register, which has 12 bits
abbrev pub csr_number : ℕ → List ℕ
csr_number csr = codes "0x" ++ last_digits 3 csr

-- an offset and a register, as 4(x2)
abbrev pub memory : ℤ → ℕ → List ℕ
memory imm rs1 = signed_decimal imm ++ (codes "(" ++ (register rs1 ++ codes ")"))

-- a register alone as an address, as (x5)
abbrev pub base : ℕ → List ℕ
base rs1 = codes "(" ++ (register rs1 ++ codes ")")

-- the label of an address
abbrev pub label : ℕ → List ℕ
label at = codes "L" ++ hexadecimal at

-- the label of where a branch or a jump at an address leads
abbrev pub target : ℕ → ℤ → List ℕ
target at imm = label (offset at imm)
