-- The text of an instruction word at an address, as the assembler takes it (`rv_asm`): this project's rule. One line an
-- instruction, in the order of the tables (`rv_isa`, `rv_atomic`). A branch or a jump is written with the label of the
-- address that it leads to.
use Rattle.std.specs.Prelude.{ℕ, ◌==◌, Bool, true, List, ◌++◌, codes, decimal, Option, Some, None, if◌then◌else◌}
use Rattle.std.specs.Fmt.{signed_decimal}
use Rattle.rv_isa.specs.Table.{instruction}
use Rattle.rv_isa.specs.declared.instr.Instr.{Instr}
use Rattle.rv_isa.specs.declared.instr.Instr.TheVariants as instr
use Rattle.rv_atomic.specs.Table.{atomic_instruction}
use Rattle.rv_atomic.specs.declared.atomic.Atomic.{Atomic}
use Rattle.rv_atomic.specs.declared.atomic.AtomicOp.{AtomicOp}
use Rattle.rv_atomic.specs.declared.atomic.AtomicOp.TheVariants as amo
use Rattle.cloak_model.specs.Report.{hexadecimal}
use Rattle.word_text.specs.Operands.{register, upper, csr_number, memory, base, target}

-- a name with two operands, and with three
abbrev pub two : (name a b : List ℕ) → List ℕ
two name a b = name ++ (codes " " ++ (a ++ (codes ", " ++ b)))

abbrev pub three : (name a b c : List ℕ) → List ℕ
three name a b c = name ++ (codes " " ++ (a ++ (codes ", " ++ (b ++ (codes ", " ++ c)))))

-- the instruction at an address. A store names the register that is stored first.
abbrev pub instruction_text : ℕ → Instr → List ℕ
instruction_text at (instr.Lui rd imm) = two (codes "lui") (register rd) (upper imm)
instruction_text at (instr.Auipc rd imm) = two (codes "auipc") (register rd) (upper imm)
instruction_text at (instr.Jal rd imm) = two (codes "jal") (register rd) (target at imm)
instruction_text at (instr.Jalr rd rs1 imm) = two (codes "jalr") (register rd) (memory imm rs1)
instruction_text at (instr.Beq rs1 rs2 imm) = three (codes "beq") (register rs1) (register rs2) (target at imm)
instruction_text at (instr.Bne rs1 rs2 imm) = three (codes "bne") (register rs1) (register rs2) (target at imm)
instruction_text at (instr.Blt rs1 rs2 imm) = three (codes "blt") (register rs1) (register rs2) (target at imm)
instruction_text at (instr.Bge rs1 rs2 imm) = three (codes "bge") (register rs1) (register rs2) (target at imm)
instruction_text at (instr.Bltu rs1 rs2 imm) = three (codes "bltu") (register rs1) (register rs2) (target at imm)
instruction_text at (instr.Bgeu rs1 rs2 imm) = three (codes "bgeu") (register rs1) (register rs2) (target at imm)
instruction_text at (instr.Lb rd rs1 imm) = two (codes "lb") (register rd) (memory imm rs1)
instruction_text at (instr.Lh rd rs1 imm) = two (codes "lh") (register rd) (memory imm rs1)
instruction_text at (instr.Lw rd rs1 imm) = two (codes "lw") (register rd) (memory imm rs1)
instruction_text at (instr.Lbu rd rs1 imm) = two (codes "lbu") (register rd) (memory imm rs1)
instruction_text at (instr.Lhu rd rs1 imm) = two (codes "lhu") (register rd) (memory imm rs1)
instruction_text at (instr.Sb rs1 rs2 imm) = two (codes "sb") (register rs2) (memory imm rs1)
instruction_text at (instr.Sh rs1 rs2 imm) = two (codes "sh") (register rs2) (memory imm rs1)
instruction_text at (instr.Sw rs1 rs2 imm) = two (codes "sw") (register rs2) (memory imm rs1)
instruction_text at (instr.Addi rd rs1 imm) = three (codes "addi") (register rd) (register rs1) (signed_decimal imm)
instruction_text at (instr.Slti rd rs1 imm) = three (codes "slti") (register rd) (register rs1) (signed_decimal imm)
instruction_text at (instr.Sltiu rd rs1 imm) = three (codes "sltiu") (register rd) (register rs1) (signed_decimal imm)
instruction_text at (instr.Xori rd rs1 imm) = three (codes "xori") (register rd) (register rs1) (signed_decimal imm)
instruction_text at (instr.Ori rd rs1 imm) = three (codes "ori") (register rd) (register rs1) (signed_decimal imm)
instruction_text at (instr.Andi rd rs1 imm) = three (codes "andi") (register rd) (register rs1) (signed_decimal imm)
instruction_text at (instr.Slli rd rs1 shamt) = three (codes "slli") (register rd) (register rs1) (decimal shamt)
instruction_text at (instr.Srli rd rs1 shamt) = three (codes "srli") (register rd) (register rs1) (decimal shamt)
instruction_text at (instr.Srai rd rs1 shamt) = three (codes "srai") (register rd) (register rs1) (decimal shamt)
instruction_text at (instr.Add rd rs1 rs2) = three (codes "add") (register rd) (register rs1) (register rs2)
instruction_text at (instr.Sub rd rs1 rs2) = three (codes "sub") (register rd) (register rs1) (register rs2)
instruction_text at (instr.Sll rd rs1 rs2) = three (codes "sll") (register rd) (register rs1) (register rs2)
instruction_text at (instr.Slt rd rs1 rs2) = three (codes "slt") (register rd) (register rs1) (register rs2)
instruction_text at (instr.Sltu rd rs1 rs2) = three (codes "sltu") (register rd) (register rs1) (register rs2)
instruction_text at (instr.Xor rd rs1 rs2) = three (codes "xor") (register rd) (register rs1) (register rs2)
instruction_text at (instr.Srl rd rs1 rs2) = three (codes "srl") (register rd) (register rs1) (register rs2)
instruction_text at (instr.Sra rd rs1 rs2) = three (codes "sra") (register rd) (register rs1) (register rs2)
instruction_text at (instr.Or rd rs1 rs2) = three (codes "or") (register rd) (register rs1) (register rs2)
instruction_text at (instr.And rd rs1 rs2) = three (codes "and") (register rd) (register rs1) (register rs2)
instruction_text at (instr.Mul rd rs1 rs2) = three (codes "mul") (register rd) (register rs1) (register rs2)
instruction_text at (instr.Mulh rd rs1 rs2) = three (codes "mulh") (register rd) (register rs1) (register rs2)
instruction_text at (instr.Mulhsu rd rs1 rs2) = three (codes "mulhsu") (register rd) (register rs1) (register rs2)
instruction_text at (instr.Mulhu rd rs1 rs2) = three (codes "mulhu") (register rd) (register rs1) (register rs2)
instruction_text at (instr.Div rd rs1 rs2) = three (codes "div") (register rd) (register rs1) (register rs2)
instruction_text at (instr.Divu rd rs1 rs2) = three (codes "divu") (register rd) (register rs1) (register rs2)
instruction_text at (instr.Rem rd rs1 rs2) = three (codes "rem") (register rd) (register rs1) (register rs2)
instruction_text at (instr.Remu rd rs1 rs2) = three (codes "remu") (register rd) (register rs1) (register rs2)
instruction_text at (instr.Fence rest) = codes "fence"
instruction_text at (instr.FenceI rest) = codes "fence.i"
instruction_text at (instr.Csrrw rd rs1 csr) = three (codes "csrrw") (register rd) (csr_number csr) (register rs1)
instruction_text at (instr.Csrrs rd rs1 csr) = three (codes "csrrs") (register rd) (csr_number csr) (register rs1)
instruction_text at (instr.Csrrc rd rs1 csr) = three (codes "csrrc") (register rd) (csr_number csr) (register rs1)
instruction_text at (instr.Csrrwi rd uimm csr) = three (codes "csrrwi") (register rd) (csr_number csr) (decimal uimm)
instruction_text at (instr.Csrrsi rd uimm csr) = three (codes "csrrsi") (register rd) (csr_number csr) (decimal uimm)
instruction_text at (instr.Csrrci rd uimm csr) = three (codes "csrrci") (register rd) (csr_number csr) (decimal uimm)
instruction_text at instr.Ecall = codes "ecall"
instruction_text at instr.Ebreak = codes "ebreak"
instruction_text at instr.Sret = codes "sret"
instruction_text at instr.Wfi = codes "wfi"
instruction_text at (instr.SfenceVma rs1 rs2) = two (codes "sfence.vma") (register rs1) (register rs2)

-- FENCE and FENCE.I have a form only without their further bits
abbrev pub has_form : Instr → Bool
has_form (instr.Fence rest) = rest == 0
has_form (instr.FenceI rest) = rest == 0
has_form i = true

-- ---- atomic instructions

abbrev pub atomic_name : AtomicOp → List ℕ
atomic_name amo.Lr = codes "lr"
atomic_name amo.Sc = codes "sc"
atomic_name amo.Swap = codes "amoswap"
atomic_name amo.Add = codes "amoadd"
atomic_name amo.Xor = codes "amoxor"
atomic_name amo.And = codes "amoand"
atomic_name amo.Or = codes "amoor"
atomic_name amo.Min = codes "amomin"
atomic_name amo.Max = codes "amomax"
atomic_name amo.Minu = codes "amominu"
atomic_name amo.Maxu = codes "amomaxu"

-- the width of a word, and the bits aq and rl
abbrev pub atomic_suffix : ℕ → List ℕ
atomic_suffix order =
    if order == 0b00 then codes ".w" else
    if order == 0b01 then codes ".w.rl" else
    if order == 0b10 then codes ".w.aq" else
    codes ".w.aqrl"

abbrev pub mnemonic : AtomicOp → ℕ → List ℕ
mnemonic op order = atomic_name op ++ atomic_suffix order

-- LR has no operand but the address
abbrev pub reserve_text : (order rd rs1 : ℕ) → List ℕ
reserve_text order rd rs1 = two (mnemonic amo.Lr order) (register rd) (base rs1)

abbrev pub combine_text : AtomicOp → (order rd rs1 rs2 : ℕ) → List ℕ
combine_text op order rd rs1 rs2 = three (mnemonic op order) (register rd) (register rs2) (base rs1)

abbrev pub operation_text : AtomicOp → (order rd rs1 rs2 : ℕ) → List ℕ
operation_text amo.Lr order rd rs1 rs2 = reserve_text order rd rs1
operation_text op order rd rs1 rs2 = combine_text op order rd rs1 rs2

abbrev pub atomic_text : Atomic → List ℕ
atomic_text a = operation_text a.op a.order a.rd a.rs1 a.rs2

-- ---- words

-- a word by its number
abbrev pub number_text : ℕ → List ℕ
number_text w = codes ".word 0x" ++ hexadecimal w

-- a word of these lines of the tables
abbrev pub text_with : (w at : ℕ) → Option Instr → Option Atomic → List ℕ
text_with w at (Some i) a = if has_form i then instruction_text at i else number_text w
text_with w at None (Some a) = atomic_text a
text_with w at None None = number_text w

-- a word at an address
unfoldable pub word_text : (w at : ℕ) → List ℕ
word_text w at = text_with w at (instruction w) (atomic_instruction w)
