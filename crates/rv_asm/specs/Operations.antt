-- The mnemonics: the lower-case names of the instruction table (`rv_isa`) and of atomic instructions (`rv_atomic`), by the
-- operands that they take, and the further forms `j`, `li`, `la` and `.word`.
use Rattle.std.specs.Prelude.{ℕ, ◌<◌, ℤ, List, Option, Some, None, codes, if◌then◌else◌}
use Rattle.std.specs.Option.{option_map}
use Rattle.std.specs.Str.{bytes_eq}
use Rattle.rv_isa.specs.Range.{InRange}
use Rattle.rv_isa.specs.declared.instr.Instr.{Instr}
use Rattle.rv_isa.specs.declared.instr.Instr.TheVariants as instr
use Rattle.rv_atomic.specs.declared.atomic.AtomicOp.{AtomicOp}
use Rattle.rv_atomic.specs.declared.atomic.AtomicOp.TheVariants as amo
use Rattle.rv_asm.specs.declared.operation.RegisterOp.{RegisterOp}
use Rattle.rv_asm.specs.declared.operation.RegisterOp.TheVariants.{Add, Sub, Sll, Slt, Sltu, Xor, Srl, Sra, Or, And, Mul, Mulh, Mulhsu, Mulhu, Div, Divu, Rem, Remu}
use Rattle.rv_asm.specs.declared.operation.ImmediateOp.{ImmediateOp}
use Rattle.rv_asm.specs.declared.operation.ImmediateOp.TheVariants.{Addi, Slti, Sltiu, Xori, Ori, Andi}
use Rattle.rv_asm.specs.declared.operation.ShiftOp.{ShiftOp}
use Rattle.rv_asm.specs.declared.operation.ShiftOp.TheVariants.{Slli, Srli, Srai}
use Rattle.rv_asm.specs.declared.operation.UpperOp.{UpperOp}
use Rattle.rv_asm.specs.declared.operation.UpperOp.TheVariants.{Lui, Auipc}
use Rattle.rv_asm.specs.declared.operation.LoadOp.{LoadOp}
use Rattle.rv_asm.specs.declared.operation.LoadOp.TheVariants.{Lb, Lh, Lw, Lbu, Lhu, Jalr}
use Rattle.rv_asm.specs.declared.operation.StoreOp.{StoreOp}
use Rattle.rv_asm.specs.declared.operation.StoreOp.TheVariants.{Sb, Sh, Sw}
use Rattle.rv_asm.specs.declared.operation.BranchOp.{BranchOp}
use Rattle.rv_asm.specs.declared.operation.BranchOp.TheVariants.{Beq, Bne, Blt, Bge, Bltu, Bgeu}
use Rattle.rv_asm.specs.declared.operation.CsrOp.{CsrOp}
use Rattle.rv_asm.specs.declared.operation.CsrOp.TheVariants.{Csrrw, Csrrs, Csrrc}
use Rattle.rv_asm.specs.declared.operation.CsrImmediateOp.{CsrImmediateOp}
use Rattle.rv_asm.specs.declared.operation.CsrImmediateOp.TheVariants.{Csrrwi, Csrrsi, Csrrci}
use Rattle.rv_asm.specs.declared.operation.Operation.{Operation}
use Rattle.rv_asm.specs.declared.operation.Operation.TheVariants.{Register, Immediate, Shift, Upper, Load, Store, Branch, Csr, CsrImmediate, Atomic, Bare, Fence, Jal, J, Li, La, Word}
use Rattle.rv_asm.specs.Words.{◌>>=◌, cut}

-- three registers
unfoldable pub register_op : List ℕ → Option RegisterOp
register_op word =
    if bytes_eq word (codes "add") then Some Add else
    if bytes_eq word (codes "sub") then Some Sub else
    if bytes_eq word (codes "sll") then Some Sll else
    if bytes_eq word (codes "slt") then Some Slt else
    if bytes_eq word (codes "sltu") then Some Sltu else
    if bytes_eq word (codes "xor") then Some Xor else
    if bytes_eq word (codes "srl") then Some Srl else
    if bytes_eq word (codes "sra") then Some Sra else
    if bytes_eq word (codes "or") then Some Or else
    if bytes_eq word (codes "and") then Some And else
    if bytes_eq word (codes "mul") then Some Mul else
    if bytes_eq word (codes "mulh") then Some Mulh else
    if bytes_eq word (codes "mulhsu") then Some Mulhsu else
    if bytes_eq word (codes "mulhu") then Some Mulhu else
    if bytes_eq word (codes "div") then Some Div else
    if bytes_eq word (codes "divu") then Some Divu else
    if bytes_eq word (codes "rem") then Some Rem else
    if bytes_eq word (codes "remu") then Some Remu else
    None

-- a register, a register and an immediate
unfoldable pub immediate_op : List ℕ → Option ImmediateOp
immediate_op word =
    if bytes_eq word (codes "addi") then Some Addi else
    if bytes_eq word (codes "slti") then Some Slti else
    if bytes_eq word (codes "sltiu") then Some Sltiu else
    if bytes_eq word (codes "xori") then Some Xori else
    if bytes_eq word (codes "ori") then Some Ori else
    if bytes_eq word (codes "andi") then Some Andi else
    None

-- a register, a register and a shift amount
unfoldable pub shift_op : List ℕ → Option ShiftOp
shift_op word =
    if bytes_eq word (codes "slli") then Some Slli else
    if bytes_eq word (codes "srli") then Some Srli else
    if bytes_eq word (codes "srai") then Some Srai else
    None

-- a register and an upper immediate
unfoldable pub upper_op : List ℕ → Option UpperOp
upper_op word =
    if bytes_eq word (codes "lui") then Some Lui else
    if bytes_eq word (codes "auipc") then Some Auipc else
    None

-- a register, and a register with an offset; JALR is written so too
unfoldable pub load_op : List ℕ → Option LoadOp
load_op word =
    if bytes_eq word (codes "lb") then Some Lb else
    if bytes_eq word (codes "lh") then Some Lh else
    if bytes_eq word (codes "lw") then Some Lw else
    if bytes_eq word (codes "lbu") then Some Lbu else
    if bytes_eq word (codes "lhu") then Some Lhu else
    if bytes_eq word (codes "jalr") then Some Jalr else
    None

-- the register that is stored, and a register with an offset
unfoldable pub store_op : List ℕ → Option StoreOp
store_op word =
    if bytes_eq word (codes "sb") then Some Sb else
    if bytes_eq word (codes "sh") then Some Sh else
    if bytes_eq word (codes "sw") then Some Sw else
    None

-- two registers and a label
unfoldable pub branch_op : List ℕ → Option BranchOp
branch_op word =
    if bytes_eq word (codes "beq") then Some Beq else
    if bytes_eq word (codes "bne") then Some Bne else
    if bytes_eq word (codes "blt") then Some Blt else
    if bytes_eq word (codes "bge") then Some Bge else
    if bytes_eq word (codes "bltu") then Some Bltu else
    if bytes_eq word (codes "bgeu") then Some Bgeu else
    None

-- a register, the number of a control and status register, and a register
unfoldable pub csr_op : List ℕ → Option CsrOp
csr_op word =
    if bytes_eq word (codes "csrrw") then Some Csrrw else
    if bytes_eq word (codes "csrrs") then Some Csrrs else
    if bytes_eq word (codes "csrrc") then Some Csrrc else
    None

-- a register, the number of a control and status register, and an immediate
unfoldable pub csr_immediate_op : List ℕ → Option CsrImmediateOp
csr_immediate_op word =
    if bytes_eq word (codes "csrrwi") then Some Csrrwi else
    if bytes_eq word (codes "csrrsi") then Some Csrrsi else
    if bytes_eq word (codes "csrrci") then Some Csrrci else
    None

-- an atomic instruction, by what stands before the first point
unfoldable pub atomic_name : List ℕ → Option AtomicOp
atomic_name word =
    if bytes_eq word (codes "lr") then Some amo.Lr else
    if bytes_eq word (codes "sc") then Some amo.Sc else
    if bytes_eq word (codes "amoswap") then Some amo.Swap else
    if bytes_eq word (codes "amoadd") then Some amo.Add else
    if bytes_eq word (codes "amoxor") then Some amo.Xor else
    if bytes_eq word (codes "amoand") then Some amo.And else
    if bytes_eq word (codes "amoor") then Some amo.Or else
    if bytes_eq word (codes "amomin") then Some amo.Min else
    if bytes_eq word (codes "amomax") then Some amo.Max else
    if bytes_eq word (codes "amominu") then Some amo.Minu else
    if bytes_eq word (codes "amomaxu") then Some amo.Maxu else
    None

-- the bits aq and rl, by what stands after its first point
unfoldable pub atomic_order : List ℕ → Option ℕ
atomic_order word =
    if bytes_eq word (codes "w") then Some 0b00 else
    if bytes_eq word (codes "w.rl") then Some 0b01 else
    if bytes_eq word (codes "w.aq") then Some 0b10 else
    if bytes_eq word (codes "w.aqrl") then Some 0b11 else
    None

unfoldable pub atomic : List ℕ → Option Operation
atomic word = do
  parts ← cut 46 word
  op ← atomic_name parts.0
  order ← atomic_order parts.1
  Some (Atomic op order)

-- no operand; the hint bits of FENCE and FENCE.I are 0
unfoldable pub bare : List ℕ → Option Instr
bare word =
    if bytes_eq word (codes "ecall") then Some instr.Ecall else
    if bytes_eq word (codes "ebreak") then Some instr.Ebreak else
    if bytes_eq word (codes "sret") then Some instr.Sret else
    if bytes_eq word (codes "wfi") then Some instr.Wfi else
    if bytes_eq word (codes "fence") then Some (instr.Fence 0) else
    if bytes_eq word (codes "fence.i") then Some (instr.FenceI 0) else
    None

unfoldable pub single : List ℕ → Option Operation
single word =
    if bytes_eq word (codes "sfence.vma") then Some Fence else
    if bytes_eq word (codes "jal") then Some Jal else
    if bytes_eq word (codes "j") then Some J else
    if bytes_eq word (codes "li") then Some Li else
    if bytes_eq word (codes "la") then Some La else
    if bytes_eq word (codes ".word") then Some Word else
    None

-- the first of two, if there is one
abbrev pub or_else : {A : Type 0} → Option A → Option A → Option A
or_else (Some x) other = Some x
or_else None other = other

-- what a word asks for, if it is a mnemonic or a further form
unfoldable pub operation : List ℕ → Option Operation
operation word =
    or_else (option_map Register (register_op word)) (
    or_else (option_map Immediate (immediate_op word)) (
    or_else (option_map Shift (shift_op word)) (
    or_else (option_map Upper (upper_op word)) (
    or_else (option_map Load (load_op word)) (
    or_else (option_map Store (store_op word)) (
    or_else (option_map Branch (branch_op word)) (
    or_else (option_map Csr (csr_op word)) (
    or_else (option_map CsrImmediate (csr_immediate_op word)) (
    or_else (option_map Bare (bare word)) (
    or_else (atomic word) (
    single word)))))))))))

-- ---- the instruction of an operation and its fields

abbrev pub register_instruction : RegisterOp → ℕ → ℕ → ℕ → Instr
register_instruction Add rd rs1 rs2 = instr.Add rd rs1 rs2
register_instruction Sub rd rs1 rs2 = instr.Sub rd rs1 rs2
register_instruction Sll rd rs1 rs2 = instr.Sll rd rs1 rs2
register_instruction Slt rd rs1 rs2 = instr.Slt rd rs1 rs2
register_instruction Sltu rd rs1 rs2 = instr.Sltu rd rs1 rs2
register_instruction Xor rd rs1 rs2 = instr.Xor rd rs1 rs2
register_instruction Srl rd rs1 rs2 = instr.Srl rd rs1 rs2
register_instruction Sra rd rs1 rs2 = instr.Sra rd rs1 rs2
register_instruction Or rd rs1 rs2 = instr.Or rd rs1 rs2
register_instruction And rd rs1 rs2 = instr.And rd rs1 rs2
register_instruction Mul rd rs1 rs2 = instr.Mul rd rs1 rs2
register_instruction Mulh rd rs1 rs2 = instr.Mulh rd rs1 rs2
register_instruction Mulhsu rd rs1 rs2 = instr.Mulhsu rd rs1 rs2
register_instruction Mulhu rd rs1 rs2 = instr.Mulhu rd rs1 rs2
register_instruction Div rd rs1 rs2 = instr.Div rd rs1 rs2
register_instruction Divu rd rs1 rs2 = instr.Divu rd rs1 rs2
register_instruction Rem rd rs1 rs2 = instr.Rem rd rs1 rs2
register_instruction Remu rd rs1 rs2 = instr.Remu rd rs1 rs2

abbrev pub immediate_instruction : ImmediateOp → ℕ → ℕ → ℤ → Instr
immediate_instruction Addi rd rs1 imm = instr.Addi rd rs1 imm
immediate_instruction Slti rd rs1 imm = instr.Slti rd rs1 imm
immediate_instruction Sltiu rd rs1 imm = instr.Sltiu rd rs1 imm
immediate_instruction Xori rd rs1 imm = instr.Xori rd rs1 imm
immediate_instruction Ori rd rs1 imm = instr.Ori rd rs1 imm
immediate_instruction Andi rd rs1 imm = instr.Andi rd rs1 imm

abbrev pub shift_instruction : ShiftOp → ℕ → ℕ → ℕ → Instr
shift_instruction Slli rd rs1 shamt = instr.Slli rd rs1 shamt
shift_instruction Srli rd rs1 shamt = instr.Srli rd rs1 shamt
shift_instruction Srai rd rs1 shamt = instr.Srai rd rs1 shamt

abbrev pub upper_instruction : UpperOp → ℕ → ℕ → Instr
upper_instruction Lui rd imm = instr.Lui rd imm
upper_instruction Auipc rd imm = instr.Auipc rd imm

abbrev pub load_instruction : LoadOp → ℕ → ℕ → ℤ → Instr
load_instruction Lb rd rs1 imm = instr.Lb rd rs1 imm
load_instruction Lh rd rs1 imm = instr.Lh rd rs1 imm
load_instruction Lw rd rs1 imm = instr.Lw rd rs1 imm
load_instruction Lbu rd rs1 imm = instr.Lbu rd rs1 imm
load_instruction Lhu rd rs1 imm = instr.Lhu rd rs1 imm
load_instruction Jalr rd rs1 imm = instr.Jalr rd rs1 imm

abbrev pub store_instruction : StoreOp → ℕ → ℕ → ℤ → Instr
store_instruction Sb rs1 rs2 imm = instr.Sb rs1 rs2 imm
store_instruction Sh rs1 rs2 imm = instr.Sh rs1 rs2 imm
store_instruction Sw rs1 rs2 imm = instr.Sw rs1 rs2 imm

abbrev pub branch_instruction : BranchOp → ℕ → ℕ → ℤ → Instr
branch_instruction Beq rs1 rs2 imm = instr.Beq rs1 rs2 imm
branch_instruction Bne rs1 rs2 imm = instr.Bne rs1 rs2 imm
branch_instruction Blt rs1 rs2 imm = instr.Blt rs1 rs2 imm
branch_instruction Bge rs1 rs2 imm = instr.Bge rs1 rs2 imm
branch_instruction Bltu rs1 rs2 imm = instr.Bltu rs1 rs2 imm
branch_instruction Bgeu rs1 rs2 imm = instr.Bgeu rs1 rs2 imm

abbrev pub csr_instruction : CsrOp → ℕ → ℕ → ℕ → Instr
csr_instruction Csrrw rd rs1 csr = instr.Csrrw rd rs1 csr
csr_instruction Csrrs rd rs1 csr = instr.Csrrs rd rs1 csr
csr_instruction Csrrc rd rs1 csr = instr.Csrrc rd rs1 csr

abbrev pub csr_immediate_instruction : CsrImmediateOp → ℕ → ℕ → ℕ → Instr
csr_immediate_instruction Csrrwi rd uimm csr = instr.Csrrwi rd uimm csr
csr_immediate_instruction Csrrsi rd uimm csr = instr.Csrrsi rd uimm csr
csr_immediate_instruction Csrrci rd uimm csr = instr.Csrrci rd uimm csr

-- an instruction that stands for itself has fields that a word can hold, and an atomic one an order
abbrev pub IsInRange : Operation → Type 0
IsInRange (Bare i) = InRange i
IsInRange (Atomic op order) = order < 4
IsInRange _ = Unit {0}
