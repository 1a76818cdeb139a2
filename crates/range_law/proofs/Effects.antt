-- What an instruction does: each number of it is a word.
use Rattle.std.proofs.Common.{inl, inr, ℕ, ◌*◌, ◌/◌, ◌%◌, ◌^◌, ◌<◌, ◌≤◌, ℤ, pos, negsuc, Bool, true, false, List, IfSome, refl, arith, rules}
use Rattle.std.specs.Prelude.{◌==◌}
use Rattle.std.proofs.Math.Nat.{div-le_self, mod-le}
use Rattle.std.proofs.lemmas.Nat.{mul-lt, or_of_32, xor_of_32, and_le_l}
use Rattle.cloak_base.specs.Registers.{register}
use Rattle.rv_isa.specs.Fields.{imm_u, uimm_of}
use Rattle.rv_isa.specs.Table.{jalr_line, branch_line, load_line, store_line, op_imm_line, op_line, misc_mem_line, system_line, privileged_line, instruction}
use Rattle.rv_isa.specs.declared.instr.Instr.{Instr}
use Rattle.rv_isa.specs.declared.instr.Instr.TheVariants as instr
use Rattle.rv_isa.proofs.Spelling.{if_line}
use Rattle.cloak_model.specs.Bits.{word_of}
use Rattle.cloak_model.specs.Effect.{IsWidth, effect, flag, offset, jump, go, branch, load_effect, store_effect, high_product_unsigned, quotient, quotient_unsigned, remainder, remainder_unsigned, even}
use Rattle.cloak_model.specs.declared.outcome.Effect.{Effect}
use Rattle.cloak_model.specs.declared.outcome.Effect.TheVariants as does
use Rattle.cloak_model.specs.Record.{IsWord}
use Rattle.range_law.proofs.Bounds.{AreWords, rest_below, word_at}
use Rattle.cloak_base.proofs.Choices.{either}

-- The fields of an instruction that a register or a control and status register may take as they are.

abbrev pub FieldsFit : Instr → Type 0
FieldsFit (instr.Lui rd imm) = IsWord imm
FieldsFit (instr.Csrrwi rd uimm n) = IsWord uimm
FieldsFit (instr.Csrrsi rd uimm n) = IsWord uimm
FieldsFit (instr.Csrrci rd uimm n) = IsWord uimm
FieldsFit _ = Unit {0}

imm_fits : (w : ℕ) → IsWord (imm_u w)
imm_fits w = omega arith

uimm_fits : (w : ℕ) → IsWord (uimm_of w)
uimm_fits w = omega arith

jalr_fits : (w : ℕ) → IfSome (jalr_line w) FieldsFit
unfolding jalr_line
jalr_fits w = search (rules, if_line)

branch_fits : (w : ℕ) → IfSome (branch_line w) FieldsFit
unfolding branch_line
branch_fits w = search (rules, if_line)

load_fits : (w : ℕ) → IfSome (load_line w) FieldsFit
unfolding load_line
load_fits w = search (rules, if_line)

store_fits : (w : ℕ) → IfSome (store_line w) FieldsFit
unfolding store_line
store_fits w = search (rules, if_line)

op_imm_fits : (w : ℕ) → IfSome (op_imm_line w) FieldsFit
unfolding op_imm_line
op_imm_fits w = search (rules, if_line)

op_fits : (w : ℕ) → IfSome (op_line w) FieldsFit
unfolding op_line
op_fits w = search (rules, if_line)

misc_mem_fits : (w : ℕ) → IfSome (misc_mem_line w) FieldsFit
unfolding misc_mem_line
misc_mem_fits w = search (rules, if_line)

privileged_fits : (w : ℕ) → IfSome (privileged_line w) FieldsFit
unfolding privileged_line
privileged_fits w = search (rules, if_line)

system_fits : (w : ℕ) → IfSome (system_line w) FieldsFit
unfolding system_line
system_fits w = search (rules, if_line, uimm_fits, privileged_fits)

pub instruction_fits : (w : ℕ) → IfSome (instruction w) FieldsFit
unfolding instruction
instruction_fits w = search (rules, if_line, imm_fits, jalr_fits, branch_fits, load_fits, store_fits, op_imm_fits, op_fits, misc_mem_fits, system_fits) depth 16

-- Values.

integer_fits : (z : ℤ) → IsWord (word_of z)
integer_fits (pos n) = rest_below n
integer_fits (negsuc n) = omega arith

at_most : (n m : ℕ) → n ≤ m → IsWord m → IsWord n
at_most n m le below = omega (arith, le, below)

pub flag_fits : (b : Bool) → IsWord (flag b)
flag_fits true = omega arith
flag_fits false = omega arith

high_half : (n : ℕ) → n < 2 ^ 64 → n / 2 ^ 32 < 2 ^ 32
high_half n below = omega (arith, below)

high_fits : (a b : ℕ) → IsWord a → IsWord b → IsWord (high_product_unsigned a b)
high_fits a b p q = high_half (a * b) (mul-lt a b (2 ^ 32) (2 ^ 32) p q)

quotient_fits : (a b : ℕ) → IsWord (quotient a b)
quotient_fits a b = either IsWord (b == 0) _ _ (omega arith) (integer_fits _)

quotient_unsigned_fits : (a b : ℕ) → IsWord a → IsWord (quotient_unsigned a b)
quotient_unsigned_fits a b p = either IsWord (b == 0) _ _ (omega arith) (at_most _ a (div-le_self a b) p)

remainder_fits : (a b : ℕ) → IsWord a → IsWord (remainder a b)
remainder_fits a b p = either IsWord (b == 0) _ _ p (integer_fits _)

remainder_unsigned_fits : (a b : ℕ) → IsWord a → IsWord (remainder_unsigned a b)
remainder_unsigned_fits a b p = either IsWord (b == 0) _ _ p (at_most _ a (mod-le a b) p)

-- Effects.

abbrev pub EffectFits : Effect → Type 0
EffectFits (does.Write rd value) = IsWord value
EffectFits (does.Jump rd to target) = IsWord to × IsWord target
EffectFits (does.Go target) = IsWord target
EffectFits (does.Load rd va width is_signed) = IsWord va × IsWidth width
EffectFits (does.Store va width value) = IsWord va × IsWidth width
EffectFits (does.Raise cause value) = IsWord cause × IsWord value
EffectFits _ = Unit {0}

jump_fits : (rd pc target : ℕ) → IsWord target → EffectFits (jump rd pc target)
jump_fits rd pc target fits = either EffectFits (target % 4 == 0) _ _ (rest_below _, fits) (omega arith, fits)

go_fits : (target : ℕ) → IsWord target → EffectFits (go target)
go_fits target fits = either EffectFits (target % 4 == 0) _ _ fits (omega arith, fits)

branch_effect_fits : (taken : Bool) (pc : ℕ) (imm : ℤ) → EffectFits (branch taken pc imm)
branch_effect_fits taken pc imm = either EffectFits taken _ _ (go_fits (offset pc imm) (rest_below _)) tt

load_effect_fits : (rd va width : ℕ) (is_signed : Bool) → IsWord va → IsWidth width →
    EffectFits (load_effect rd va width is_signed)
load_effect_fits rd va width is_signed fits is = either EffectFits (va % width == 0) _ _ (fits, is) (omega arith, fits)

store_effect_fits : (va width value : ℕ) → IsWord va → IsWidth width → EffectFits (store_effect va width value)
store_effect_fits va width value fits is = either EffectFits (va % width == 0) _ _ (fits, is) (omega arith, fits)

even_fits : (n : ℕ) → IsWord n → IsWord (even n)
even_fits n fits = omega (arith, fits)

pub effect_fits : (i : Instr) (r : List ℕ) (pc : ℕ) → FieldsFit i → AreWords r → EffectFits (effect i r pc)
unfolding effect
effect_fits (instr.Lui rd imm) r pc fit all = fit
effect_fits (instr.Auipc rd imm) r pc fit all = rest_below _
effect_fits (instr.Jal rd imm) r pc fit all = jump_fits rd pc _ (rest_below _)
effect_fits (instr.Jalr rd rs1 imm) r pc fit all = jump_fits rd pc _ (even_fits _ (rest_below _))
effect_fits (instr.Beq rs1 rs2 imm) r pc fit all = branch_effect_fits _ pc imm
effect_fits (instr.Bne rs1 rs2 imm) r pc fit all = branch_effect_fits _ pc imm
effect_fits (instr.Blt rs1 rs2 imm) r pc fit all = branch_effect_fits _ pc imm
effect_fits (instr.Bge rs1 rs2 imm) r pc fit all = branch_effect_fits _ pc imm
effect_fits (instr.Bltu rs1 rs2 imm) r pc fit all = branch_effect_fits _ pc imm
effect_fits (instr.Bgeu rs1 rs2 imm) r pc fit all = branch_effect_fits _ pc imm
effect_fits (instr.Lb rd rs1 imm) r pc fit all = load_effect_fits rd _ 1 true (rest_below _) (inl refl)
effect_fits (instr.Lh rd rs1 imm) r pc fit all = load_effect_fits rd _ 2 true (rest_below _) (inr (inl refl))
effect_fits (instr.Lw rd rs1 imm) r pc fit all = load_effect_fits rd _ 4 true (rest_below _) (inr (inr refl))
effect_fits (instr.Lbu rd rs1 imm) r pc fit all = load_effect_fits rd _ 1 false (rest_below _) (inl refl)
effect_fits (instr.Lhu rd rs1 imm) r pc fit all = load_effect_fits rd _ 2 false (rest_below _) (inr (inl refl))
effect_fits (instr.Sb rs1 rs2 imm) r pc fit all = store_effect_fits _ 1 _ (rest_below _) (inl refl)
effect_fits (instr.Sh rs1 rs2 imm) r pc fit all = store_effect_fits _ 2 _ (rest_below _) (inr (inl refl))
effect_fits (instr.Sw rs1 rs2 imm) r pc fit all = store_effect_fits _ 4 _ (rest_below _) (inr (inr refl))
effect_fits (instr.Addi rd rs1 imm) r pc fit all = rest_below _
effect_fits (instr.Slti rd rs1 imm) r pc fit all = flag_fits _
effect_fits (instr.Sltiu rd rs1 imm) r pc fit all = flag_fits _
effect_fits (instr.Xori rd rs1 imm) r pc fit all = xor_of_32 _ _ (word_at r rs1 all) (integer_fits imm)
effect_fits (instr.Ori rd rs1 imm) r pc fit all = or_of_32 _ _ (word_at r rs1 all) (integer_fits imm)
effect_fits (instr.Andi rd rs1 imm) r pc fit all = at_most _ _ (and_le_l _ _) (word_at r rs1 all)
effect_fits (instr.Slli rd rs1 shamt) r pc fit all = rest_below _
effect_fits (instr.Srli rd rs1 shamt) r pc fit all = at_most _ _ (div-le_self _ _) (word_at r rs1 all)
effect_fits (instr.Srai rd rs1 shamt) r pc fit all = integer_fits _
effect_fits (instr.Add rd rs1 rs2) r pc fit all = rest_below _
effect_fits (instr.Sub rd rs1 rs2) r pc fit all = rest_below _
effect_fits (instr.Sll rd rs1 rs2) r pc fit all = rest_below _
effect_fits (instr.Slt rd rs1 rs2) r pc fit all = flag_fits _
effect_fits (instr.Sltu rd rs1 rs2) r pc fit all = flag_fits _
effect_fits (instr.Xor rd rs1 rs2) r pc fit all = xor_of_32 _ _ (word_at r rs1 all) (word_at r rs2 all)
effect_fits (instr.Srl rd rs1 rs2) r pc fit all = at_most _ _ (div-le_self _ _) (word_at r rs1 all)
effect_fits (instr.Sra rd rs1 rs2) r pc fit all = integer_fits _
effect_fits (instr.Or rd rs1 rs2) r pc fit all = or_of_32 _ _ (word_at r rs1 all) (word_at r rs2 all)
effect_fits (instr.And rd rs1 rs2) r pc fit all = at_most _ _ (and_le_l _ _) (word_at r rs1 all)
effect_fits (instr.Mul rd rs1 rs2) r pc fit all = rest_below _
effect_fits (instr.Mulh rd rs1 rs2) r pc fit all = integer_fits _
effect_fits (instr.Mulhsu rd rs1 rs2) r pc fit all = integer_fits _
effect_fits (instr.Mulhu rd rs1 rs2) r pc fit all = high_fits _ _ (word_at r rs1 all) (word_at r rs2 all)
effect_fits (instr.Div rd rs1 rs2) r pc fit all = quotient_fits (register r rs1) (register r rs2)
effect_fits (instr.Divu rd rs1 rs2) r pc fit all = quotient_unsigned_fits _ _ (word_at r rs1 all)
effect_fits (instr.Rem rd rs1 rs2) r pc fit all = remainder_fits _ _ (word_at r rs1 all)
effect_fits (instr.Remu rd rs1 rs2) r pc fit all = remainder_unsigned_fits _ _ (word_at r rs1 all)
effect_fits _ r pc fit all = tt
