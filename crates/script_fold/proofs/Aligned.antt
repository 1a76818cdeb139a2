-- A store that an instruction asks for has a width, and its address is a multiple of it.
use Rattle.std.proofs.Common.{◌≡◌, ℕ, ◌%◌, Bool, true, false, List, inl, inr, refl, arith}
use Rattle.std.specs.Prelude.{◌==◌, ℤ}
use Rattle.std.proofs.lemmas.Bool.{cond_both, eqb-true}
use Rattle.rv_isa.specs.declared.instr.Instr.{Instr}
use Rattle.rv_isa.specs.declared.instr.Instr.TheVariants as instr
use Rattle.cloak_model.specs.declared.outcome.Effect.{Effect}
use Rattle.cloak_model.specs.declared.outcome.Effect.TheVariants as does
use Rattle.cloak_model.specs.Effect.{IsWidth, jump, go, branch, offset, load_effect, store_effect, effect}
use Rattle.cloak_base.proofs.Choices.{either}

abbrev pub IsAligned : ℕ → ℕ → Type 0
IsAligned va width = (va % width ≡ 0) × IsWidth width

pub byte_aligned : (va : ℕ) → IsAligned va 1
byte_aligned va = (omega arith, inl refl)

abbrev pub StoresAligned : Effect → Type 0
StoresAligned (does.Store va width value) = IsAligned va width
StoresAligned _ = Unit {0}

jump_aligned : (rd pc target : ℕ) → StoresAligned (jump rd pc target)
jump_aligned rd pc target = either StoresAligned (target % 4 == 0) _ _ tt tt

go_aligned : (target : ℕ) → StoresAligned (go target)
go_aligned target = either StoresAligned (target % 4 == 0) _ _ tt tt

branch_aligned : (taken : Bool) (pc : ℕ) (imm : ℤ) → StoresAligned (branch taken pc imm)
branch_aligned taken pc imm = either StoresAligned taken _ _ (go_aligned (offset pc imm)) tt

load_aligned : (rd va width : ℕ) (signed : Bool) → StoresAligned (load_effect rd va width signed)
load_aligned rd va width signed = either StoresAligned (va % width == 0) _ _ tt tt

store_aligned : (va width value : ℕ) → IsWidth width → StoresAligned (store_effect va width value)
store_aligned va width value is =
    cond_both (va % width == 0) _ _ StoresAligned (λ e. (eqb-true (va % width) 0 e, is)) (λ e. tt)

pub effect_aligned : (i : Instr) (r : List ℕ) (pc : ℕ) → StoresAligned (effect i r pc)
unfolding effect
effect_aligned (instr.Jal rd imm) r pc = jump_aligned rd pc _
effect_aligned (instr.Jalr rd rs1 imm) r pc = jump_aligned rd pc _
effect_aligned (instr.Beq rs1 rs2 imm) r pc = branch_aligned _ pc imm
effect_aligned (instr.Bne rs1 rs2 imm) r pc = branch_aligned _ pc imm
effect_aligned (instr.Blt rs1 rs2 imm) r pc = branch_aligned _ pc imm
effect_aligned (instr.Bge rs1 rs2 imm) r pc = branch_aligned _ pc imm
effect_aligned (instr.Bltu rs1 rs2 imm) r pc = branch_aligned _ pc imm
effect_aligned (instr.Bgeu rs1 rs2 imm) r pc = branch_aligned _ pc imm
effect_aligned (instr.Lb rd rs1 imm) r pc = load_aligned rd _ 1 true
effect_aligned (instr.Lh rd rs1 imm) r pc = load_aligned rd _ 2 true
effect_aligned (instr.Lw rd rs1 imm) r pc = load_aligned rd _ 4 true
effect_aligned (instr.Lbu rd rs1 imm) r pc = load_aligned rd _ 1 false
effect_aligned (instr.Lhu rd rs1 imm) r pc = load_aligned rd _ 2 false
effect_aligned (instr.Sb rs1 rs2 imm) r pc = store_aligned _ 1 _ (inl refl)
effect_aligned (instr.Sh rs1 rs2 imm) r pc = store_aligned _ 2 _ (inr (inl refl))
effect_aligned (instr.Sw rs1 rs2 imm) r pc = store_aligned _ 4 _ (inr (inr refl))
effect_aligned _ r pc = tt
