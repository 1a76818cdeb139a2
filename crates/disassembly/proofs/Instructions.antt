-- What the assembler reads in the line of each instruction.
use Rattle.std.proofs.Common.{◌≡◌, ◌⊎◌, inl, inr, ℕ, ◌==◌, true, List, [], ◌∷◌, ◌++◌, codes, Option, Some, None, refl, eqb-true}
use Rattle.std.specs.Prelude.{ℤ}
use Rattle.rv_isa.specs.Range.{InRange, FitsSigned}
use Rattle.rv_isa.specs.declared.instr.Instr.{Instr}
use Rattle.rv_isa.specs.declared.instr.Instr.TheVariants as instr
use Rattle.rv_asm.specs.Words.{cut, leading_word, from_word}
use Rattle.rv_asm.specs.Operations.{operation, register_op, immediate_op, shift_op, upper_op, load_op, store_op, branch_op, csr_op, csr_immediate_op, atomic_name, atomic_order, atomic, bare, single, branch_instruction}
use Rattle.rv_asm.specs.Statements.{Meaning, Fixed, Branch, Jump, statement, label_word, bare_statement}
use Rattle.rv_asm.specs.declared.image_word.ImageWord.TheVariants.{Instruction}
use Rattle.rv_asm.specs.declared.operation.RegisterOp.TheVariants as registers
use Rattle.rv_asm.specs.declared.operation.ImmediateOp.TheVariants as immediates
use Rattle.rv_asm.specs.declared.operation.ShiftOp.TheVariants as shifts
use Rattle.rv_asm.specs.declared.operation.UpperOp.TheVariants as uppers
use Rattle.rv_asm.specs.declared.operation.LoadOp.TheVariants as loads
use Rattle.rv_asm.specs.declared.operation.StoreOp.TheVariants as stores
use Rattle.rv_asm.specs.declared.operation.BranchOp.{BranchOp}
use Rattle.rv_asm.specs.declared.operation.BranchOp.TheVariants as branches
use Rattle.rv_asm.specs.declared.operation.CsrOp.TheVariants as csrs
use Rattle.rv_asm.specs.declared.operation.CsrImmediateOp.TheVariants as csr_immediates
use Rattle.word_text.specs.Operands.{target}
use Rattle.word_text.specs.Text.{instruction_text, has_form}
use Rattle.disassembly.specs.Listing.{reach}
use Rattle.disassembly.proofs.Statements.{Reads, IsMnemonic, register_reads, immediate_reads, shift_reads, upper_reads, load_reads, store_reads, csr_reads, csr_immediate_reads, branch_reads, jump_reads, fence_reads}

-- an instruction that leads nowhere is read as itself
pub record IsPlain (i : Instr) (meant : Meaning) : Type 0 where
  pub meant_is : meant ≡ Fixed (Instruction i ∷ [])
  pub leads : reach i ≡ None

-- a branch is read with the label that it leads to
pub record IsBranch (at : ℕ) (i : Instr) (meant : Meaning) : Type 0 where
  pub op : BranchOp
  pub rs1 : ℕ
  pub rs2 : ℕ
  pub imm : ℤ
  pub instruction_is : i ≡ branch_instruction op rs1 rs2 imm
  pub meant_is : meant ≡ Branch op rs1 rs2 (target at imm)
  pub leads : reach i ≡ Some imm
  pub fits : FitsSigned 13 imm

pub record IsJump (at : ℕ) (i : Instr) (meant : Meaning) : Type 0 where
  pub rd : ℕ
  pub imm : ℤ
  pub instruction_is : i ≡ instr.Jal rd imm
  pub meant_is : meant ≡ Jump rd (target at imm)
  pub leads : reach i ≡ Some imm
  pub fits : FitsSigned 21 imm

abbrev pub HasShape : ℕ → Instr → Meaning → Type 0
HasShape at i meant = IsPlain i meant ⊎ (IsBranch at i meant ⊎ IsJump at i meant)

-- what is read of an instruction at an address
pub record Understood (at : ℕ) (i : Instr) : Type 0 where
  pub meant : Meaning
  pub reads : Reads (instruction_text at i) meant
  pub shape : HasShape at i meant

plain : (at : ℕ) (i : Instr) → reach i ≡ None → Reads (instruction_text at i) (Fixed (Instruction i ∷ [])) → Understood at i
plain at i leads reads =
    record { meant = Fixed (Instruction i ∷ []); reads = reads; shape = inl (record { meant_is = refl; leads = leads }) }

branch : (at : ℕ) (op : BranchOp) (rs1 rs2 : ℕ) (imm : ℤ) → reach (branch_instruction op rs1 rs2 imm) ≡ Some imm → FitsSigned 13 imm →
    Reads (instruction_text at (branch_instruction op rs1 rs2 imm)) (Branch op rs1 rs2 (target at imm)) → Understood at (branch_instruction op rs1 rs2 imm)
branch at op rs1 rs2 imm leads fits reads = record {
  meant = Branch op rs1 rs2 (target at imm);
  reads = reads;
  shape = inr (inl (record {
    op = op;
    rs1 = rs1;
    rs2 = rs2;
    imm = imm;
    instruction_is = refl;
    meant_is = refl;
    leads = leads;
    fits = fits;
  }));
}

jump : (at rd : ℕ) (imm : ℤ) → FitsSigned 21 imm → Reads (instruction_text at (instr.Jal rd imm)) (Jump rd (target at imm)) →
    Understood at (instr.Jal rd imm)
jump at rd imm fits reads = record {
  meant = Jump rd (target at imm);
  reads = reads;
  shape = inr (inr (record { rd = rd; imm = imm; instruction_is = refl; meant_is = refl; leads = refl; fits = fits }));
}

bare_ecall : Reads (codes "ecall") (Fixed (Instruction instr.Ecall ∷ []))
unfolding statement operation register_op immediate_op shift_op upper_op load_op store_op branch_op csr_op csr_immediate_op bare atomic single label_word cut leading_word from_word bare_statement atomic_name atomic_order
bare_ecall = record { statement_is = refl; line = refl }

bare_ebreak : Reads (codes "ebreak") (Fixed (Instruction instr.Ebreak ∷ []))
unfolding statement operation register_op immediate_op shift_op upper_op load_op store_op branch_op csr_op csr_immediate_op bare atomic single label_word cut leading_word from_word bare_statement atomic_name atomic_order
bare_ebreak = record { statement_is = refl; line = refl }

bare_sret : Reads (codes "sret") (Fixed (Instruction instr.Sret ∷ []))
unfolding statement operation register_op immediate_op shift_op upper_op load_op store_op branch_op csr_op csr_immediate_op bare atomic single label_word cut leading_word from_word bare_statement atomic_name atomic_order
bare_sret = record { statement_is = refl; line = refl }

bare_wfi : Reads (codes "wfi") (Fixed (Instruction instr.Wfi ∷ []))
unfolding statement operation register_op immediate_op shift_op upper_op load_op store_op branch_op csr_op csr_immediate_op bare atomic single label_word cut leading_word from_word bare_statement atomic_name atomic_order
bare_wfi = record { statement_is = refl; line = refl }

bare_fence : (rest : ℕ) → rest ≡ 0 → Reads (codes "fence") (Fixed (Instruction (instr.Fence rest) ∷ []))
unfolding statement operation register_op immediate_op shift_op upper_op load_op store_op branch_op csr_op csr_immediate_op bare atomic single label_word cut leading_word from_word bare_statement atomic_name atomic_order
bare_fence rest is = rw is (record { statement_is = refl; line = refl })

bare_fence_i : (rest : ℕ) → rest ≡ 0 → Reads (codes "fence.i") (Fixed (Instruction (instr.FenceI rest) ∷ []))
unfolding statement operation register_op immediate_op shift_op upper_op load_op store_op branch_op csr_op csr_immediate_op bare atomic single label_word cut leading_word from_word bare_statement atomic_name atomic_order
bare_fence_i rest is = rw is (record { statement_is = refl; line = refl })

pub understood : (at : ℕ) (i : Instr) → InRange i → has_form i ≡ true → Understood at i
unfolding operation register_op immediate_op shift_op upper_op load_op store_op branch_op csr_op csr_immediate_op bare atomic single label_word cut atomic_name atomic_order
understood at (instr.Lui rd imm) r form = plain at _ refl (upper_reads (codes "lui") uppers.Lui rd imm (record { some = refl; solid = refl; plain = refl; line = refl; no_label = refl; means = refl }) r.0 r.1 r.2)
understood at (instr.Auipc rd imm) r form = plain at _ refl (upper_reads (codes "auipc") uppers.Auipc rd imm (record { some = refl; solid = refl; plain = refl; line = refl; no_label = refl; means = refl }) r.0 r.1 r.2)
understood at (instr.Jal rd imm) r form = jump at rd imm r.1 (jump_reads rd at imm (record { some = refl; solid = refl; plain = refl; line = refl; no_label = refl; means = refl }) r.0)
understood at (instr.Jalr rd rs1 imm) r form = plain at _ refl (load_reads (codes "jalr") loads.Jalr rd rs1 imm (record { some = refl; solid = refl; plain = refl; line = refl; no_label = refl; means = refl }) r.0 r.1 r.2)
understood at (instr.Beq rs1 rs2 imm) r form = branch at branches.Beq rs1 rs2 imm refl r.2 (branch_reads (codes "beq") branches.Beq rs1 rs2 at imm (record { some = refl; solid = refl; plain = refl; line = refl; no_label = refl; means = refl }) r.0 r.1)
understood at (instr.Bne rs1 rs2 imm) r form = branch at branches.Bne rs1 rs2 imm refl r.2 (branch_reads (codes "bne") branches.Bne rs1 rs2 at imm (record { some = refl; solid = refl; plain = refl; line = refl; no_label = refl; means = refl }) r.0 r.1)
understood at (instr.Blt rs1 rs2 imm) r form = branch at branches.Blt rs1 rs2 imm refl r.2 (branch_reads (codes "blt") branches.Blt rs1 rs2 at imm (record { some = refl; solid = refl; plain = refl; line = refl; no_label = refl; means = refl }) r.0 r.1)
understood at (instr.Bge rs1 rs2 imm) r form = branch at branches.Bge rs1 rs2 imm refl r.2 (branch_reads (codes "bge") branches.Bge rs1 rs2 at imm (record { some = refl; solid = refl; plain = refl; line = refl; no_label = refl; means = refl }) r.0 r.1)
understood at (instr.Bltu rs1 rs2 imm) r form = branch at branches.Bltu rs1 rs2 imm refl r.2 (branch_reads (codes "bltu") branches.Bltu rs1 rs2 at imm (record { some = refl; solid = refl; plain = refl; line = refl; no_label = refl; means = refl }) r.0 r.1)
understood at (instr.Bgeu rs1 rs2 imm) r form = branch at branches.Bgeu rs1 rs2 imm refl r.2 (branch_reads (codes "bgeu") branches.Bgeu rs1 rs2 at imm (record { some = refl; solid = refl; plain = refl; line = refl; no_label = refl; means = refl }) r.0 r.1)
understood at (instr.Lb rd rs1 imm) r form = plain at _ refl (load_reads (codes "lb") loads.Lb rd rs1 imm (record { some = refl; solid = refl; plain = refl; line = refl; no_label = refl; means = refl }) r.0 r.1 r.2)
understood at (instr.Lh rd rs1 imm) r form = plain at _ refl (load_reads (codes "lh") loads.Lh rd rs1 imm (record { some = refl; solid = refl; plain = refl; line = refl; no_label = refl; means = refl }) r.0 r.1 r.2)
understood at (instr.Lw rd rs1 imm) r form = plain at _ refl (load_reads (codes "lw") loads.Lw rd rs1 imm (record { some = refl; solid = refl; plain = refl; line = refl; no_label = refl; means = refl }) r.0 r.1 r.2)
understood at (instr.Lbu rd rs1 imm) r form = plain at _ refl (load_reads (codes "lbu") loads.Lbu rd rs1 imm (record { some = refl; solid = refl; plain = refl; line = refl; no_label = refl; means = refl }) r.0 r.1 r.2)
understood at (instr.Lhu rd rs1 imm) r form = plain at _ refl (load_reads (codes "lhu") loads.Lhu rd rs1 imm (record { some = refl; solid = refl; plain = refl; line = refl; no_label = refl; means = refl }) r.0 r.1 r.2)
understood at (instr.Sb rs1 rs2 imm) r form = plain at _ refl (store_reads (codes "sb") stores.Sb rs1 rs2 imm (record { some = refl; solid = refl; plain = refl; line = refl; no_label = refl; means = refl }) r.0 r.1 r.2)
understood at (instr.Sh rs1 rs2 imm) r form = plain at _ refl (store_reads (codes "sh") stores.Sh rs1 rs2 imm (record { some = refl; solid = refl; plain = refl; line = refl; no_label = refl; means = refl }) r.0 r.1 r.2)
understood at (instr.Sw rs1 rs2 imm) r form = plain at _ refl (store_reads (codes "sw") stores.Sw rs1 rs2 imm (record { some = refl; solid = refl; plain = refl; line = refl; no_label = refl; means = refl }) r.0 r.1 r.2)
understood at (instr.Addi rd rs1 imm) r form = plain at _ refl (immediate_reads (codes "addi") immediates.Addi rd rs1 imm (record { some = refl; solid = refl; plain = refl; line = refl; no_label = refl; means = refl }) r.0 r.1 r.2)
understood at (instr.Slti rd rs1 imm) r form = plain at _ refl (immediate_reads (codes "slti") immediates.Slti rd rs1 imm (record { some = refl; solid = refl; plain = refl; line = refl; no_label = refl; means = refl }) r.0 r.1 r.2)
understood at (instr.Sltiu rd rs1 imm) r form = plain at _ refl (immediate_reads (codes "sltiu") immediates.Sltiu rd rs1 imm (record { some = refl; solid = refl; plain = refl; line = refl; no_label = refl; means = refl }) r.0 r.1 r.2)
understood at (instr.Xori rd rs1 imm) r form = plain at _ refl (immediate_reads (codes "xori") immediates.Xori rd rs1 imm (record { some = refl; solid = refl; plain = refl; line = refl; no_label = refl; means = refl }) r.0 r.1 r.2)
understood at (instr.Ori rd rs1 imm) r form = plain at _ refl (immediate_reads (codes "ori") immediates.Ori rd rs1 imm (record { some = refl; solid = refl; plain = refl; line = refl; no_label = refl; means = refl }) r.0 r.1 r.2)
understood at (instr.Andi rd rs1 imm) r form = plain at _ refl (immediate_reads (codes "andi") immediates.Andi rd rs1 imm (record { some = refl; solid = refl; plain = refl; line = refl; no_label = refl; means = refl }) r.0 r.1 r.2)
understood at (instr.Slli rd rs1 shamt) r form = plain at _ refl (shift_reads (codes "slli") shifts.Slli rd rs1 shamt (record { some = refl; solid = refl; plain = refl; line = refl; no_label = refl; means = refl }) r.0 r.1 r.2)
understood at (instr.Srli rd rs1 shamt) r form = plain at _ refl (shift_reads (codes "srli") shifts.Srli rd rs1 shamt (record { some = refl; solid = refl; plain = refl; line = refl; no_label = refl; means = refl }) r.0 r.1 r.2)
understood at (instr.Srai rd rs1 shamt) r form = plain at _ refl (shift_reads (codes "srai") shifts.Srai rd rs1 shamt (record { some = refl; solid = refl; plain = refl; line = refl; no_label = refl; means = refl }) r.0 r.1 r.2)
understood at (instr.Add rd rs1 rs2) r form = plain at _ refl (register_reads (codes "add") registers.Add rd rs1 rs2 (record { some = refl; solid = refl; plain = refl; line = refl; no_label = refl; means = refl }) r.0 r.1 r.2)
understood at (instr.Sub rd rs1 rs2) r form = plain at _ refl (register_reads (codes "sub") registers.Sub rd rs1 rs2 (record { some = refl; solid = refl; plain = refl; line = refl; no_label = refl; means = refl }) r.0 r.1 r.2)
understood at (instr.Sll rd rs1 rs2) r form = plain at _ refl (register_reads (codes "sll") registers.Sll rd rs1 rs2 (record { some = refl; solid = refl; plain = refl; line = refl; no_label = refl; means = refl }) r.0 r.1 r.2)
understood at (instr.Slt rd rs1 rs2) r form = plain at _ refl (register_reads (codes "slt") registers.Slt rd rs1 rs2 (record { some = refl; solid = refl; plain = refl; line = refl; no_label = refl; means = refl }) r.0 r.1 r.2)
understood at (instr.Sltu rd rs1 rs2) r form = plain at _ refl (register_reads (codes "sltu") registers.Sltu rd rs1 rs2 (record { some = refl; solid = refl; plain = refl; line = refl; no_label = refl; means = refl }) r.0 r.1 r.2)
understood at (instr.Xor rd rs1 rs2) r form = plain at _ refl (register_reads (codes "xor") registers.Xor rd rs1 rs2 (record { some = refl; solid = refl; plain = refl; line = refl; no_label = refl; means = refl }) r.0 r.1 r.2)
understood at (instr.Srl rd rs1 rs2) r form = plain at _ refl (register_reads (codes "srl") registers.Srl rd rs1 rs2 (record { some = refl; solid = refl; plain = refl; line = refl; no_label = refl; means = refl }) r.0 r.1 r.2)
understood at (instr.Sra rd rs1 rs2) r form = plain at _ refl (register_reads (codes "sra") registers.Sra rd rs1 rs2 (record { some = refl; solid = refl; plain = refl; line = refl; no_label = refl; means = refl }) r.0 r.1 r.2)
understood at (instr.Or rd rs1 rs2) r form = plain at _ refl (register_reads (codes "or") registers.Or rd rs1 rs2 (record { some = refl; solid = refl; plain = refl; line = refl; no_label = refl; means = refl }) r.0 r.1 r.2)
understood at (instr.And rd rs1 rs2) r form = plain at _ refl (register_reads (codes "and") registers.And rd rs1 rs2 (record { some = refl; solid = refl; plain = refl; line = refl; no_label = refl; means = refl }) r.0 r.1 r.2)
understood at (instr.Mul rd rs1 rs2) r form = plain at _ refl (register_reads (codes "mul") registers.Mul rd rs1 rs2 (record { some = refl; solid = refl; plain = refl; line = refl; no_label = refl; means = refl }) r.0 r.1 r.2)
understood at (instr.Mulh rd rs1 rs2) r form = plain at _ refl (register_reads (codes "mulh") registers.Mulh rd rs1 rs2 (record { some = refl; solid = refl; plain = refl; line = refl; no_label = refl; means = refl }) r.0 r.1 r.2)
understood at (instr.Mulhsu rd rs1 rs2) r form = plain at _ refl (register_reads (codes "mulhsu") registers.Mulhsu rd rs1 rs2 (record { some = refl; solid = refl; plain = refl; line = refl; no_label = refl; means = refl }) r.0 r.1 r.2)
understood at (instr.Mulhu rd rs1 rs2) r form = plain at _ refl (register_reads (codes "mulhu") registers.Mulhu rd rs1 rs2 (record { some = refl; solid = refl; plain = refl; line = refl; no_label = refl; means = refl }) r.0 r.1 r.2)
understood at (instr.Div rd rs1 rs2) r form = plain at _ refl (register_reads (codes "div") registers.Div rd rs1 rs2 (record { some = refl; solid = refl; plain = refl; line = refl; no_label = refl; means = refl }) r.0 r.1 r.2)
understood at (instr.Divu rd rs1 rs2) r form = plain at _ refl (register_reads (codes "divu") registers.Divu rd rs1 rs2 (record { some = refl; solid = refl; plain = refl; line = refl; no_label = refl; means = refl }) r.0 r.1 r.2)
understood at (instr.Rem rd rs1 rs2) r form = plain at _ refl (register_reads (codes "rem") registers.Rem rd rs1 rs2 (record { some = refl; solid = refl; plain = refl; line = refl; no_label = refl; means = refl }) r.0 r.1 r.2)
understood at (instr.Remu rd rs1 rs2) r form = plain at _ refl (register_reads (codes "remu") registers.Remu rd rs1 rs2 (record { some = refl; solid = refl; plain = refl; line = refl; no_label = refl; means = refl }) r.0 r.1 r.2)
understood at (instr.Fence rest) r form = plain at _ refl (bare_fence rest (eqb-true rest 0 form))
understood at (instr.FenceI rest) r form = plain at _ refl (bare_fence_i rest (eqb-true rest 0 form))
understood at (instr.Csrrw rd rs1 csr) r form = plain at _ refl (csr_reads (codes "csrrw") csrs.Csrrw rd rs1 csr (record { some = refl; solid = refl; plain = refl; line = refl; no_label = refl; means = refl }) r.0 r.1 r.2)
understood at (instr.Csrrs rd rs1 csr) r form = plain at _ refl (csr_reads (codes "csrrs") csrs.Csrrs rd rs1 csr (record { some = refl; solid = refl; plain = refl; line = refl; no_label = refl; means = refl }) r.0 r.1 r.2)
understood at (instr.Csrrc rd rs1 csr) r form = plain at _ refl (csr_reads (codes "csrrc") csrs.Csrrc rd rs1 csr (record { some = refl; solid = refl; plain = refl; line = refl; no_label = refl; means = refl }) r.0 r.1 r.2)
understood at (instr.Csrrwi rd uimm csr) r form = plain at _ refl (csr_immediate_reads (codes "csrrwi") csr_immediates.Csrrwi rd uimm csr (record { some = refl; solid = refl; plain = refl; line = refl; no_label = refl; means = refl }) r.0 r.1 r.2)
understood at (instr.Csrrsi rd uimm csr) r form = plain at _ refl (csr_immediate_reads (codes "csrrsi") csr_immediates.Csrrsi rd uimm csr (record { some = refl; solid = refl; plain = refl; line = refl; no_label = refl; means = refl }) r.0 r.1 r.2)
understood at (instr.Csrrci rd uimm csr) r form = plain at _ refl (csr_immediate_reads (codes "csrrci") csr_immediates.Csrrci rd uimm csr (record { some = refl; solid = refl; plain = refl; line = refl; no_label = refl; means = refl }) r.0 r.1 r.2)
understood at instr.Ecall r form = plain at _ refl (bare_ecall)
understood at instr.Ebreak r form = plain at _ refl (bare_ebreak)
understood at instr.Sret r form = plain at _ refl (bare_sret)
understood at instr.Wfi r form = plain at _ refl (bare_wfi)
understood at (instr.SfenceVma rs1 rs2) r form = plain at _ refl (fence_reads rs1 rs2 (record { some = refl; solid = refl; plain = refl; line = refl; no_label = refl; means = refl }) r.0 r.1)
