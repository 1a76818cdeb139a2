-- The atomic instruction of a word, by the fields of the word.
use Rattle.std.proofs.Common.{◌≡◌, ℕ, Some, refl}
use Rattle.rv_isa.specs.Fields.{opcode, rd_of, funct3, rs1_of, rs2_of}
use Rattle.rv_atomic.specs.Table.{funct5, order_of, operation, atomic_instruction}
use Rattle.rv_atomic.specs.declared.atomic.Atomic.{Atomic}
use Rattle.rv_atomic.specs.declared.atomic.AtomicOp.{AtomicOp}
use Rattle.rv_atomic.specs.declared.atomic.AtomicOp.TheVariants.{Lr, Sc, Swap, Add, Xor, And, Or, Min, Max, Minu, Maxu}
use Rattle.rv_asm.specs.Atomics.{funct5_of}

operation_is : (w : ℕ) (op : AtomicOp) → funct5 w ≡ funct5_of op → (op ≡ Lr → rs2_of w ≡ 0) → operation w ≡ Some op
unfolding operation
operation_is w Lr is without = rw (is, without refl) refl
operation_is w Sc is without = rw is refl
operation_is w Swap is without = rw is refl
operation_is w Add is without = rw is refl
operation_is w Xor is without = rw is refl
operation_is w And is without = rw is refl
operation_is w Or is without = rw is refl
operation_is w Min is without = rw is refl
operation_is w Max is without = rw is refl
operation_is w Minu is without = rw is refl
operation_is w Maxu is without = rw is refl

pub record Spells (w : ℕ) (a : Atomic) : Type 0 where
  pub opcode_is : opcode w ≡ 0b0101111
  pub funct3_is : funct3 w ≡ 0b010
  pub funct5_is : funct5 w ≡ funct5_of a.op
  pub order : order_of w ≡ a.order
  pub rs2 : rs2_of w ≡ a.rs2
  pub rs1 : rs1_of w ≡ a.rs1
  pub rd : rd_of w ≡ a.rd
  pub without : a.op ≡ Lr → rs2_of w ≡ 0

pub spelled : (w : ℕ) (a : Atomic) → Spells w a → atomic_instruction w ≡ Some a
unfolding atomic_instruction
spelled w a s =
    rw (s.opcode_is, s.funct3_is, operation_is w a.op s.funct5_is s.without, s.order, s.rs2, s.rs1, s.rd) refl
