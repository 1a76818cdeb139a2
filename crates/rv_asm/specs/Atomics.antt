-- The bits 31 to 27 of the words of atomic instructions (RISC-V unprivileged manual 20191213, chapter 24, "RV32A Standard
-- Extension").
use Rattle.std.specs.Prelude.{ℕ}
use Rattle.rv_atomic.specs.declared.atomic.AtomicOp.{AtomicOp}
use Rattle.rv_atomic.specs.declared.atomic.AtomicOp.TheVariants.{Lr, Sc, Swap, Add, Xor, And, Or, Min, Max, Minu, Maxu}

abbrev pub funct5_of : AtomicOp → ℕ
funct5_of Lr = 0b00010
funct5_of Sc = 0b00011
funct5_of Swap = 0b00001
funct5_of Add = 0b00000
funct5_of Xor = 0b00100
funct5_of And = 0b01100
funct5_of Or = 0b01000
funct5_of Min = 0b10000
funct5_of Max = 0b10100
funct5_of Minu = 0b11000
funct5_of Maxu = 0b11100
