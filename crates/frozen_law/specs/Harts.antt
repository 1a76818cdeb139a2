-- The harts at every moment of a run: each program counter is a multiple of 4, no control and status register has a bit
-- that it does not keep, and what a hart has reserved is a word of RAM.
use Rattle.std.specs.Prelude.{ℕ, ◌≡◌, ◌+◌, ◌-◌, ◌%◌, ◌^◌, ◌<◌, ◌≤◌, bit_and, List, [], ◌∷◌, length, Some, Ok}
use Rattle.std.specs.List.{AllByRecursion}
use Rattle.cloak_base.specs.Constants.{ram_start, ram_end}
use Rattle.cloak_base.specs.Registers.{register}
use Rattle.cloak_model.specs.declared.image.Bundle.{Bundle}
use Rattle.cloak_model.specs.Beginning.{Beginning}
use Rattle.cloak_model.specs.Bundle.{IsInGrammar}
use Rattle.cloak_model.specs.Csr.{csr_words}
use Rattle.cloak_model.specs.Hart.{Hart}
use Rattle.cloak_model.specs.Memory.{mark_of}
use Rattle.cloak_model.specs.Run.{Run, run_from}
use Rattle.range_law.specs.Writing.{IsOfBytes, IsBeginningOfBytes}
use Rattle.kernel_isolation.specs.Isolation.{joint_until}

-- The bits that the nine registers keep, in the order in which a hart lists them: of sstatus SIE, SPIE, SPP, SUM and MXR,
-- of sie and sip the timer's, of stvec and sepc all but the lowest two, and of the others all.
abbrev pub kept_bits : List ℕ
kept_bits =
    (2 ^ 1 + 2 ^ 5 + 2 ^ 8 + 2 ^ 18 + 2 ^ 19) ∷ 2 ^ 5 ∷ (2 ^ 32 - 4) ∷ (2 ^ 32 - 1) ∷ (2 ^ 32 - 4) ∷ (2 ^ 32 - 1)
    ∷ (2 ^ 32 - 1) ∷ 2 ^ 5 ∷ (2 ^ 32 - 1) ∷ []

-- There are as many words, and each has no bits but these.
abbrev pub HaveOnly : List ℕ → List ℕ → Type 0
HaveOnly [] [] = Unit {0}
HaveOnly (bits ∷ more) (w ∷ words) = (bit_and w bits ≡ w) × HaveOnly more words
HaveOnly [] (w ∷ words) = ⊥
HaveOnly (bits ∷ more) [] = ⊥

-- A hart: 32 registers, of which register 0 is 0, a program counter that is a multiple of 4, and registers for control
-- and status without a stray bit.
pub record IsInRange (h : Hart) : Type 0 where
  pub registers : length h.regs ≡ 32
  pub zero_register : register h.regs 0 ≡ 0
  pub pc : h.pc % 4 ≡ 0
  pub csrs : HaveOnly kept_bits (csr_words h.csrs)

-- The address of a word in RAM of this many frames.
pub record IsWordOfRam (frames pa : ℕ) : Type 0 where
  pub aligned : pa % 4 ≡ 0
  pub low : ram_start ≤ pa
  pub high : pa < ram_end frames

-- The law of harts, of the run of an image in the grammar whose bytes are bytes, from a beginning of bytes.
abbrev pub HartsAreInRange : Type 0
HartsAreInRange =
    (b : Bundle) (from : Beginning) (budget : ℕ) (r : Run) → IsInGrammar b → IsOfBytes b → IsBeginningOfBytes b from →
    run_from b from budget ≡ Ok r → (n : ℕ) → AllByRecursion IsInRange (joint_until n r).harts

-- Of reservations: each is of a word of RAM. So it is in every run, also of an image that no file spells.
abbrev pub MarksAreInRam : Type 0
MarksAreInRam =
    (b : Bundle) (from : Beginning) (budget : ℕ) (r : Run) → run_from b from budget ≡ Ok r → (n hart pa : ℕ) →
    mark_of hart (joint_until n r).memory.marks ≡ Some pa → IsWordOfRam b.kernel.frames pa
