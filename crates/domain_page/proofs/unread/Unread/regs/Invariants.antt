use Rattle.std.proofs.Common.{◌≡◌, ℕ, List, ◌++◌, length}
use Rattle.cloak_model.specs.Bits.{word}
use Rattle.domain_page.specs.Reading.{AreRegs, regs_bytes, all}
use Rattle.domain_page.proofs.Read.{HasRead}
use Rattle.domain_page.proofs.unread.Unread.regs.Given as goal

abbrev pub invariant-loop-i : goal.invariant-loop-i
invariant-loop-i l = record {
  count : length l.regs ≡ 32;
  reads : (xs : List ℕ) (rest : List ℕ) → AreRegs xs → l.initial.self.left.now ≡ regs_bytes xs ++ rest →
      HasRead word all xs rest l.i l.self.left.now l.regs;
}
