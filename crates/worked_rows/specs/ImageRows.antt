-- The words of the images are the instructions that stand beside them.
use Rattle.std.specs.Prelude.{◌≡◌, pos, [], ◌∷◌, map, Some}
use Rattle.rv_isa.specs.Table.{instruction}
use Rattle.rv_isa.specs.declared.instr.Instr.TheVariants.{Lui, Auipc, Beq, Lw, Sw, Addi, Xori, Csrrw, Ecall}
use Rattle.worked_rows.specs.Images.{boot, halt, program_words, letter_words, flip_and_resume, look_and_resume, remap_and_resume, resume_words, resume_third, exit_words, share_words}

pub record ImageWords : Type 0 where
  pub boot : map instruction boot ≡
      Some (Auipc 6 0) ∷ Some (Addi 6 6 (pos 20)) ∷ Some (Csrrw 0 6 0x105) ∷ Some (Lui 17 0x4F560000) ∷ Some Ecall ∷ []
  pub halt : map instruction halt ≡ Some (Addi 17 0 (pos 4)) ∷ Some Ecall ∷ []
  pub program : map instruction program_words ≡
      Some (Addi 10 0 (pos 7)) ∷ Some (Sw 2 10 (pos 0)) ∷ Some (Lw 11 2 (pos 0)) ∷ Some (Addi 16 0 (pos 9))
      ∷ Some (Lui 17 0x4F560000) ∷ Some (Addi 17 17 (pos 8)) ∷ Some Ecall ∷ []
  pub letter : map instruction letter_words ≡ Some (Addi 10 0 (pos 65)) ∷ Some Ecall ∷ Some (Addi 17 0 (pos 4)) ∷
      Some Ecall ∷ []
  pub flip : map instruction flip_and_resume ≡
      Some (Auipc 6 0x8000) ∷ Some (Lw 7 6 (pos 0)) ∷ Some (Xori 7 7 (pos 1)) ∷ Some (Sw 6 7 (pos 0)) ∷
      Some (Lui 17 0x4F560000) ∷ Some Ecall ∷ []
  pub look : map instruction look_and_resume ≡
      Some (Auipc 6 0x8000) ∷ Some (Lw 7 6 (pos 0)) ∷ Some (Xori 7 7 (pos 1)) ∷ Some (Addi 0 0 (pos 0)) ∷
      Some (Lui 17 0x4F560000) ∷ Some Ecall ∷ []
  pub remap : map instruction remap_and_resume ≡ Some (Lui 6 0x00400000) ∷ Some (Csrrw 0 6 0x180) ∷
      Some (Lui 17 0x4F560000) ∷ Some Ecall ∷ []
  pub resume : map instruction resume_words ≡ Some (Lui 17 0x4F560000) ∷ Some Ecall ∷ []
  pub resume_third : map instruction resume_third ≡ Some (Addi 5 0 (pos 3)) ∷ Some (Lui 17 0x4F560000) ∷ Some Ecall ∷ []
  pub exit : map instruction exit_words ≡ Some (Lui 17 0x4F560000) ∷ Some (Addi 17 17 (pos 7)) ∷ Some Ecall ∷ []
  pub share : map instruction share_words ≡
      Some Ecall ∷ Some (Beq 10 0 (pos 8)) ∷ Some (Sw 2 10 (pos 0)) ∷ Some (Lw 11 2 (pos 0)) ∷ []
