-- Guest images of the rows: words in their order, each with its instruction beside it.
use Rattle.std.specs.Prelude.{ℕ, List, [], ◌∷◌, ◌++◌, replicate, take}
use Rattle.std.specs.List.{flat_map}
use Rattle.cloak_base.specs.declared.names.Start.{Start}
use Rattle.cloak_model.specs.Bits.{word}
use Rattle.cloak_model.specs.declared.image.KernelImage.{KernelImage}
use Rattle.cloak_model.specs.declared.image.Program.{Program}
use Rattle.cloak_model.specs.declared.image.Bundle.{Bundle}

-- The kernel sets its trap vector to the word after this, and resumes context 0.
abbrev pub boot : List ℕ
boot =
    0x00000317 ∷  -- auipc x6, 0
    0x01430313 ∷  -- addi x6, x6, 20
    0x10531073 ∷  -- csrrw x0, stvec, x6
    0x4F5608B7 ∷  -- lui x17, 0x4F560
    0x00000073 ∷  -- ecall
    []

-- it halts with x10
abbrev pub halt : List ℕ
halt =
    0x00400893 ∷  -- addi x17, x0, 4
    0x00000073 ∷  -- ecall
    []

-- The program stores 7, loads it again, and makes call 9 with it.
abbrev pub program_words : List ℕ
program_words =
    0x00700513 ∷  -- addi x10, x0, 7
    0x00A12023 ∷  -- sw x10, 0(x2)
    0x00012583 ∷  -- lw x11, 0(x2)
    0x00900813 ∷  -- addi x16, x0, 9
    0x4F5608B7 ∷  -- lui x17, 0x4F560
    0x00888893 ∷  -- addi x17, x17, 8
    0x00000073 ∷  -- ecall
    []

-- A kernel alone: it shows an A and halts with 0.
abbrev pub letter_words : List ℕ
letter_words =
    0x04100513 ∷  -- addi x10, x0, 65
    0x00000073 ∷  -- ecall
    0x00400893 ∷  -- addi x17, x0, 4
    0x00000073 ∷  -- ecall
    []

-- It flips the lowest bit of a word of the program's frame and resumes context 0.
abbrev pub flip_and_resume : List ℕ
flip_and_resume =
    0x00008317 ∷  -- auipc x6, 8
    0x00032383 ∷  -- lw x7, 0(x6)
    0x0013C393 ∷  -- xori x7, x7, 1
    0x00732023 ∷  -- sw x7, 0(x6)
    0x4F5608B7 ∷  -- lui x17, 0x4F560
    0x00000073 ∷  -- ecall
    []

-- The same without the store.
abbrev pub look_and_resume : List ℕ
look_and_resume =
    0x00008317 ∷  -- auipc x6, 8
    0x00032383 ∷  -- lw x7, 0(x6)
    0x0013C393 ∷  -- xori x7, x7, 1
    0x00000013 ∷  -- addi x0, x0, 0
    0x4F5608B7 ∷  -- lui x17, 0x4F560
    0x00000073 ∷  -- ecall
    []

-- It sets satp to 0x00400000 and resumes context 0.
abbrev pub remap_and_resume : List ℕ
remap_and_resume =
    0x00400337 ∷  -- lui x6, 0x400
    0x18031073 ∷  -- csrrw x0, satp, x6
    0x4F5608B7 ∷  -- lui x17, 0x4F560
    0x00000073 ∷  -- ecall
    []

-- It resumes context 0.
abbrev pub resume_words : List ℕ
resume_words =
    0x4F5608B7 ∷  -- lui x17, 0x4F560
    0x00000073 ∷  -- ecall
    []

-- It resumes context 3.
abbrev pub resume_third : List ℕ
resume_third =
    0x00300293 ∷  -- addi x5, x0, 3
    0x4F5608B7 ∷  -- lui x17, 0x4F560
    0x00000073 ∷  -- ecall
    []

-- The program ends.
abbrev pub exit_words : List ℕ
exit_words =
    0x4F5608B7 ∷  -- lui x17, 0x4F560
    0x00788893 ∷  -- addi x17, x17, 7
    0x00000073 ∷  -- ecall
    []

-- A program forks. After that the parent, whose answer is not 0, stores its answer, and the child loads a word.
abbrev pub share_words : List ℕ
share_words =
    0x00000073 ∷  -- ecall
    0x00050463 ∷  -- beq x10, x0, 8
    0x00A12023 ∷  -- sw x10, 0(x2)
    0x00012583 ∷  -- lw x11, 0(x2)
    []

-- a page that begins with these words
abbrev pub page_with : List ℕ → List ℕ
page_with words = take 4096 (flat_map word words ++ replicate 4096 0)

abbrev pub words_page : List ℕ
words_page = page_with program_words

-- 64 frames, and these words from the beginning of RAM on
abbrev pub kernel_of : ℕ → List ℕ → List ℕ → KernelImage
kernel_of harts schedule words = record {
  frames = 64;
  harts = harts;
  schedule = schedule;
  entry = 0x80000000;
  segments = record { address = 0x80000000; bytes = flat_map word words } ∷ [];
  disk = [];
}

-- one page at the address that its frame 8 has, with a stack in the page
abbrev pub program_start : Start
program_start = record { pages = 1; base = 0x80008000; entry = 0x80008000; sp = 0x80008100 }

-- a program of this page, under the key of this number
abbrev pub keyed_program : ℕ → List ℕ → Program
keyed_program number page = record { place = 8; start = program_start; key = number; bytes = page }

-- the same under key 0
abbrev pub program_of : List ℕ → Program
program_of page = keyed_program 0 page

-- a kernel of these words, and a program whose page begins with those
abbrev pub image_of : ℕ → List ℕ → List ℕ → List ℕ → Bundle
image_of harts schedule words program =
    record { kernel = kernel_of harts schedule words; programs = program_of (page_with program) ∷ [] }

-- one hart, and the program above under the key of this number
abbrev pub keyed_image : ℕ → List ℕ → Bundle
keyed_image number words = record { kernel = kernel_of 1 (0 ∷ []) words; programs = keyed_program number words_page ∷ [] }

-- the same under key 0
abbrev pub image : List ℕ → Bundle
image words = keyed_image 0 words

-- a kernel alone
abbrev pub lone_image : List ℕ → Bundle
lone_image words = record { kernel = kernel_of 1 (0 ∷ []) words; programs = [] }
