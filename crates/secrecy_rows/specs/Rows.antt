-- Programs with a secret word, and what is public of their runs under a blind seal.
use Rattle.std.specs.Prelude.{ℕ, ◌≡◌, ◌≢◌, ◌+◌, ◌%◌, ◌^◌, List, [], ◌∷◌, ◌++◌, length, take, drop, replicate, Option, Some, None, Result, Ok, Err}
use Rattle.std.specs.List.{flat_map}
use Rattle.std.specs.Result.{result_map_both}
use Rattle.cloak_base.specs.Random.{Random, handed}
use Rattle.cloak_base.specs.Registers.{register}
use Rattle.cloak_base.specs.declared.names.Start.{Start}
use Rattle.cloak_model.specs.declared.image.KernelImage.{KernelImage}
use Rattle.cloak_model.specs.declared.image.Program.{Program}
use Rattle.cloak_model.specs.declared.image.Bundle.{Bundle}
use Rattle.cloak_model.specs.Bits.{word}
use Rattle.cloak_model.specs.Sealing.{Sealing, Padded}
use Rattle.cloak_model.specs.Opening.{Lack, RunEdge, key_count, numbers_below}
use Rattle.cloak_model.specs.Beginning.{Beginning, Fresh}
use Rattle.cloak_model.specs.Contexts.{Context, context_at}
use Rattle.cloak_model.specs.DomainState.{Domain}
use Rattle.cloak_model.specs.Parts.{Joint}
use Rattle.cloak_model.specs.Joint.{Moment}
use Rattle.cloak_model.specs.Items.{Item}
use Rattle.cloak_model.specs.Shape.{Shape}
use Rattle.cloak_model.specs.Run.{Run, first_moment, run_outward_half}
use Rattle.cloak_model.specs.BlindRuns.{PublicEnd, moment_on, shape_of_step}
use Rattle.cloak_model.specs.SealedRuns.{opening_under, run_under, public_of, ImagesAreAlike, BeginAlike}

-- The kernel sets its trap vector to the word after this, and resumes context 0. Once it is trapped to it halts.
abbrev pub kernel_words : List ℕ
kernel_words =
    0x00000317 ∷  -- auipc x6, 0
    0x01430313 ∷  -- addi x6, x6, 20
    0x10531073 ∷  -- csrrw x0, stvec, x6
    0x4F5608B7 ∷  -- lui x17, 0x4F560
    0x00000073 ∷  -- ecall
    0x00400893 ∷  -- addi x17, x0, 4
    0x00000073 ∷  -- ecall
    []

-- The program loads its secret word, adds 1 to it, stores it, and ends.
abbrev pub adding : List ℕ
adding =
    0x00012503 ∷  -- lw x10, 0(x2)
    0x00150513 ∷  -- addi x10, x10, 1
    0x00A12023 ∷  -- sw x10, 0(x2)
    0x4F5608B7 ∷  -- lui x17, 0x4F560
    0x00788893 ∷  -- addi x17, x17, 7
    0x00000073 ∷  -- ecall
    []

-- The program loads its secret word, and calls the kernel unless it is 0.
abbrev pub asking : List ℕ
asking =
    0x4F5608B7 ∷  -- lui x17, 0x4F560
    0x00888893 ∷  -- addi x17, x17, 8
    0x00012503 ∷  -- lw x10, 0(x2)
    0x00050463 ∷  -- beq x10, x0, 8
    0x00000073 ∷  -- ecall
    0x00000013 ∷  -- addi x0, x0, 0
    []

-- these words, zeros, and the secret word at 0x100
abbrev pub secret_page : List ℕ → ℕ → List ℕ
secret_page words s = flat_map word words ++ (replicate 232 0 ++ (word s ++ replicate 3836 0))

abbrev pub image_of : List ℕ → ℕ → Bundle
image_of words s = record {
  kernel = record {
    frames = 16;
    harts = 1;
    schedule = 0 ∷ [];
    entry = 0x80000000;
    segments = record { address = 0x80000000; bytes = flat_map word kernel_words } ∷ [];
    disk = [];
  };
  programs = record {
    place = 8;
    start = record { pages = 1; base = 0x80008000; entry = 0x80008000; sp = 0x80008100 };
    key = 0;
    bytes = secret_page words s;
  } ∷ [];
}

-- the bytes 0, 1, 2, .., 255
abbrev pub stream : Random
stream = handed (numbers_below 256)

-- the draws after the key, and a page for each: one of a few bytes, so that rows are short
abbrev pub pads : List (List ℕ × List ℕ)
pads =
    (16 ∷ 17 ∷ 18 ∷ 19 ∷ 20 ∷ 21 ∷ 22 ∷ 23 ∷ 24 ∷ 25 ∷ 26 ∷ 27 ∷ 28 ∷ 29 ∷ 30 ∷ 31 ∷ [], 200 ∷ 201 ∷ [])
    ∷ (32 ∷ 33 ∷ 34 ∷ 35 ∷ 36 ∷ 37 ∷ 38 ∷ 39 ∷ 40 ∷ 41 ∷ 42 ∷ 43 ∷ 44 ∷ 45 ∷ 46 ∷ 47 ∷ [], 202 ∷ 203 ∷ [])
    ∷ []

abbrev pub blind_seal : Sealing
blind_seal = Padded pads

-- The first program keeps its secret: whatever the word is, its run shows the same.
abbrev pub SecretIsKept : Type 0
SecretIsKept =
    (s s' : ℕ) → public_of (run_under blind_seal (image_of adding s) (Fresh stream) 13) ≡ public_of (run_under blind_seal (image_of adding s') (Fresh stream) 13)

-- where a run begins
abbrev pub edge_moment : Bundle → Result RunEdge Lack → Option Moment
edge_moment b (Ok o) = Some (first_moment b o.joint)
edge_moment b (Err lack) = None

abbrev pub begun : List ℕ → ℕ → Option Moment
begun words s = edge_moment (image_of words s) (opening_under blind_seal (image_of words s) (Fresh stream))

-- the register x10 of the program's context after so many steps
abbrev pub context_register : Option Context → ℕ
context_register None = 0
context_register (Some c) = register c.regs 10

abbrev pub held_in : List Domain → ℕ
held_in [] = 0
held_in (d ∷ ds) = context_register (context_at d.control.contexts 0)

abbrev pub held_after : ℕ → Option Moment → ℕ
held_after n None = 0
held_after n (Some m) = held_in (moment_on n m).joint.domains

-- That run is there, and the program has its word and adds to it: after seven steps x10 is the word's successor.
abbrev pub SecretIsThere : Type 0
SecretIsThere = (held_after 7 (begun adding 5) ≡ 6) × (held_after 7 (begun adding 77) ≡ 78)

-- the shape of a step
abbrev pub shape_after : ℕ → Option Moment → Option (Shape PublicEnd)
shape_after n None = None
shape_after n (Some m) = shape_of_step (moment_on n m)

-- what the kernel could see of a run
abbrev pub outward_of : Result Run Lack → Result (List Item) Lack
outward_of r = result_map_both run_outward_half (λ lack. lack) r

-- The second program does not: the kernel's half of its runs differs. In the law it is the premise that fails: the tenth
-- step has two shapes.
pub record SecretIsTold : Type 0 where
  pub halves : outward_of (run_under blind_seal (image_of asking 0) (Fresh stream) 10) ≢ outward_of (run_under blind_seal (image_of asking 1) (Fresh stream) 10)
  pub shapes : shape_after 9 (begun asking 0) ≢ shape_after 9 (begun asking 1)

-- So the law does not hold without its premise on shapes.
abbrev pub PremiseIsNeeded : Type 0
PremiseIsNeeded =
    ((rows : List (List ℕ × List ℕ)) (b b' : Bundle) (from from' : Beginning) (budget : ℕ) → ImagesAreAlike b b' →
    BeginAlike (key_count b.programs) from from' →
    public_of (run_under (Padded rows) b from budget) ≡ public_of (run_under (Padded rows) b' from' budget)) → ⊥
