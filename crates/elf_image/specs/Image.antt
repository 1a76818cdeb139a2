-- What an ELF file puts into memory.
use Rattle.std.specs.Prelude.{ℕ, ◌+◌, ◌^◌, ◌<◌, ◌≤◌, List, length, All, AllPairs}

-- a part of memory: its address, the bytes of the file, and how many bytes it has, of which the others are zeros
pub record Part : Type 0 where
  pub address : ℕ
  pub bytes : List ℕ
  pub size : ℕ

-- the address of the first instruction, and the parts
pub record Image : Type 0 where
  pub entry : ℕ
  pub parts : List Part

-- A part has bytes in memory, no more of them in the file, and lies in the address space.
pub record IsPart (p : Part) : Type 0 where
  pub some : 1 ≤ p.size
  pub bytes : length p.bytes ≤ p.size
  pub end : p.address + p.size ≤ 2 ^ 32

-- an address of a part
abbrev pub IsIn : ℕ → Part → Type 0
IsIn address p = (p.address ≤ address) × (address < p.address + p.size)

-- No address is in both.
abbrev pub AreApart : Part → Part → Type 0
AreApart a b = (address : ℕ) → IsIn address a → IsIn address b → ⊥

pub record IsImage (image : Image) : Type 0 where
  pub some : 1 ≤ length image.parts
  pub few : length image.parts ≤ 16
  pub each : All IsPart image.parts
  pub apart : AllPairs AreApart image.parts
