-- Where the parts of a file stand in it.
use Rattle.std.specs.Prelude.{ℕ, ◌≡◌, ◌+◌, ◌-◌, ◌≤◌, Bool, List, [], ◌∷◌, take, drop, if◌then◌else◌}
use Rattle.cloak_model.specs.declared.image.Segment.{Segment}
use Rattle.cloak_model.specs.declared.image.Program.{Program}
use Rattle.guest_bundle.specs.declared.parts.SegmentPlace.{SegmentPlace}
use Rattle.guest_bundle.specs.declared.parts.ProgramPlace.{ProgramPlace}

-- the bytes from one offset to another
abbrev pub bytes_between : List ℕ → ℕ → ℕ → List ℕ
bytes_between file from to = take (to - from) (drop from file)

abbrev pub segment_of : List ℕ → SegmentPlace → Segment
segment_of file p = record { address = p.address; bytes = bytes_between file p.from p.to }

abbrev pub program_of : List ℕ → ProgramPlace → Program
program_of file p =
    record { place = p.place; start = p.start; key = p.key; bytes = bytes_between file p.from p.to }

-- a part whose fields begin at an offset of a file of `size` bytes
pub record IsSegmentPlace (size at : ℕ) (p : SegmentPlace) : Type 0 where
  pub from : p.from ≡ at + 8
  pub order : p.from ≤ p.to
  pub within : p.to ≤ size

-- how many bytes the number of a key takes, in a file with keys and without
abbrev pub key_size : Bool → ℕ
key_size keys = if keys then 4 else 0

pub record IsProgramPlace (keys : Bool) (size at : ℕ) (p : ProgramPlace) : Type 0 where
  pub from : p.from ≡ at + 20 + key_size keys
  pub order : p.from ≤ p.to
  pub within : p.to ≤ size

-- parts that stand one after the other between two offsets, by where each begins and ends
abbrev pub LieBetween : {X : Type 0} → (X → ℕ) → (X → ℕ) → ℕ → List X → ℕ → Type 0
LieBetween from to low [] high = low ≤ high
LieBetween from to low (p ∷ ps) high = (low ≤ from p) × (from p ≤ to p) × LieBetween from to (to p) ps high

abbrev pub AreSegmentPlaces : ℕ → List SegmentPlace → ℕ → Type 0
AreSegmentPlaces low ps high = LieBetween (λ (p : SegmentPlace). p.from) (λ (p : SegmentPlace). p.to) low ps high

abbrev pub AreProgramPlaces : ℕ → List ProgramPlace → ℕ → Type 0
AreProgramPlaces low ps high = LieBetween (λ (p : ProgramPlace). p.from) (λ (p : ProgramPlace). p.to) low ps high
