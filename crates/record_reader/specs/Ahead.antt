-- Bytes of a file that were read ahead.
use Rattle.std.specs.Prelude.{◌≡◌, ℕ, ◌-◌, ◌^◌, ◌≤◌, ◌⊎◌, nat_lt, List, [], ◌∷◌, length, take, drop, Option, Some, None, IfSome, if◌then◌else◌}
use Rattle.cloak_model.specs.declared.record.Tag.{Tag}
use Rattle.cloak_model.specs.declared.record.Tag.TheVariants as tag
use Rattle.cloak_model.specs.RecordFault.{tag_of}
use Rattle.record_reader.specs.declared.ahead.Ahead.{Ahead}

-- offset 2^64 - 1 counts as the end of a longer file
abbrev pub readable : List ℕ → List ℕ
readable bytes = take (2 ^ 64 - 1) bytes

-- these bytes stand in a file from an offset on
abbrev pub StandAt : List ℕ → ℕ → List ℕ → Type 0
StandAt file at bytes = bytes ≡ take (length bytes) (drop at file)

abbrev pub read_ahead : Ahead → List ℕ
read_ahead ahead = take ahead.count ahead.bytes

-- what was read ahead stands in this file
abbrev pub IsAhead : Ahead → List ℕ → Type 0
IsAhead ahead file = StandAt file ahead.start (read_ahead ahead)

-- what was read ahead, from an offset of the file on
abbrev pub ahead_from : ℕ → Ahead → List ℕ
ahead_from at ahead = if nat_lt at ahead.start then [] else drop (at - ahead.start) (read_ahead ahead)

-- the tag at the front of some bytes
abbrev pub front_tag : List ℕ → Option Tag
front_tag [] = None
front_tag (b ∷ fields) = tag_of b

-- n bytes have the whole item that they begin with: a Cipher has 4101, no other more than 41
abbrev pub HasWhole : ℕ → List ℕ → Type 0
HasWhole n bytes = (41 ≤ n) × (front_tag bytes ≡ Some tag.Cipher → 4101 ≤ n)

-- n bytes from an offset of a file on are all that there are, or as many as an item has
abbrev pub IsEnough : List ℕ → ℕ → ℕ → Type 0
IsEnough file at n = (n ≡ length (drop at file)) ⊎ HasWhole n (drop at file)

-- Bytes of a file from an offset on: all that there are, or as many as an item has.
pub record IsWindow (file : List ℕ) (at : ℕ) (bytes : List ℕ) : Type 0 where
  pub stand : StandAt file at bytes
  pub enough : IsEnough file at (length bytes)

-- n bytes from an offset of a file on stand at the front of a buffer.
pub record IsFilled (file : List ℕ) (at n : ℕ) (buffer : List ℕ) : Type 0 where
  pub within : n ≤ length (drop at file)
  pub copied : take n buffer ≡ take n (drop at file)
  pub enough : IsEnough file at n

-- what is true of a file that is told, and in which stands what was read ahead
abbrev pub OfFile : Option (List ℕ) → Ahead → (List ℕ → Type 0) → Type 0
OfFile told ahead P = IfSome told (λ bytes. IsAhead ahead (readable bytes) → P (readable bytes))
