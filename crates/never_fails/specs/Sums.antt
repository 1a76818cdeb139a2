-- How many bytes there were, and their digest.
use Rattle.std.specs.Prelude.{◌≡◌, ℕ, ◌-◌, ◌^◌, min, List, length}
use Rattle.sha2.specs.Hashers.{Holds256}
use Rattle.never_fails.specs.declared.sum.Sum.{Sum}

-- a count that stands at its last value stays there
abbrev pub counted : List ℕ → ℕ
counted bytes = min (length bytes) (2 ^ 64 - 1)

-- these bytes were taken
pub record Sums (s : Sum) (bytes : List ℕ) : Type 0 where
  pub digest : Holds256 s.hasher bytes
  pub count : s.count ≡ counted bytes
