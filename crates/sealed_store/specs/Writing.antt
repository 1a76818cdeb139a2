-- What a room holds after a write.
use Rattle.std.specs.Prelude.{ℕ, ◌≡◌, ◌+◌, List, ◌++◌, length, take, drop}

-- These bytes stand after the first `at` bytes of a room, up to `end`, and all else stays.
pub record IsWrittenAt (old : List ℕ) (at : ℕ) (bytes new : List ℕ) (end : ℕ) : Type 0 where
  pub ends : end ≡ at + length bytes
  pub room : new ≡ take at old ++ (bytes ++ drop end old)
