-- The digests of the blocks of a disk.
use Rattle.std.specs.Prelude.{ℕ, ◌≡◌, ◌≢◌, ◌<◌, ◌/◌, List, [], length, slice_index_or, Option, Some, None}
use Rattle.sha2.specs.Sha256.{sha256}
use Rattle.cloak_model.specs.HostCalls.{block_at}

-- one of each block
pub record AreDigests (disk : List ℕ) (digests : List (List ℕ)) : Type 0 where
  pub count : length digests ≡ length disk / 4096
  pub each : (k : ℕ) → k < length digests → slice_index_or digests k [] ≡ sha256 (block_at disk k)

-- the first place of a digest, if it has one
abbrev pub IsFirstDigest : List (List ℕ) → List ℕ → Option ℕ → Type 0
IsFirstDigest digests digest None = (k : ℕ) → k < length digests → slice_index_or digests k [] ≢ digest
IsFirstDigest digests digest (Some at) =
    (at < length digests) × ((slice_index_or digests at [] ≡ digest)
    × ((k : ℕ) → k < at → slice_index_or digests k [] ≢ digest))
