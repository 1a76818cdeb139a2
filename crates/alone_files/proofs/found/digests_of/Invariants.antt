use Rattle.std.proofs.Common.{◌≡◌, ◌<◌, ◌≤◌, ℕ, [], length, slice_index_or, vec_capacity}
use Rattle.sha2.specs.Sha256.{sha256}
use Rattle.cloak_model.specs.HostCalls.{block_at}
use Rattle.alone_files.proofs.found.digests_of.Given as goal

-- the digests of the blocks so far, with room for those of all
abbrev pub invariant-loop-block : goal.invariant-loop-block
invariant-loop-block l = record {
  room : l.count ≤ vec_capacity l.digests;
  so_far : length l.digests.items ≡ l.block;
  each : (k : ℕ) → k < l.block → slice_index_or l.digests.items k [] ≡ sha256 (block_at l.disk k);
}
