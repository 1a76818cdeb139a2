use Rattle.std.proofs.Common.{◌≢◌, ◌<◌, ℕ, [], slice_index_or}
use Rattle.alone_files.proofs.found.find_digest.Given as goal

-- none of the digests so far is it
abbrev pub invariant-loop-at : goal.invariant-loop-at
invariant-loop-at l = (k : ℕ) → k < l.at → slice_index_or l.digests k [] ≢ l.digest
