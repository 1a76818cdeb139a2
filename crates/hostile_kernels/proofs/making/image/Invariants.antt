use Rattle.std.proofs.Common.{◌≡◌, take}
use Rattle.std.specs.Prelude.{map}
use Rattle.hostile_kernels.specs.Parts.{segment_of, guest_of}
use Rattle.hostile_kernels.proofs.making.image.Given as goal

-- the segments so far
abbrev pub invariant-loop-words : goal.invariant-loop-words
invariant-loop-words l = l.segments.items ≡ map segment_of (take l.words-index l.draft.segments.now)

-- the programs so far
abbrev pub invariant-loop-guest : goal.invariant-loop-guest
invariant-loop-guest l = l.programs.items ≡ map guest_of (take l.guest-index l.draft.programs.now)
