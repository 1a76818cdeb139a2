use Rattle.std.proofs.Common.{◌≡◌, drop, length}
use Rattle.cloak_model.specs.Opening.{with_segments}
use Rattle.cloak_model.specs.Memory.{zero_ram}
use Rattle.alone_views.proofs.kernel_ram.load_segments.Given as goal

abbrev pub invariant-loop-made : goal.invariant-loop-made
invariant-loop-made l = l.frames.items ≡ zero_ram l.made

-- what is left of the segments, stored after those that are stored already
abbrev pub invariant-loop-segment : goal.invariant-loop-segment
invariant-loop-segment l = record {
  count : length l.frames.items ≡ l.fn.count;
  stored : with_segments l.frames.items (drop l.segment-index l.segments)
      ≡ with_segments (zero_ram l.fn.count) l.segments;
}
