use Rattle.std.proofs.Common.{take}
use Rattle.std.specs.List.{AllByRecursion}
use Rattle.cloak_model.specs.declared.image.Segment.{Segment}
use Rattle.range_law.specs.Writing.{AreBytes}
use Rattle.run_command.proofs.prepare.segments_are_bytes.Given as goal

abbrev pub invariant-loop-segment : goal.invariant-loop-segment
invariant-loop-segment l = AllByRecursion (λ (x : Segment). AreBytes x.bytes) (take l.segment-index l.segments)
