use Rattle.std.proofs.Common.{length}
use Rattle.joint_machine.proofs.Loaded.{LoadsBack}
use Rattle.joint_machine.proofs.loading.load.Given as goal

abbrev pub invariant-loop-segment : goal.invariant-loop-segment
invariant-loop-segment l = LoadsBack l.frames l.initial.pager l.pager l.segments.items l.fn.k.segments

abbrev pub decreases-loop-segment : goal.decreases-loop-segment
decreases-loop-segment l = length l.segments.items
