use Rattle.std.proofs.Common.{length}
use Rattle.joint_machine.proofs.Loaded.{StoresBack}
use Rattle.joint_machine.proofs.loading.store_segment.Given as goal

abbrev pub invariant-loop-pager : goal.invariant-loop-pager
invariant-loop-pager l = StoresBack l.fn.pager l.pager l.address l.bytes.items l.fn.segment.address l.fn.segment.bytes

abbrev pub decreases-loop-pager : goal.decreases-loop-pager
decreases-loop-pager l = length l.bytes.items
