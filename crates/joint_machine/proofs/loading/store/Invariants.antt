use Rattle.joint_machine.proofs.Loaded.{StoresFrom}
use Rattle.joint_machine.proofs.loading.store.Given as goal

abbrev pub invariant-loop-i : goal.invariant-loop-i
invariant-loop-i l = StoresFrom l.fn.pager l.pager l.address l.i l.bytes
