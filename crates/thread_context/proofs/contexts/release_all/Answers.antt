use Rattle.std.proofs.Common.{◌∙◌, arith}
use Rattle.thread_context.proofs.Reserving.{mapped_below-put, mapped_below-all}
use Rattle.thread_context.proofs.contexts.release_all.Goals as goal

pub loop-slot-preserved : goal.loop-slot-preserved
loop-slot-preserved c = mapped_below-put _ c.loop-slot.slot-index _ c.loop-slot.slots c.slot-item.result _ (omega arith) c.loop-slot.invariant c.release.ensures

pub returns : goal.returns
returns c = c.loop-slot.invariant ∙ mapped_below-all _ c.loop-slot.slot-index c.args.slots.now (omega arith)
