use Rattle.std.proofs.Common.{refl}
use Rattle.io_traits.proofs.memory_sink.MemorySinkSink.flush.Goals as goal

pub returns-then-is_next_to_fail-clause-listed : goal.returns-then-is_next_to_fail-clause-listed
returns-then-is_next_to_fail-clause-listed c = (
  λ failed. rw (← c.self.view_is, ← c.is_next_to_fail.ensures.calls)
      (c.is_next_to_fail.ensures.listed.0 c.if-is_next_to_fail.true),
  λ listed. refl,
)
