use Rattle.std.proofs.Common.{IsOk, List, ℕ, length, ap, arith}
use Rattle.io_traits.proofs.memory_sink.MemorySinkSink.put.Goals.{then-is_next_to_fail-via-then-is_next_to_fail}
use Rattle.io_traits.proofs.memory_sink.MemorySinkSink.put.Goals.{then-is_next_to_fail-via-else-is_next_to_fail+then-is_err}
use Rattle.io_traits.proofs.memory_sink.MemorySinkSink.put.Goals as goal

pub returns-then-is_next_to_fail-clause-empty : goal.returns-then-is_next_to_fail-clause-empty
returns-then-is_next_to_fail-clause-empty c = λ none failed. elim c.then-is_next_to_fail.branch [
  | then-is_next_to_fail-via-then-is_next_to_fail w ↦
      rw (← c.self.view_is, ← c.is_next_to_fail.ensures.calls)
      (c.is_next_to_fail.ensures.listed.0 w.if-is_next_to_fail.true)
  | then-is_next_to_fail-via-else-is_next_to_fail+then-is_err w ↦
      let room = c.self.inside.bytes.ok.0 in
      let few = ap (λ (l : List ℕ). length l) none in
      let ok : IsOk w.extend_from_slice.result = w.extend_from_slice.ensures.succeeds (omega (arith, room, few)) in
      absurd (grind (arith, ok, w.is_err.ensures.negation))
]
