use Rattle.std.proofs.Common.{arith}
use Rattle.chain_arena.proofs.Counts.{few_lying}
use Rattle.multi_shadow.specs.Recent.{places}
use Rattle.multi_shadow.proofs.shadows.Shadows.is_full.Goals as goal

pub overflow_add-result : goal.overflow_add-result
overflow_add-result c =
    let s = c.self.inside in let slots = c.self.invariant.slots in
    let recent = few_lying (places s.recent) in let count = c.count.ensures in
    let placed = few_lying s.arena.payloads in let used = c.used.ensures in
    omega (arith, recent, count, placed, used, slots)
