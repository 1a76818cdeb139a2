use Rattle.std.proofs.Common.{replicate}
use Rattle.chain_arena.specs.Places.{HasPlaces}
use Rattle.chain_arena.proofs.block.Block.open.Given as goal

abbrev pub invariant-loop-i : goal.invariant-loop-i
invariant-loop-i g l = HasPlaces l.cells l.base.ptr l.count (replicate l.i l.fill)
