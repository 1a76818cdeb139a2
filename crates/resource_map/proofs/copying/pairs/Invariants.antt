use Rattle.std.proofs.Common.{◌≡◌, ◌≤◌, take, length}
use Rattle.std.specs.Prelude.{zip}
use Rattle.resource_map.proofs.copying.pairs.Given as goal

-- the pairs so far
abbrev pub invariant-loop-from : goal.invariant-loop-from
invariant-loop-from l = (l.list.items ≡ take (length l.yielded) (zip l.froms l.tos)) × (length l.list.items ≤ length l.yielded)
