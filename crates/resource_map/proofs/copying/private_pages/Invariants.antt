use Rattle.std.proofs.Common.{◌≡◌, ◌≤◌, ◌*◌, take, filter, sum_by}
use Rattle.cloak_model.specs.Resources.{pages_of, is_private_to}
use Rattle.resource_map.proofs.copying.private_pages.Given as goal

-- the pages so far
abbrev pub invariant-loop-one : goal.invariant-loop-one
invariant-loop-one l = (l.sum ≡ sum_by pages_of (filter (is_private_to l.space) (take l.one-index l.held))) × (l.sum ≤ l.one-index * 4294967295)
