use Rattle.std.proofs.Common.{◌≡◌, drop}
use Rattle.cloak_model.specs.Fork.{copy_of}
use Rattle.resource_map.proofs.copying.copy_of.Given as goal

-- none so far is a copy of this resource
abbrev pub invariant-loop-from : goal.invariant-loop-from
invariant-loop-from l = copy_of (drop l.from-index l.copies) l.n ≡ copy_of l.copies l.n
