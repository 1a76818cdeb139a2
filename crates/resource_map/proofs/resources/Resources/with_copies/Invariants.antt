use Rattle.std.proofs.Common.{◌≡◌, drop, length}
use Rattle.cloak_model.specs.Fork.{with_copies}
use Rattle.resource_map.proofs.resources.Resources.with_copies.Given as goal

-- what the copies that are left make of these numbers
abbrev pub invariant-loop-from : goal.invariant-loop-from
invariant-loop-from l = (with_copies l.space l.held (drop l.from-index l.copies) l.self ≡ with_copies l.space l.self.held l.copies l.self) × (length l.held ≡ 16)
