use Rattle.std.proofs.Common.{◌≡◌, ◌≤◌, Bool, take, length}
use Rattle.cloak_model.specs.Fork.{places}
use Rattle.resource_map.proofs.copying.numbers.Given as goal

-- the marked numbers so far
abbrev pub invariant-loop-n : goal.invariant-loop-n
invariant-loop-n l = (l.list.items ≡ places (λ (mark : Bool). mark) 0 (take l.n l.marks)) × (length l.list.items ≤ l.n)
