-- What the places end as, once a `&mut` into them has ended.
use Rattle.std.specs.Prelude.{ℕ, List, slice_set}
use Rattle.std.specs.Borrow.{Fml, RattleType, MutBor, Lends}
use Rattle.chain_arena.specs.declared.cells.Cells.{Cells}
use Rattle.chain_arena.specs.contracts.cells.Cells.{the_row}

abbrev pub with_values : {X : Type 0} → Cells X → List X → Cells X
with_values c xs = record c { values = xs }

-- the value at the index is the last one written through r
abbrev pub LendsValue : (R : RattleType) → MutBor (Cells R.Denot) → ℕ → MutBor R.Denot → Fml
LendsValue R c i r = Lends (the_row R) R c r (λ w. with_values c.now (slice_set c.now.values i w))
