-- What holds of the fields of a block.
use Rattle.std.specs.Prelude.{◌≡◌, length}
use Rattle.chain_arena.specs.Places.{HasPlaces, IsDeedOf}
use Rattle.chain_arena.specs.declared.block.Block.TheInside.{Inside}

-- each of its places holds a value
pub record IsBlock {N : Type 0} (b : Inside N) : Type 0 where
  pub cells : HasPlaces b.cells b.base.ptr b.count b.cells.values
  pub deed : IsDeedOf b.deed b.base.ptr b.count b.alloc
  pub full : length b.cells.values ≡ b.count
