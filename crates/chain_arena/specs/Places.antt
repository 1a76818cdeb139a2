-- What a block has in its places, and whose it is.
use Rattle.std.specs.Prelude.{◌≡◌, ℕ, List}
use denote.RawPtr.{Ptr}
use Rattle.chain_arena.specs.declared.cells.Cells.{Cells}
use Rattle.chain_arena.specs.declared.cells.BlockRight.{BlockRight}

-- n places from p on, with the values xs in the first ones
abbrev pub HasPlaces : {X : Type 0} → Cells X → Ptr → ℕ → List X → Type 0
HasPlaces c p n xs = (c.at ≡ p) × (c.places ≡ n) × (c.values ≡ xs)

-- the right to give the block of n places at p back to the allocator a
abbrev pub IsDeedOf : {X A : Type 0} → BlockRight X A → Ptr → ℕ → A → Type 0
IsDeedOf d p n a = (d.at ≡ p) × (d.places ≡ n) × (d.alloc ≡ a)
