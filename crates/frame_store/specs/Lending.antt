-- What a store ends as, once the bytes of a frame that it lent are given back.
use Rattle.std.specs.Prelude.{ℕ, List, slice_set}
use Rattle.std.specs.Borrow.{Lends, MutBor, Fml, u8, Array}
use Rattle.frame_store.specs.contracts.rights.store.FrameStore.{the_row}

-- store s ends with frame f set to the last bytes behind r
abbrev pub LendsFrameBytes : MutBor (List (List ℕ)) → ℕ → MutBor (List ℕ) → Fml
LendsFrameBytes s f r = Lends the_row (Array u8 4096) s r (λ w. slice_set s.now f w)
