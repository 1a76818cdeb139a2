-- What a pager ends as, once a frame that it lent to be read is given back.
use Rattle.std.specs.Borrow.{MutBor, Fml}
use Rattle.std.specs.Io.BufRead.{Rests}
use Rattle.cloak_pager.specs.State.{PagerState}
use Rattle.cloak_pager.specs.Turns.{IsReadOnce}
use Rattle.cloak_pager.specs.contracts.pager.Pager.{the_row}

-- pager s ends with one read more, and all else as it was
abbrev pub CountsRead : MutBor PagerState → Fml
CountsRead s = Rests the_row s (λ after. IsReadOnce s.now after)
