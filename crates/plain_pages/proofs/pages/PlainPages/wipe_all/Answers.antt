use Rattle.std.proofs.Common.{ap}
use Rattle.plain_pages.specs.Places.{pages_to}
use Rattle.plain_pages.proofs.pages.PlainPages.wipe_all.Goals as goal

pub returns : goal.returns
returns c = ap (λ kept. pages_to kept 16384) c.clear.ensures.items
