use Rattle.std.proofs.Common.{◌≡◌}
use Rattle.replayed_run.specs.PagesTold as spec
use Rattle.replayed_run.specs.PagesTold.{pages_of}
use Rattle.replayed_run.proofs.pages.Pages.place.Given as goal

-- the pages so far stand in their frames
abbrev pub invariant-loop-number : goal.invariant-loop-number
invariant-loop-number l =
    pages_of l.self ≡ spec.pages_placed l.domain l.program.place l.number (pages_of l.fn.self)
