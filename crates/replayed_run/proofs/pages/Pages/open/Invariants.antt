use Rattle.std.proofs.Common.{◌≡◌}
use Rattle.replayed_run.specs.PagesTold as spec
use Rattle.replayed_run.specs.PagesTold.{pages_of}
use Rattle.replayed_run.proofs.pages.Pages.open.Given as goal

-- the pages of the programs so far stand in their frames
abbrev pub invariant-loop-number : goal.invariant-loop-number
invariant-loop-number l = pages_of l.pages ≡ spec.programs_placed l.programs l.number (spec.no_pages l.fn.frames)
