use Rattle.std.proofs.Common.{◌≡◌}
use Rattle.cloak_model.specs.Opening.{started_harts}
use Rattle.alone_views.proofs.kernel_starting.start_harts.Given as goal

abbrev pub invariant-loop-number : goal.invariant-loop-number
invariant-loop-number l = l.harts.items ≡ started_harts l.entry l.number
