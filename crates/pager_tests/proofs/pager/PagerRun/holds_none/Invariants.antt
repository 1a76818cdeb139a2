use Rattle.std.proofs.Common.{◌≡◌, ◌<◌, ℕ, None}
use Rattle.cloak_pager.specs.State.{held_in}
use Rattle.pager_tests.proofs.pager.PagerRun.holds_none.Given as goal

abbrev pub invariant-loop-i : goal.invariant-loop-i
invariant-loop-i l = (k : ℕ) → k < l.i → held_in l.self.pager k ≡ None
