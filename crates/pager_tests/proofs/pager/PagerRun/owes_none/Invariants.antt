use Rattle.std.proofs.Common.{◌≡◌, ◌<◌, ℕ, None}
use Rattle.cloak_pager.specs.State.{owed_at}
use Rattle.pager_tests.proofs.pager.PagerRun.owes_none.Given as goal

abbrev pub invariant-loop-i : goal.invariant-loop-i
invariant-loop-i l = (k : ℕ) → k < l.i → owed_at l.self.pager k ≡ None
