use Rattle.std.proofs.Common.{◌≤◌, vec_len}
use Rattle.run_notes.proofs.plan.chosen.Given as goal

abbrev pub invariant-loop-round : goal.invariant-loop-round
invariant-loop-round l = vec_len l.chosen ≤ l._round
