use Rattle.std.proofs.Common.{◌≡◌, ◌≤◌, ℕ, List, take}
use Rattle.std.specs.Prelude.{count_by}
use Rattle.run_notes.specs.Planning.{is_shown}
use Rattle.run_notes.specs.declared.plan.Weight.{Weight}
use Rattle.run_notes.proofs.plan.told.Given as goal

pub record AreCounted (count index : ℕ) (weights : List Weight) : Type 0 where
  pub counted : count ≡ count_by is_shown (take index weights)
  pub few : count ≤ index

-- those so far are counted
abbrev pub invariant-loop-weight : goal.invariant-loop-weight
invariant-loop-weight l = AreCounted l.count l.weight-index l.weights
