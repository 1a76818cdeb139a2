use Rattle.std.proofs.Common.{◌≡◌, ◌≤◌, ℕ, List, take}
use Rattle.std.specs.Prelude.{Option, count_by, is_some}
use Rattle.run_picture.proofs.sentences.count_ended.Given as goal

pub record AreCounted (count index : ℕ) (ended : List (Option ℕ)) : Type 0 where
  pub counted : count ≡ count_by is_some (take index ended)
  pub few : count ≤ index

-- those so far are counted
abbrev pub invariant-loop-step : goal.invariant-loop-step
invariant-loop-step l = AreCounted l.count l.step-index l.ended
