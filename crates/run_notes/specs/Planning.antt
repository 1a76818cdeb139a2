-- What is drawn of a run.
use Rattle.std.specs.Prelude.{ℕ, ◌≡◌, ◌≤◌, ◌-◌, Bool, List, count_by, max, min, nat_lt, vec_len, if◌then◌else◌}
use Rattle.run_notes.specs.declared.plan.Plan.{Plan}
use Rattle.run_notes.specs.declared.plan.Weight.{Weight}

-- how many have something to tell
abbrev pub is_shown : Weight → Bool
is_shown w = w.is_shown

abbrev pub told : List Weight → ℕ
told weights = min (count_by is_shown weights) 4294967295

-- There is much to tell of a frame: so many marks.
abbrev pub is_busy : Weight → Bool
is_busy w = nat_lt 30 w.marks

-- how many frames have rows: fewer, if there is much to tell of many
abbrev pub most_frames : List Weight → ℕ
most_frames weights = if nat_lt 12 (count_by is_busy weights) then 12 else 24

-- A run of so many steps, whose scale ends there: it is at least one step long. Few frames and blocks have rows, and it is told how
-- many more have something to tell.
pub record IsPlan (steps end : ℕ) (weights block_weights : List Weight) (plan : Plan) : Type 0 where
  pub drawn : plan.steps ≡ steps
  pub scale : plan.end ≡ max end 1
  pub frames : vec_len plan.frames ≤ most_frames weights
  pub more_frames : plan.more_frames ≡ told weights - most_frames weights
  pub blocks : vec_len plan.blocks ≤ 6
  pub more_blocks : plan.more_blocks ≡ told block_weights - 6
