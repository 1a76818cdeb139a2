-- Where the steps of a run stand in its picture, in tenths of a unit: the rows begin at 1,500 and are 8,300 wide.
use Rattle.std.specs.Prelude.{ℕ, ◌+◌, ◌*◌, ◌-◌, ◌/◌, min, nat_lt, if◌then◌else◌}

-- the place after so many steps, on a scale that ends there
abbrev pub after_steps : (end steps : ℕ) → ℕ
after_steps end steps = 1500 + 8300 * min steps end / end

-- the middle of a step, which is between the place after the steps before it and that after it; the opening is at the left end
abbrev pub middle_of : (end step : ℕ) → ℕ
middle_of end step = (after_steps end (step - 1) + after_steps end step) / 2

-- The bytes of the console. A sign is 80 wide, and the rows end at 9,800.

-- where a byte stands at the latest, so that this many fit, with it
abbrev pub last_place : ℕ → ℕ
last_place left = 9800 - left * 80

-- The place of a byte: at its step, if all that follow fit then, and right after the byte before, which ends at `free`, if less than
-- a sign would be between them.
abbrev pub byte_place : (at free left : ℕ) → ℕ
byte_place at free left =
    if nat_lt (min at (last_place left)) (free + 80) then free else min at (last_place left)
