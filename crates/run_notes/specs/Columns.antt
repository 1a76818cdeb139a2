-- How wide a column is.
use Rattle.std.specs.Prelude.{ℕ, ◌+◌, ◌*◌, ◌/◌, ◌==◌, Bool, true, min, max, if◌then◌else◌}

-- the steps of so many units of 830, rounded up, and at least one
abbrev pub steps_of : (units steps : ℕ) → ℕ
steps_of units steps = max (min ((units * steps + 829) / 830) 4294967295) 1

-- two steps lie in one column; a column of no steps has all
abbrev pub is_same_column : (column a b : ℕ) → Bool
is_same_column column a b = if column == 0 then true else (a / column == b / column)
