-- Who runs on a hart.
use Rattle.std.specs.Prelude.{ℕ, ◌+◌, ◌-◌, ◌/◌, min, List, [], ◌∷◌, replicate, slice_set, slice_index_or, Option, Some, None}
use Rattle.run_notes.specs.declared.turns.Turn.{Turn}

-- the place of who runs among the times: the kernel has the first, and then each program one, of which each has 8 contexts
abbrev pub place_of : Option ℕ → ℕ
place_of None = 0
place_of (Some ctx) = min (ctx / 8) 3 + 1

abbrev pub context_of : Option ℕ → ℕ
context_of None = 0
context_of (Some ctx) = ctx

-- one turn, from one step to another
abbrev pub turn_of : (from to : ℕ) → Option ℕ → Turn
turn_of from to inside = record {
  from = from;
  to = to;
  times = slice_set (replicate 5 0) (place_of inside) (to - from);
  ctx = context_of inside;
  count = 1;
}

-- the times of one place together
abbrev pub time_of : List ℕ → List ℕ → ℕ → ℕ
time_of a b place = min (slice_index_or a place 0 + slice_index_or b place 0) 4294967295

-- the times of each
abbrev pub times_of : List ℕ → List ℕ → List ℕ
times_of a b = time_of a b 0 ∷ time_of a b 1 ∷ time_of a b 2 ∷ time_of a b 3 ∷ time_of a b 4 ∷ []

-- a turn with another one right after it
abbrev pub joined : Turn → Turn → Turn
joined turn next = record turn {
  to = next.to;
  times = times_of turn.times next.times;
  count = min (turn.count + next.count) 4294967295;
}
