-- What goes to the disk, and what comes from there.
use Rattle.std.specs.Prelude.{ℕ, ◌+◌, nat_lt, min, List, [], ◌∷◌, ◌++◌, length, if◌then◌else◌}
use Rattle.run_notes.specs.declared.moves.Move.{Move}
use Rattle.run_notes.specs.declared.moves.Moves.{Moves}

-- The first 24, and how many there are.
pub record MovesNow : Type 0 where
  pub kept : List Move
  pub all : ℕ

abbrev pub moves_now : Moves → MovesNow
moves_now m = record { kept = m.kept.items; all = m.all }

abbrev pub added : MovesNow → Move → MovesNow
added m moved = record {
  kept = if nat_lt (length m.kept) 24 then m.kept ++ moved ∷ [] else m.kept;
  all = min (m.all + 1) 4294967295;
}
