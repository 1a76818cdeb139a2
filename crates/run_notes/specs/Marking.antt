-- The marks of a row: those of one kind in one column are one.
use Rattle.std.specs.Prelude.{ℕ, ◌+◌, ◌==◌, Bool, false, ◌&&◌, ◌||◌, not, nat_lt, min, List, [], ◌∷◌, ◌++◌, length, replicate, slice_get, slice_set, slice_index_or, Option, Some, None, if◌then◌else◌}
use Rattle.run_notes.specs.Columns.{is_same_column}
use Rattle.run_notes.specs.declared.marks.Mark.{Mark}
use Rattle.run_notes.specs.declared.marks.MarkKind.{MarkKind}
use Rattle.run_notes.specs.declared.marks.MarkKind.TheVariants as kind
use Rattle.run_notes.specs.declared.marks.Marks.{Marks}

-- One mark.
abbrev pub mark_of : MarkKind → ℕ → Mark
mark_of k step = record {
  kind = k;
  first = step;
  last = step;
  count = 1;
  page = None;
  number = 0;
  cause = 0;
  mixed = false;
}

-- the place of a kind among the kinds
abbrev pub place_of : MarkKind → ℕ
place_of kind.Shown = 0
place_of kind.Written = 1
place_of kind.Read = 2
place_of kind.Altered = 3
place_of kind.Put = 4
place_of kind.Stopped = 5
place_of kind.Printed = 6
place_of kind.Left = 7
place_of kind.Resumed = 8

-- a mark of the opening stands only with others of it
abbrev pub is_of_opening : Mark → ℕ → Bool
is_of_opening mark step = mark.first == 0 || step == 0

-- a mark and another one of its kind at a step are drawn as one
abbrev pub is_beside : ℕ → Mark → ℕ → Bool
is_beside column mark step =
    is_same_column column mark.first step && (not (is_of_opening mark step) || mark.first == step)

-- a mark and another one after it, as one
abbrev pub joined : Mark → Mark → Mark
joined mark next = record mark {
  last = next.last;
  count = min (mark.count + next.count) 4294967295;
  mixed = mark.mixed || (not (mark.number == next.number) || not (mark.cause == next.cause));
}

-- The marks of a row, and where the last one of each kind stands.
pub record MarksNow : Type 0 where
  pub column : ℕ
  pub made : List Mark
  pub latest : List (Option ℕ)

abbrev pub marks_now : Marks → MarksNow
marks_now m = record { column = m.column; made = m.made.items; latest = m.latest }

-- no marks, of no columns
abbrev pub none_now : MarksNow
none_now = record { column = 0; made = []; latest = replicate 9 None }

-- Where the mark stands that another one joins.

abbrev pub place_beside : ℕ → ℕ → ℕ → Option Mark → Option ℕ
place_beside column step at None = None
place_beside column step at (Some mark) = if is_beside column mark step then Some at else None

abbrev pub beside_at : MarksNow → ℕ → Option ℕ → Option ℕ
beside_at m step None = None
beside_at m step (Some at) = place_beside m.column step at (slice_get m.made at)

abbrev pub beside : MarksNow → MarkKind → ℕ → Option ℕ
beside m k step = beside_at m step (slice_index_or m.latest (place_of k) None)

-- A mark more, or one with the last of its kind in its column. A row has at most 1,600.

abbrev pub put : MarksNow → Mark → MarksNow
put m mark =
    if nat_lt (length m.made) 1600
    then record m {
      made = m.made ++ mark ∷ [];
      latest = slice_set m.latest (place_of mark.kind) (Some (length m.made));
    }
    else m

abbrev pub added_at : MarksNow → Mark → Option ℕ → MarksNow
added_at m mark None = put m mark
added_at m mark (Some at) =
    record m { made = slice_set m.made at (joined (slice_index_or m.made at mark) mark) }

abbrev pub added : MarksNow → Mark → MarksNow
added m mark = added_at m mark (beside m mark.kind mark.first)
