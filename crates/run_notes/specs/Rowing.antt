-- The rows of frames and blocks, with what all of them have.
use Rattle.std.specs.Prelude.{ℕ, ◌==◌, Bool, true, ◌||◌, List, map, slice_set, slice_index_or, is_some, if◌then◌else◌}
use Rattle.run_notes.specs.Marking as marking
use Rattle.run_notes.specs.Marking.{MarksNow, marks_now}
use Rattle.run_notes.specs.Sights.{bare}
use Rattle.run_notes.specs.declared.look.Look.TheVariants.{Zeros}
use Rattle.run_notes.specs.declared.look.Sight.{Sight}
use Rattle.run_notes.specs.declared.marks.Mark.{Mark}
use Rattle.run_notes.specs.declared.rows.Row.{Row}
use Rattle.run_notes.specs.declared.rows.Rows.{Rows}

-- A row: its number, its marks, what it has, and what was ever in it. Its bars are no part of this.
pub record RowNow : Type 0 where
  pub number : ℕ
  pub marks : MarksNow
  pub sight : Sight
  pub had_page : Bool
  pub had_put : Bool

abbrev pub row_now : Row → RowNow
row_now r = record {
  number = r.number;
  marks = marks_now r.marks;
  sight = r.sight;
  had_page = r.had_page;
  had_put = r.had_put;
}

-- it has this now
abbrev pub with_sight : Sight → RowNow → RowNow
with_sight s r = record r { sight = s; had_page = r.had_page || is_some s.page }

-- it has a mark more
abbrev pub with_mark : Mark → RowNow → RowNow
with_mark mark r = record r { marks = marking.added r.marks mark }

-- a program stored into it in the open
abbrev pub with_put : RowNow → RowNow
with_put r = record r { had_put = true }

-- a change of the row of this number
abbrev pub if_of : ℕ → (RowNow → RowNow) → RowNow → RowNow
if_of number change r = if r.number == number then change r else r

-- What each frame or block has, and the rows.
pub record RowsNow : Type 0 where
  pub sights : List Sight
  pub rows : List RowNow

abbrev pub rows_now : Rows → RowsNow
rows_now r = record { sights = r.sights.items; rows = map row_now r.rows.items }

-- what one has; zeros, if there is no such one
abbrev pub sight_at : RowsNow → ℕ → Sight
sight_at r number = slice_index_or r.sights number (bare Zeros)

abbrev pub set_at : RowsNow → ℕ → Sight → RowsNow
set_at r number s = record { sights = slice_set r.sights number s; rows = map (if_of number (with_sight s)) r.rows }

abbrev pub marked_at : RowsNow → ℕ → Mark → RowsNow
marked_at r number mark = record r { rows = map (if_of number (with_mark mark)) r.rows }

abbrev pub put_at : RowsNow → ℕ → RowsNow
put_at r number = record r { rows = map (if_of number with_put) r.rows }
