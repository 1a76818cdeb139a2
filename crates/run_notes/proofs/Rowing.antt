-- Rows that are changed one after another.
use Rattle.std.proofs.Common.{◌≡◌, ◌∙◌, ℕ, ◌+◌, ◌<◌, List, ◌++◌, length, map, take, drop, get_or, sym, ap, arith}
use Rattle.std.specs.Prelude.{slice_set}
use Rattle.std.proofs.lemmas.List.{map-set, get_or-map}
use Rattle.std.proofs.lemmas.List.Edits.{map_over_more}
use Rattle.std.proofs.lemmas.Grind.{common_steps}
use Rattle.run_notes.specs.Rowing.{RowNow, row_now}
use Rattle.run_notes.specs.declared.rows.Row.{Row}

-- one row more was changed as f says
pub row_more : (f : RowNow → RowNow) (rows_first rows : List Row) (i : ℕ) (d r' : Row) → i < length rows_first →
    length rows ≡ length rows_first →
    map row_now rows ≡ map f (take i (map row_now rows_first)) ++ drop i (map row_now rows_first) →
    row_now r' ≡ f (row_now (get_or rows i d)) →
    map row_now (slice_set rows i r')
    ≡ map f (take (i + 1) (map row_now rows_first)) ++ drop (i + 1) (map row_now rows_first)
row_more f rows_first rows i d r' there same so_far changed =
    let xs = map row_now rows_first in
    let ys = map row_now rows in
    let x = row_now (get_or rows i d) in
    let below : i < length rows = grind (arith, same, there) in
    let low : i < length xs = grind (arith, common_steps) in
    map-set row_now rows i r'
    ∙ ap (λ (v : RowNow). slice_set ys i v) changed
    ∙ map_over_more f xs ys i x low so_far (sym (get_or-map row_now rows i d x below))
