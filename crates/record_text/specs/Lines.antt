-- The lines of a record: one for the opening, each step, the closing and the end, with the items of that place.
use Rattle.std.specs.Prelude.{ℕ, ◌&&◌, Bool, true, false, List, [], ◌++◌, codes, decimal, Option, Some, None, if◌then◌else◌}
use Rattle.std.specs.List.{fold}
use Rattle.cloak_model.specs.Items.{Item}
use Rattle.record_text.specs.declared.kinds.Kinds.{Kinds}
use Rattle.record_text.specs.declared.selection.Selection.{Selection}
use Rattle.record_text.specs.declared.place.RecordPlace.{RecordPlace}
use Rattle.record_text.specs.declared.place.RecordPlace.TheVariants as place
use Rattle.record_text.specs.declared.lines.Line.{Line}
use Rattle.record_text.specs.Items.{item_text}
use Rattle.record_text.specs.Kinds.{has_item, has_place, place_marked}

abbrev pub numbered_place : List ℕ → ℕ → List ℕ
numbered_place words number = words ++ decimal number

abbrev pub place_text : RecordPlace → List ℕ
place_text place.Opening = codes "opening"
place_text (place.Step number) = numbered_place (codes "step ") number
place_text (place.Closing steps) = numbered_place (codes "closing after step ") steps
place_text place.End = codes "end"

abbrev pub has_every_kind : Option Kinds → Bool
has_every_kind None = true
has_every_kind (Some kinds) = false

-- if each kind is shown, a place has its line even without an item
abbrev pub has_bare : Selection → RecordPlace → Bool
has_bare s p = has_every_kind s.only && has_place s p

-- A text, and the line that stands at its end.
pub record Lined : Type 0 where
  pub text : List ℕ
  pub line : Line

-- a line of which something was shown, or nothing yet
abbrev pub line_at : RecordPlace → Bool → Line
line_at p shown = record { place = p; is_open = shown }

abbrev pub line_end : Line → List ℕ
line_end l = if l.is_open then codes "\n" else []

abbrev pub line_begin : Line → List ℕ
line_begin l = if l.is_open then [] else place_text l.place

-- a place begins, after the line of the one before
unfoldable pub at_place : Selection → Line → RecordPlace → Lined
at_place s l p = record {
  text = line_end l ++ (if has_bare s p then place_text p else []);
  line = line_at p (has_bare s p);
}

-- an item after what its line has
abbrev pub item_on_line : Line → Item → List ℕ
item_on_line l i = line_begin l ++ (codes "; " ++ item_text i)

-- an item that is no marker: it is shown once, if it is chosen
unfoldable pub on_line : Selection → Line → Item → Lined
on_line s l i =
    if has_item s l.place i
    then record { text = item_on_line l i; line = line_at l.place true }
    else record { text = []; line = l }

abbrev pub line_more_by : Selection → Line → Item → Option RecordPlace → Lined
line_more_by s l i (Some p) = at_place s l p
line_more_by s l i None = on_line s l i

-- what an item adds
unfoldable pub line_more : Selection → Line → Item → Lined
line_more s l i = line_more_by s l i (place_marked i)

unfoldable pub opening_line : Selection → Lined
opening_line s = at_place s (line_at place.Opening false) place.Opening

abbrev pub with_more : Selection → Lined → Item → Lined
with_more s before i =
    let more : Lined = line_more s before.line i in record { text = before.text ++ more.text; line = more.line }

-- the items of a record in their order
unfoldable pub lined : Selection → List Item → Lined
lined s items = fold (with_more s) (opening_line s) items
