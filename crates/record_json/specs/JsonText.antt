-- What is shown of a record as objects, each on a line of its own.
use Rattle.std.specs.Prelude.{ℕ, List, [], ◌∷◌, ◌++◌, codes, map, Option, Some, None, Bool, true, false, if◌then◌else◌}
use Rattle.std.specs.List.{count_by, fold}
use Rattle.cloak_model.specs.declared.fault.RecordFault.{RecordFault}
use Rattle.cloak_model.specs.declared.fault.RecordFault.TheVariants as fault
use Rattle.cloak_model.specs.Items.{Item}
use Rattle.read_back.specs.declared.ending.Ending.{Ending}
use Rattle.read_back.specs.declared.ending.Ending.TheVariants as ending
use Rattle.record_text.specs.declared.selection.Selection.{Selection}
use Rattle.record_text.specs.declared.place.RecordPlace.{RecordPlace}
use Rattle.record_text.specs.declared.place.RecordPlace.TheVariants as place
use Rattle.record_text.specs.Counting.{chosen}
use Rattle.record_text.specs.Kinds.{NamedKind, has_item, is_of_kind, kind_names, place_marked}
use Rattle.record_text.specs.Lines.{has_bare}
use Rattle.record_json.specs.Members.{Member, json_line, with_number, with_text}
use Rattle.record_json.specs.Objects.{placed_members}

-- the line of an item at a place
abbrev pub item_line : RecordPlace → Item → List ℕ
item_line p i = json_line (placed_members p i)

-- Lines, and the place of what comes next.
pub record Objects : Type 0 where
  pub text : List ℕ
  pub place : RecordPlace

-- a marker stands at the place that it begins, and other items where they are
unfoldable pub object_more_by : Selection → RecordPlace → Item → Option RecordPlace → Objects
object_more_by s p i (Some q) = record { text = if has_bare s q then item_line q i else []; place = q }
object_more_by s p i None = record { text = if has_item s p i then item_line p i else []; place = p }

-- what an item adds: a line, if it is chosen
abbrev pub object_more : Selection → RecordPlace → Item → Objects
object_more s p i = object_more_by s p i (place_marked i)

abbrev pub with_object : Selection → Objects → Item → Objects
with_object s before i =
    let more : Objects = object_more s before.place i in record { text = before.text ++ more.text; place = more.place }

abbrev pub no_objects : Objects
no_objects = record { text = []; place = place.Opening }

-- the items of a record in their order
unfoldable pub objects : Selection → List Item → Objects
objects s items = fold (with_object s) no_objects items

-- how many items there are of each kind, in one object
abbrev pub count_members : List Item → List Member
count_members items = map (λ (k : NamedKind). with_number k.name (count_by (is_of_kind k.kind) items)) kind_names

-- why a record was not read to its end
abbrev pub fault_at : List ℕ → ℕ → List Member
fault_at name at = with_text (codes "fault") name ∷ with_number (codes "at") at ∷ []

abbrev pub fault_members : RecordFault → List Member
fault_members (fault.Short at) = fault_at (codes "short") at
fault_members fault.BadMagic = with_text (codes "fault") (codes "magic") ∷ []
fault_members (fault.BadTag at) = fault_at (codes "tag") at
fault_members (fault.StepOrder at) = fault_at (codes "order") at
fault_members (fault.Extra at) = fault_at (codes "extra") at

-- the line that says it; none if the record was read to its end
abbrev pub ending_line : Ending → List ℕ
ending_line ending.Whole = []
ending_line (ending.Unfit step) =
    json_line (with_text (codes "fault") (codes "unfit") ∷ with_number (codes "step") step ∷ [])
ending_line (ending.Fault f) = json_line (fault_members f)
ending_line ending.Unread = json_line (with_text (codes "fault") (codes "read") ∷ [])

abbrev pub ending_object : Option Ending → List ℕ
ending_object None = []
ending_object (Some ended) = ending_line ended

-- an object for each item that is chosen, or one with how many are chosen of each kind
abbrev pub objects_by : Bool → Selection → List Item → List ℕ
objects_by true s items = json_line (count_members (chosen s items).items)
objects_by false s items = (objects s items).text

-- A record as objects: and why it was not read to its end.
abbrev pub json_by : Bool → Selection → List Item → Option Ending → List ℕ
json_by counts s items ended = objects_by counts s items ++ ending_object ended

abbrev pub json_text : Selection → List Item → Option Ending → List ℕ
json_text s items ended = json_by s.counts s items ended
