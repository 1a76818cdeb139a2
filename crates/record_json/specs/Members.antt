-- Objects of JSON (RFC 8259) by their members, and their lines: the text that `serde_json` has for an object, which has no
-- space, and a line feed. Members come in the order in which they stand here.
use Rattle.std.specs.Prelude.{ℕ, List, [], ◌∷◌, ◌++◌, codes, decimal}
use Rattle.std.specs.List.{flat_map}
use Rattle.json.specs.Print.{quoted}
use Rattle.serde_json.specs.Data.{Data, Items, Members, array, item, member, no_items, no_members, number, object, string, unsigned}
use Rattle.serde_json.specs.Written.{compact_text}

-- A member of an object.
pub record Member : Type 0 where
  pub name : List ℕ
  pub value : Data

abbrev pub with_number : List ℕ → ℕ → Member
with_number name n = record { name = name; value = number (unsigned n) }

abbrev pub with_text : List ℕ → List ℕ → Member
with_text name text = record { name = name; value = string text }

abbrev pub numbers : List ℕ → Items
numbers [] = no_items
numbers (n ∷ ns) = item (number (unsigned n)) (numbers ns)

abbrev pub with_numbers : List ℕ → List ℕ → Member
with_numbers name ns = record { name = name; value = array (numbers ns) }

abbrev pub members_of : List Member → Members
members_of [] = no_members
members_of (m ∷ ms) = member m.name m.value (members_of ms)

abbrev pub object_of : List Member → Data
object_of ms = object (members_of ms)

-- an object on a line of its own
abbrev pub json_line : List Member → List ℕ
json_line ms = compact_text (object_of ms) ++ codes "\n"

-- ---- pieces of a line

-- a member of an object
abbrev pub member_text : Member → List ℕ
member_text m = quoted m.name ++ (codes ":" ++ compact_text m.value)

-- one that is not the first
abbrev pub next_member : Member → List ℕ
next_member m = codes "," ++ member_text m

-- numbers of a list that are not its first
abbrev pub more_numbers : List ℕ → List ℕ
more_numbers ns = flat_map (λ n. codes "," ++ decimal n) ns

-- the beginning of an object
abbrev pub begun : Member → List Member → List ℕ
begun m ms = (codes "{" ++ member_text m) ++ flat_map next_member ms

abbrev pub begun_with : List Member → List ℕ
begun_with [] = codes "{"
begun_with (m ∷ ms) = begun m ms
