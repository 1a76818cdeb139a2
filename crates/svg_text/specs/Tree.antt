-- A small grammar of XML: elements with attributes, and characters between them. A text is well-formed, as it is meant here, if
-- it is the text of such a tree.
use Rattle.std.specs.Prelude.{ℕ, ◌≡◌, ◌+◌, ◌≤◌, List, [], ◌∷◌, ◌++◌, codes}
use Rattle.std.specs.List.{flat_map}
use Rattle.svg_text.specs.Characters.{escaped}
use Rattle.svg_text.specs.declared.names.Tag.{Tag}
use Rattle.svg_text.specs.declared.names.Tag.TheVariants as tag
use Rattle.svg_text.specs.declared.names.Key.{Key}
use Rattle.svg_text.specs.declared.names.Key.TheVariants as key

-- The names of elements, and those of attributes with their order.

unfoldable pub tag_name : Tag → List ℕ
tag_name tag.Svg = codes "svg"
tag_name tag.Title = codes "title"
tag_name tag.Style = codes "style"
tag_name tag.Defs = codes "defs"
tag_name tag.Pattern = codes "pattern"
tag_name tag.G = codes "g"
tag_name tag.Rect = codes "rect"
tag_name tag.Path = codes "path"
tag_name tag.Text = codes "text"

unfoldable pub key_name : Key → List ℕ
key_name key.Xmlns = codes "xmlns"
key_name key.ViewBox = codes "viewBox"
key_name key.Role = codes "role"
key_name key.Id = codes "id"
key_name key.X = codes "x"
key_name key.Y = codes "y"
key_name key.Width = codes "width"
key_name key.Height = codes "height"
key_name key.PatternUnits = codes "patternUnits"
key_name key.PatternTransform = codes "patternTransform"
key_name key.D = codes "d"
key_name key.Class = codes "class"

unfoldable pub key_place : Key → ℕ
key_place key.Xmlns = 0
key_place key.ViewBox = 1
key_place key.Role = 2
key_place key.Id = 3
key_place key.X = 4
key_place key.Y = 5
key_place key.Width = 6
key_place key.Height = 7
key_place key.PatternUnits = 8
key_place key.PatternTransform = 9
key_place key.D = 10
key_place key.Class = 11

-- Attributes: a name, and characters as its value.

pub record Attribute : Type 0 where
  pub name : Key
  pub value : List ℕ

unfoldable pub attribute_text : Attribute → List ℕ
attribute_text a = codes " " ++ (key_name a.name ++ (codes "=\"" ++ (escaped a.value ++ codes "\"")))

-- they stand in the order of their names, from one place to another, so no name stands twice
abbrev pub Rises : ℕ → List Attribute → ℕ → Type 0
Rises from [] to = from ≤ to
Rises from (a ∷ rest) to = (from ≤ key_place a.name) × Rises (key_place a.name + 1) rest to

-- Trees: what stands beside one another, from the first on.

pub data Tree : Type 0 where
  Nothing : Tree
  -- characters, and what follows
  Signs : (signs : List ℕ) → (rest : Tree) → Tree
  -- an element with its attributes, what is inside it, and what follows
  Element : (name : Tag) → (attributes : List Attribute) → (inside rest : Tree) → Tree

-- the text of an element around another text
abbrev pub element_text : Tag → List ℕ → List ℕ → List ℕ
element_text name attributes inside =
    codes "<" ++ (tag_name name ++ (attributes ++ (codes ">"
    ++ (inside ++ (codes "</" ++ (tag_name name ++ codes ">"))))))

unfoldable pub tree_text : Tree → List ℕ
tree_text Nothing = []
tree_text (Signs signs rest) = escaped signs ++ tree_text rest
tree_text (Element name attributes inside rest) =
    element_text name (flat_map attribute_text attributes) (tree_text inside) ++ tree_text rest

-- how many elements there are
unfoldable pub element_count : Tree → ℕ
element_count Nothing = 0
element_count (Signs signs rest) = element_count rest
element_count (Element name attributes inside rest) = (element_count inside + 1) + element_count rest

-- no element has an attribute twice
abbrev pub IsOrderly : Tree → Type 0
IsOrderly Nothing = Unit {0}
IsOrderly (Signs signs rest) = IsOrderly rest
IsOrderly (Element name attributes inside rest) = Rises 0 attributes 12 × (IsOrderly inside × IsOrderly rest)
