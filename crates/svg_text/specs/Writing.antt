-- Texts that are built as those of trees.
use Rattle.std.specs.Prelude.{ℕ, ◌≡◌, ◌+◌, ◌≤◌, List, [], ◌++◌, codes}
use Rattle.std.specs.List.{flat_map}
use Rattle.svg_text.specs.Tree.{Attribute, Element, IsOrderly, Nothing, Rises, Tree, attribute_text, element_count, tree_text}
use Rattle.svg_text.specs.declared.names.Tag.TheVariants.{Svg}

-- the most elements of a picture
abbrev pub most_elements : ℕ
most_elements = 2000

-- these bytes are the text of attributes whose names lie before a place
pub record AreAttributes (bytes : List ℕ) (next : ℕ) : Type 0 where
  pub attributes : List Attribute
  pub text : bytes ≡ flat_map attribute_text attributes
  pub rising : Rises 0 attributes next

-- these bytes are the text of a tree of this many elements
pub record IsMarkup (bytes : List ℕ) (count : ℕ) : Type 0 where
  pub tree : Tree
  pub text : bytes ≡ tree_text tree
  pub counts : element_count tree ≡ count
  pub orderly : IsOrderly tree

-- These bytes are a picture: the text of one element `svg`, which has with all inside it at most 2,000 elements, and a line end.
pub record IsPictureOf (bytes : List ℕ) (attributes : List Attribute) (inside : Tree) : Type 0 where
  pub text : bytes ≡ tree_text (Element Svg attributes inside Nothing) ++ codes "\n"
  pub orderly : IsOrderly (Element Svg attributes inside Nothing)
  pub few : element_count (Element Svg attributes inside Nothing) ≤ most_elements

abbrev pub IsPicture : List ℕ → Type 0
IsPicture bytes = ∥ ((attributes : List Attribute) × ((inside : Tree) × IsPictureOf bytes attributes inside)) ∥₁
