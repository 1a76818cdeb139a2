-- Trees beside one another.
use Rattle.std.proofs.Common.{◌≡◌, ◌∙◌, ℕ, ◌+◌, ◌≤◌, List, [], ◌∷◌, ◌++◌, refl, sym, ap, ap₂, append_assoc, append-nil, add_assoc, zero-add, arith, subst, Bool, true, false, if◌then◌else◌}
use Rattle.std.specs.List.{flat_map}
use Rattle.std.proofs.lemmas.Grind.{flat_map-append}
use Rattle.svg_text.specs.Characters.{escaped}
use Rattle.svg_text.specs.Tree.{Attribute, Element, IsOrderly, Nothing, Rises, Signs, Tree, attribute_text, element_count, element_text, key_place, tree_text}
use Rattle.svg_text.specs.Writing.{AreAttributes, IsMarkup, IsPicture, IsPictureOf, most_elements}
use Rattle.svg_text.specs.declared.names.Tag.{Tag}
use Rattle.svg_text.specs.declared.names.Tag.TheVariants.{Svg}

-- one tree, and another after it
abbrev pub beside : Tree → Tree → Tree
beside Nothing after = after
beside (Signs signs rest) after = Signs signs (beside rest after)
beside (Element name attributes inside rest) after = Element name attributes inside (beside rest after)

text_beside : (t after : Tree) → tree_text (beside t after) ≡ tree_text t ++ tree_text after
unfolding tree_text
text_beside Nothing after = refl
text_beside (Signs signs rest) after =
    ap (λ (l : List ℕ). escaped signs ++ l) (text_beside rest after)
    ∙ sym (append_assoc (escaped signs) (tree_text rest) (tree_text after))
text_beside (Element name attributes inside rest) after =
    let front = element_text name (flat_map attribute_text attributes) (tree_text inside) in
    ap (λ (l : List ℕ). front ++ l) (text_beside rest after) ∙ sym (append_assoc front (tree_text rest) (tree_text after))

count_beside : (t after : Tree) → element_count (beside t after) ≡ element_count t + element_count after
unfolding element_count
count_beside Nothing after = sym (zero-add (element_count after))
count_beside (Signs signs rest) after = count_beside rest after
count_beside (Element name attributes inside rest) after =
    ap (λ (n : ℕ). (element_count inside + 1) + n) (count_beside rest after)
    ∙ sym (add_assoc (element_count inside + 1) (element_count rest) (element_count after))

orderly_beside : (t after : Tree) → IsOrderly t → IsOrderly after → IsOrderly (beside t after)
orderly_beside Nothing after first second = second
orderly_beside (Signs signs rest) after first second = orderly_beside rest after first second
orderly_beside (Element name attributes inside rest) after first second =
    (first.0, (first.1.0, orderly_beside rest after first.1.1 second))

-- Texts of trees.

pub markup_none : IsMarkup [] 0
unfolding tree_text element_count
markup_none = record { tree = Nothing; text = refl; counts = refl; orderly = tt }

-- with characters after them
pub markup_signs : (was now : List ℕ) (count : ℕ) (signs : List ℕ) → now ≡ was ++ escaped signs → IsMarkup was count →
    IsMarkup now count
unfolding tree_text element_count
markup_signs was now count signs same m = record {
  tree = beside m.tree (Signs signs Nothing);
  text = same ∙ (ap₂ (λ (a b : List ℕ). a ++ b) m.text (sym (append-nil (escaped signs)))
      ∙ sym (text_beside m.tree (Signs signs Nothing)));
  counts =
      let sum = count_beside m.tree (Signs signs Nothing) in let had = m.counts in omega (arith, sum, had);
  orderly = orderly_beside m.tree (Signs signs Nothing) m.orderly tt;
}

-- with an element after them
pub markup_element : (was now inner given : List ℕ) (count inside next : ℕ) (name : Tag) →
    now ≡ was ++ element_text name given inner → next ≤ 12 → IsMarkup was count → AreAttributes given next →
    IsMarkup inner inside → IsMarkup now (count + inside + 1)
unfolding tree_text element_count
markup_element was now inner given count inside next name same few m a i =
    let one : Tree = Element name a.attributes i.tree Nothing in
    record {
      tree = beside m.tree one;
      text = same ∙ (ap₂ (λ (x y : List ℕ). x ++ y) m.text
          (ap₂ (λ (x y : List ℕ). element_text name x y) a.text i.text
          ∙ sym (append-nil (element_text name (flat_map attribute_text a.attributes) (tree_text i.tree))))
          ∙ sym (text_beside m.tree one));
      counts =
          let sum = count_beside m.tree one in let had = m.counts in let inner_had = i.counts in
          omega (arith, sum, had, inner_had);
      orderly = orderly_beside m.tree one m.orderly (wider a.attributes 0 next 12 few a.rising, (i.orderly, tt));
    }
  where
    wider : (l : List Attribute) (from to more : ℕ) → to ≤ more → Rises from l to → Rises from l more
    wider [] from to more less rises = omega (arith, less, rises)
    wider (x ∷ l) from to more less rises = (rises.0, wider l (key_place x.name + 1) to more less rises.1)

-- the whole
pub picture_of : (now inner given : List ℕ) (inside next : ℕ) → now ≡ element_text Svg given inner ++ (10 ∷ []) →
    next ≤ 12 → inside + 1 ≤ most_elements → AreAttributes given next → IsMarkup inner inside →
    (attributes : List Attribute) × ((tree : Tree) × IsPictureOf now attributes tree)
unfolding tree_text element_count
picture_of now inner given inside next same few room a i = (
  a.attributes,
  (
    i.tree,
    record {
      text = same ∙ ap₂ (λ (x y : List ℕ). element_text Svg x y ++ (10 ∷ [])) a.text i.text
          ∙ ap (λ (x : List ℕ). x ++ (10 ∷ []))
          (sym (append-nil (element_text Svg (flat_map attribute_text a.attributes) (tree_text i.tree))));
      orderly = (wider a.attributes 0 next 12 few a.rising, (i.orderly, tt));
      few = let had = i.counts in omega (arith, had, room);
    },
  ),
)
  where
    wider : (l : List Attribute) (from to more : ℕ) → to ≤ more → Rises from l to → Rises from l more
    wider [] from to more less rises = omega (arith, less, rises)
    wider (x ∷ l) from to more less rises = (rises.0, wider l (key_place x.name + 1) to more less rises.1)

-- Attributes.

rises_more : (l : List Attribute) (a : Attribute) (from to : ℕ) → Rises from l to → to ≤ key_place a.name →
    Rises from (l ++ a ∷ []) (key_place a.name + 1)
rises_more [] a from to rises less = (omega (arith, rises, less), omega arith)
rises_more (x ∷ l) a from to rises less = (rises.0, rises_more l a (key_place x.name + 1) to rises.1 less)

pub attributes_more : (was now : List ℕ) (next place : ℕ) (a : Attribute) → now ≡ was ++ attribute_text a →
    place ≡ key_place a.name → next ≤ place → AreAttributes was next → AreAttributes now (place + 1)
attributes_more was now next place a same at less had = record {
  attributes = had.attributes ++ a ∷ [];
  text = same ∙ (ap (λ (x : List ℕ). x ++ attribute_text a) had.text
      ∙ (ap (λ (x : List ℕ). flat_map attribute_text had.attributes ++ x) (sym (append-nil (attribute_text a)))
      ∙ sym (flat_map-append attribute_text had.attributes (a ∷ []))));
  rising = rw at (rises_more had.attributes a 0 next had.rising (omega (arith, at, less)));
}

-- with characters after them, unless they had no room
pub markup_signs_if : (ok : Bool) (was now : List ℕ) (count : ℕ) (signs : List ℕ) →
    now ≡ (if ok then was ++ escaped signs else was) → IsMarkup was count → IsMarkup now count
markup_signs_if true was now count signs same m = markup_signs was now count signs same m
markup_signs_if false was now count signs same m = subst (λ (l : List ℕ). IsMarkup l count) (sym same) m
