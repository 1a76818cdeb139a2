use Rattle.std.proofs.Common.{List, ℕ, ◌≡◌, ◌<◌, ◌+◌, ◌++◌, ◌∷◌, [], ◌∙◌, ap, arith}
use Rattle.std.proofs.Math.Logic.{∥∥₁_map, ∥∥₁_elim, ∥∥₁_prop}
use Rattle.svg_text.specs.Tree.{element_text}
use Rattle.svg_text.specs.Writing.{most_elements}
use Rattle.svg_text.specs.declared.names.Tag.TheVariants.{Svg}
use Rattle.svg_text.proofs.Trees.{picture_of}
use Rattle.svg_text.proofs.markup.picture.Goals as goal

pub returns : goal.returns
returns c =
    let given = c.args.attributes.now in
    let inner = c.args.inside.now in
    let text : c.in_ok-text.text.items ≡ element_text Svg given.text.items inner.text.items =
    c.in_ok-text.ensures
    ∙ (ap (λ (l : List ℕ). element_text Svg l c.as_slice.result.now) c.text.ensures
    ∙ ap (λ (l : List ℕ). element_text Svg given.text.items l) c.as_slice.ensures.value) in
    let low : inner.count < most_elements = c.requires in
    ∥∥₁_elim given.some ∥∥₁_prop (λ a. ∥∥₁_map inner.tree (λ i.
    picture_of c.extend_from_slice.new.self.items inner.text.items given.text.items inner.count given.next
    (c.in_ok-extend_from_slice.ensures.items ∙ ap (λ (l : List ℕ). l ++ 10 ∷ []) text)
    given.few (omega (arith, low)) a i))
