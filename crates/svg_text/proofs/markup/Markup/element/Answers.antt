use Rattle.std.proofs.Common.{List, ℕ, ◌≡◌, ◌<◌, ◌≤◌, ◌+◌, ◌++◌, ◌∙◌, ap, arith, sym, true, nat_lt, ltb-true}
use Rattle.std.proofs.Math.Logic.{∥∥₁_map, ∥∥₁_elim, ∥∥₁_prop}
use Rattle.svg_text.specs.Tree.{element_text}
use Rattle.svg_text.specs.Writing.{most_elements}
use Rattle.svg_text.proofs.Trees.{markup_element}
use Rattle.svg_text.proofs.markup.Markup.element.Goals as goal

pub invariant_of-self-2 : goal.invariant_of-self-2
invariant_of-self-2 c =
    let self = c.args.self.now in
    let given = c.args.attributes.now in
    let inner = c.args.inside.now in
    let text : c.as_slice-2.result.now ≡ element_text c.args.tag given.text.items inner.text.items =
    c.as_slice-2.ensures.value ∙ (c.in_ok-text.ensures
    ∙ (ap (λ (l : List ℕ). element_text c.args.tag l c.as_slice.result.now) c.text.ensures
    ∙ ap (λ (l : List ℕ). element_text c.args.tag given.text.items l) c.as_slice.ensures.value)) in
    let low : self.count + inner.count < most_elements =
    ltb-true (self.count + inner.count) most_elements (sym c.has_room.ensures ∙ c.if-not-has_room.false) in
    record {
      tree = ∥∥₁_elim self.tree ∥∥₁_prop (λ m. ∥∥₁_elim given.some ∥∥₁_prop (λ a. ∥∥₁_map inner.tree (λ i.
          markup_element self.text.items c.extend_from_slice.new.self.items inner.text.items given.text.items
          self.count inner.count given.next c.args.tag
          (c.in_ok-extend_from_slice.ensures.items ∙ ap (λ (l : List ℕ). self.text.items ++ l) text)
          given.few m a i)));
      few = omega (arith, low);
    }
