use Rattle.std.proofs.Common.{List, ℕ, ◌≡◌, ◌<◌, ◌+◌, ◌++◌, ◌∙◌, ap, arith, sym}
use Rattle.std.proofs.Math.Logic.{∥∥₁_map}
use Rattle.svg_text.specs.Tree.{attribute_text}
use Rattle.svg_text.proofs.Trees.{attributes_more}
use Rattle.svg_text.proofs.attributes.Attributes.put.Goals as goal

pub invariant_of-self-2 : goal.invariant_of-self-2
invariant_of-self-2 c =
    let text : c.as_slice.result.now ≡ attribute_text (record { name = c.args.name; value = c.args.value.now }) =
    c.as_slice.ensures.value ∙ c.in_ok-text.ensures in
    record {
      some = ∥∥₁_map c.args.self.now.some (λ had. attributes_more c.args.self.now.text.items c.extend_from_slice.new.self.items
          c.args.self.now.next c.place-2.result (record { name = c.args.name; value = c.args.value.now })
          (c.in_ok-extend_from_slice.ensures.items ∙ ap (λ (l : List ℕ). c.args.self.now.text.items ++ l) text)
          c.place-2.ensures.value
          (let low = c.if-place-self.false in let a = c.place.ensures.value in let b = c.place-2.ensures.value in
          omega (arith, low, a, b)) had);
      few = let low = c.place-2.ensures.below in omega (arith, low);
    }
