use Rattle.std.proofs.Common.{List, ℕ, ◌≡◌, ◌∙◌, ◌++◌, ap, Bool, if◌then◌else◌, is_ok}
use Rattle.std.proofs.Math.Logic.{∥∥₁_map}
use Rattle.svg_text.specs.Characters.{escaped}
use Rattle.svg_text.proofs.Trees.{markup_signs_if}
use Rattle.svg_text.proofs.markup.Markup.signs.Goals as goal

pub invariant_of-self : goal.invariant_of-self
invariant_of-self c =
    let put : c.put_signs.new.text.items ≡ c.new-text.result.items ++ escaped c.args.signs.now = c.in_ok-put_signs.ensures in
    let all : c.as_slice.result.now ≡ escaped c.args.signs.now =
    c.as_slice.ensures.value ∙ (put ∙ ap (λ (l : List ℕ). l ++ escaped c.args.signs.now) c.new-text.ensures.items) in
    record {
      tree = ∥∥₁_map c.args.self.now.tree (λ m. markup_signs_if (is_ok c.extend_from_slice.result) c.args.self.now.text.items
          c.extend_from_slice.new.self.items c.args.self.now.count c.args.signs.now
          (c.extend_from_slice.ensures.items
          ∙ ap (λ (l : List ℕ). if is_ok c.extend_from_slice.result then c.args.self.now.text.items ++ l else c.args.self.now.text.items) all) m);
      few = c.args.self.now.few;
    }
