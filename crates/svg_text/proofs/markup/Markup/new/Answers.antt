use Rattle.std.proofs.Common.{List, ℕ, sym, subst, arith}
use Rattle.std.proofs.lemmas.Grind.{merely}
use Rattle.svg_text.specs.Writing.{IsMarkup}
use Rattle.svg_text.proofs.Trees.{markup_none}
use Rattle.svg_text.proofs.markup.Markup.new.Goals as goal

pub invariant_of-result : goal.invariant_of-result
invariant_of-result c = record {
  tree = merely (subst (λ (l : List ℕ). IsMarkup l 0) (sym c.new.ensures.items) markup_none);
  few = omega arith;
}
