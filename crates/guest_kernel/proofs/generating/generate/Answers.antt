use Rattle.std.proofs.Common.{◌≤◌, ◌∙◌, length, sym, subst}
use Rattle.cloak_base.specs.Constants.{largest_bundle}
use Rattle.cloak_model.specs.declared.image.Bundle.{Bundle}
use Rattle.cloak_model.specs.Bundle.{IsInGrammar, bundle_bytes}
use Rattle.guest_kernel.proofs.Images.{generated_in, generated_fits, made_image}
use Rattle.guest_kernel.proofs.generating.generate.Goals as goal

pub returns-clause-value : goal.returns-clause-value
returns-clause-value c =
    made_image c.args.n _ _ _ _ _ c.harts.ensures (c.new.ensures ∙ c.in_ok-schedule.ensures)
    (c.new-2.ensures ∙ c.in_ok-segments.ensures)
    (c.new-3.ensures ∙ c.in_ok-vec.ensures.items_if_clones_equal (λ y is. is))
    (c.new-programs.ensures ∙ c.in_ok-demo_programs.ensures)

pub returns-clause-in_grammar : goal.returns-clause-in_grammar
returns-clause-in_grammar c =
    subst IsInGrammar (sym (returns-clause-value c)) (generated_in c.args.n)

pub returns-clause-fits : goal.returns-clause-fits
returns-clause-fits c =
    subst (λ (b : Bundle). length (bundle_bytes 2 b) ≤ largest_bundle) (sym (returns-clause-value c))
    (generated_fits c.args.n)
