use Rattle.std.proofs.Common.{◌≤◌, ◌∙◌, length, sym, subst}
use Rattle.cloak_base.specs.Constants.{largest_bundle}
use Rattle.cloak_model.specs.declared.image.Bundle.{Bundle}
use Rattle.cloak_model.specs.Bundle.{IsInGrammar, bundle_bytes}
use Rattle.hostile_kernels.proofs.Fits.{image_in}
use Rattle.hostile_kernels.proofs.Made.{ok-then}
use Rattle.hostile_kernels.proofs.making.hostile.Goals as goal

pub returns-clause-value : goal.returns-clause-value
returns-clause-value c = ok-then c.image.result c.image.ensures (λ b made. made ∙ c.draft.ensures)

pub returns-clause-in_grammar : goal.returns-clause-in_grammar
returns-clause-in_grammar c =
    ok-then c.image.result (returns-clause-value c)
    (λ b is. subst IsInGrammar (sym is) (image_in c.args.number c.requires).0)

pub returns-clause-fits : goal.returns-clause-fits
returns-clause-fits c =
    ok-then c.image.result (returns-clause-value c)
    (λ b is. subst (λ (x : Bundle). length (bundle_bytes 2 x) ≤ largest_bundle) (sym is) (image_in c.args.number c.requires).1)
