use Rattle.std.proofs.Common.{subst, arith}
use Rattle.std.proofs.lemmas.List.{take_all}
use Rattle.std.proofs.lemmas.List.Elements.{All-more}
use Rattle.std.specs.Prelude.{All}
use Rattle.frozen_run.specs.Shapes.{HasDomainShape}
use Rattle.frozen_commands.proofs.shapes.domains_have_shape.Goals as goal

pub loop-domain-preserved : goal.loop-domain-preserved
loop-domain-preserved c =
    All-more HasDomainShape c.args.domains.now c.loop-domain.domain-index _ c.loop-domain-test.true
    c.loop-domain.invariant c.domain_has_shape.ensures

pub returns : goal.returns
returns c =
    subst (All HasDomainShape) (take_all c.loop-domain.domain-index c.args.domains.now (omega (arith, c.loop-domain-test.false)))
    c.loop-domain.invariant
