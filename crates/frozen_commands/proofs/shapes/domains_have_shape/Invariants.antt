use Rattle.std.proofs.Common.{take}
use Rattle.std.specs.Prelude.{All}
use Rattle.frozen_run.specs.Shapes.{HasDomainShape}
use Rattle.frozen_commands.proofs.shapes.domains_have_shape.Given as goal

abbrev pub invariant-loop-domain : goal.invariant-loop-domain
invariant-loop-domain l = All HasDomainShape (take l.domain-index l.domains)
