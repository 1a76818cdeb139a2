use Rattle.cloaked_side.proofs.Serving.{served_is}
use Rattle.cloaked_side.proofs.program_side.ProgramSide.prove_served.Goals as goal

pub returns-clause-own : goal.returns-clause-own
returns-clause-own g c = (served_is c.args.self.now.side c.args.domain c.ranges.domain.fits c.requires).0

pub returns-clause-there : goal.returns-clause-there
returns-clause-there g c = (served_is c.args.self.now.side c.args.domain c.ranges.domain.fits c.requires).1
