use Rattle.std.proofs.Common.{refl}
use Rattle.cloaked_side.proofs.Answering.{plain_told}
use Rattle.cloaked_side.proofs.Serving.{wrap_inside}
use Rattle.cloaked_side.proofs.program_side.ProgramSidePageSide.read.Goals as goal

pub returns-clause-follows : goal.returns-clause-follows
returns-clause-follows g c first w sees unclashed =
    wrap_inside g.E.Emit.gave first.side c.args.self.now.side _ _ _ refl sees.1
    (plain_told g.E.Emit.gave first.side c.args.self.now.side c.args.q c.args.at c.args.width c.read_plain.result w sees.0
    c.requires.reached.drawn c.read_plain.ensures.model)
